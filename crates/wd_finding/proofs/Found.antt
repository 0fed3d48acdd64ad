-- What is found of a query, from the verdict on it and what the analysis found.
use Rattle.std.proofs.Common.{◌≡◌, ℕ, List, map, subst, sym, Option}
use Rattle.std.specs.Prelude.{IfSome}
use Rattle.wd_schema.specs.Schemas.{schema_of}
use Rattle.wd_plan.specs.Outcomes.{RowsOrFault}
use Rattle.wd_plan.specs.Plans.{PlanTree, plan_of}
use Rattle.wd_value.specs.Rows.{Instance}
use Rattle.wd_analyse.specs.Analysis.{IsAnswer}
use Rattle.wd_eval.specs.Judged.{IsOutcome}
use Rattle.wd_query.specs.Readings.{IsRead}
use Rattle.wd_query.specs.declared.read.PlannedQuery.{PlannedQuery}
use Rattle.wd_accept.specs.Acceptance.{HaveOneAnswer}
use Rattle.wd_certain.specs.Certain.{IsCertain}
use Rattle.wd_certain.specs.declared.certain.Certain.{Certain}
use Rattle.wd_decide.specs.Verdicts.{IsExamined, IsVerdict}
use Rattle.wd_decide.specs.declared.verdict.Examined.{Examined}
use Rattle.wd_decide.specs.declared.verdict.Verdict.{Verdict}
use Rattle.wd_further.specs.Finds.{IsFound}
use Rattle.wd_further.specs.declared.judge.Found.{Found}
use Rattle.wd_finding.specs.declared.finding.Finding.{Finding}
use Rattle.wd_finding.specs.Findings.{AreAnswers, AreMarked, IsFinding, IsUnknown, open_in, reason_of, witness_shown}

-- what a simpler plan shows of a query with this verdict
pub record Shown (schema query : List ℕ) (verdict : Verdict) (o : Option Certain) : Type 0 where
  pub unknown : IfSome o (λ c. IsUnknown verdict)
  pub certain : IfSome o (IsCertain schema query)
  pub one_answer : IfSome o (λ c. HaveOneAnswer schema query)

pub finding_is : (schema query : List ℕ) (verdict : Verdict) (certain : Option Certain) (further : Option Found) (examined : Examined) (finding : Finding)
    → IsVerdict schema query verdict → IsExamined schema query examined → Shown schema query verdict certain → IfSome further (IsFound schema query)
    → finding.verdict ≡ verdict → finding.certain ≡ certain → finding.further ≡ further → finding.planned ≡ examined.planned
    → map reason_of finding.places.items ≡ open_in certain examined.analysis
    → AreAnswers (schema_of examined.planned.schema) (plan_of examined.planned.resolved.plan) (witness_shown verdict further) finding.answers
    → AreMarked (plan_of examined.planned.resolved.plan) (witness_shown verdict further) finding.ties.items
    → IsFinding schema query finding
finding_is schema query verdict certain further examined finding v is shown found same told sought planned reasons answers ties = record {
  read = subst (λ (p : PlannedQuery). IsRead schema query p) (sym planned) is.read;
  verdict = subst (λ (w : Verdict). IsVerdict schema query w) (sym same) v;
  unknown = here.unknown;
  certain = here.certain;
  one_answer = here.one_answer;
  analysis = examined.analysis;
  analysed = subst (λ (p : PlannedQuery). IsAnswer (schema_of p.schema) (plan_of p.resolved.plan) examined.analysis) (sym planned) is.analysed;
  reasons = subst (λ (o : Option Certain). map reason_of finding.places.items ≡ open_in o examined.analysis) (sym told) reasons;
  further = subst (λ (o : Option Found). IfSome o (IsFound schema query)) (sym sought) found;
  answers =
      subst (λ (p : PlannedQuery). AreAnswers (schema_of p.schema) (plan_of p.resolved.plan) (witness_shown finding.verdict finding.further) finding.answers) (sym planned)
      (subst (λ (o : Option Found). AreAnswers (schema_of examined.planned.schema) (plan_of examined.planned.resolved.plan) (witness_shown finding.verdict o) finding.answers) (sym sought)
      (subst (λ (w : Verdict). AreAnswers (schema_of examined.planned.schema) (plan_of examined.planned.resolved.plan) (witness_shown w further) finding.answers) (sym same) answers));
  ties =
      subst (λ (p : PlannedQuery). AreMarked (plan_of p.resolved.plan) (witness_shown finding.verdict finding.further) finding.ties.items) (sym planned)
      (subst (λ (o : Option Found). AreMarked (plan_of examined.planned.resolved.plan) (witness_shown finding.verdict o) finding.ties.items) (sym sought)
      (subst (λ (w : Verdict). AreMarked (plan_of examined.planned.resolved.plan) (witness_shown w further) finding.ties.items) (sym same) ties));
}
  where
    here : Shown schema query finding.verdict finding.certain
    here = subst (λ (w : Verdict). Shown schema query w finding.certain) (sym same) (subst (λ (o : Option Certain). Shown schema query verdict o) (sym told) shown)

-- the same outcome over an instance that is equal
pub outcome_over : (plan : PlanTree) (instance other : Instance) (choice : List (List ℕ)) (o : RowsOrFault) → instance ≡ other → IsOutcome plan instance choice o → IsOutcome plan other choice o
outcome_over plan instance other choice o e h = subst (λ (i : Instance). IsOutcome plan i choice o) e h
