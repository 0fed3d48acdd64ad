-- What a finding says.
use Rattle.std.specs.Prelude.{◌≡◌, ℕ, List, [], map, Option, Some, None, IfSome, option_map, ⊤}
use Rattle.wd_schema.specs.Schemas.{schema_of}
use Rattle.wd_schema.specs.Tables.{TableRule}
use Rattle.wd_plan.specs.Outcomes.{outcome_of}
use Rattle.wd_plan.specs.Plans.{PlanTree, plan_of}
use Rattle.wd_analyse.specs.Analysis.{IsAnswer}
use Rattle.wd_analyse.specs.declared.analysis.Analysis.{Analysis}
use Rattle.wd_analyse.specs.declared.analysis.Reason.{Reason}
use Rattle.wd_accept.specs.Acceptance.{HaveOneAnswer}
use Rattle.wd_certain.specs.Certain.{IsCertain}
use Rattle.wd_certain.specs.declared.certain.Certain.{Certain}
use Rattle.wd_eval.specs.Judged.{IsOutcome}
use Rattle.wd_query.specs.Readings.{IsRead}
use Rattle.wd_seek.specs.Sought.{reasons_of}
use Rattle.wd_candidates.specs.declared.origins.TableColumn.{TableColumn}
use Rattle.wd_ties.specs.Ties.{AreTies}
use Rattle.wd_decide.specs.Verdicts.{IsVerdict}
use Rattle.wd_decide.specs.declared.verdict.Verdict.{Verdict}
use Rattle.wd_decide.specs.declared.verdict.Verdict.TheVariants.{Deterministic, Depends, Unknown}
use Rattle.wd_further.specs.Finds.{IsFound}
use Rattle.wd_further.specs.declared.judge.Found.{Found}
use Rattle.wd_witness_text.specs.Witnesses.{WitnessRecord, instance_under, witness_of}
use Rattle.wd_witness_text.specs.declared.witness.Witness.{Witness}
use Rattle.wd_finding.specs.declared.answers.Answers.{Answers}
use Rattle.wd_finding.specs.declared.finding.Finding.{Finding}
use Rattle.wd_finding.specs.declared.place.OpenPlace.{OpenPlace}

-- the answers are what the plan gives over the witness's tables under its first choice and under its second, both of which are valid
pub record AreUnder (tables : List TableRule) (plan : PlanTree) (witness : WitnessRecord) (answers : Answers) : Type 0 where
  pub first : IsOutcome plan (instance_under tables witness) witness.first (outcome_of answers.first)
  pub second : IsOutcome plan (instance_under tables witness) witness.second (outcome_of answers.second)

-- the witness of a verdict, or the one that a further search finds where the verdict is UNKNOWN
abbrev pub witness_shown : Verdict → Option Found → Option Witness
witness_shown (Deterministic certificate) further = None
witness_shown (Depends witness) further = Some witness
witness_shown (Unknown reasons) further = option_map (λ (found : Found). found.witness) further

-- the answers that are shown: those of the witness, and none without a witness
abbrev pub AreAnswers : List TableRule → PlanTree → Option Witness → Option Answers → Type 0
AreAnswers tables plan None answers = answers ≡ None
AreAnswers tables plan (Some witness) answers = IfSome answers (AreUnder tables plan (witness_of witness))

-- the columns of tables that are marked: those by which rows tie that the witness's choices order differently; none without a witness
abbrev pub AreMarked : PlanTree → Option Witness → List TableColumn → Type 0
AreMarked plan None ties = ties ≡ []
AreMarked plan (Some witness) ties = AreTies plan (witness_of witness).first (witness_of witness).second ties

abbrev pub reason_of : OpenPlace → Reason
reason_of place = place.reason

abbrev pub IsUnknown : Verdict → Type 0
IsUnknown (Deterministic certificate) = ⊥
IsUnknown (Depends witness) = ⊥
IsUnknown (Unknown reasons) = ⊤

-- what is reported as open: what the analysis leaves open, or nothing where a simpler plan is certified
abbrev pub open_in : Option Certain → Analysis → List Reason
open_in None analysis = reasons_of analysis
open_in (Some certain) analysis = []

-- The plan reads the two texts, the verdict is one of `decide` on them; where that is UNKNOWN, there may be a certificate of a simpler
-- plan, and then the query has one answer; what is open is what the analysis of the plan leaves open; what a further search found is
-- true, and the answers and the marked columns are those of the witness.
pub record IsFinding (schema query : List ℕ) (finding : Finding) : Type 0 where
  pub read : IsRead schema query finding.planned
  pub verdict : IsVerdict schema query finding.verdict
  pub unknown : IfSome finding.certain (λ c. IsUnknown finding.verdict)
  pub certain : IfSome finding.certain (IsCertain schema query)
  pub one_answer : IfSome finding.certain (λ c. HaveOneAnswer schema query)
  pub analysis : Analysis
  pub analysed : IsAnswer (schema_of finding.planned.schema) (plan_of finding.planned.resolved.plan) analysis
  pub reasons : map reason_of finding.places.items ≡ open_in finding.certain analysis
  pub further : IfSome finding.further (IsFound schema query)
  pub answers : AreAnswers (schema_of finding.planned.schema) (plan_of finding.planned.resolved.plan) (witness_shown finding.verdict finding.further) finding.answers
  pub ties : AreMarked (plan_of finding.planned.resolved.plan) (witness_shown finding.verdict finding.further) finding.ties.items
