-- What is found of a query's plan, the verdict on the query, and why there is none.
use Rattle.std.specs.Prelude.{◌≡◌, ℕ, true, List, Option, Some, None, ⊤}
use Rattle.wd_schema.specs.Schemas.{schema_of}
use Rattle.wd_schema.specs.Tables.{TableRule}
use Rattle.wd_plan.specs.Fits.{fits}
use Rattle.wd_plan.specs.Plans.{PlanTree, plan_of}
use Rattle.wd_analyse.specs.Analysis.{IsAnswer}
use Rattle.wd_analyse.specs.declared.analysis.Analysis.{Analysis}
use Rattle.wd_analyse.specs.declared.analysis.Analysis.TheVariants.{Certified, Open}
use Rattle.wd_analyse.specs.declared.analysis.Reason.{Reason}
use Rattle.wd_resolve.specs.Answers.{Answer}
use Rattle.wd_resolve.specs.Laws.{Reads}
use Rattle.wd_complete.specs.Queries.{IsPlainQuery}
use Rattle.wd_query.specs.Causes.{HasTextCause, text_number, text_place}
use Rattle.wd_query.specs.Readings.{ForReading, IsRead}
use Rattle.wd_witness_text.specs.declared.witness.Witness.{Witness}
use Rattle.wd_partition.specs.declared.turn.Turn.TheVariants.{Reversed}
use Rattle.wd_seek.specs.Sought.{IsSought, to_try}
use Rattle.wd_decide.specs.declared.error.DecideError.{DecideError}
use Rattle.wd_decide.specs.declared.error.DecideError.TheVariants.{Texts, OutOfMemory}
use Rattle.wd_decide.specs.declared.verdict.Examined.{Examined}
use Rattle.wd_decide.specs.declared.verdict.Verdict.{Verdict}
use Rattle.wd_decide.specs.declared.verdict.Verdict.TheVariants.{Deterministic, Depends, Unknown}

-- the plan reads the two texts and fits the schema, and this is the analysis of it
pub record IsExamined (schema query : List ℕ) (examined : Examined) : Type 0 where
  pub read : IsRead schema query examined.planned
  pub fits : fits (schema_of examined.planned.schema) (plan_of examined.planned.resolved.plan) ≡ true
  pub analysed : IsAnswer (schema_of examined.planned.schema) (plan_of examined.planned.resolved.plan) examined.analysis

-- the search for a witness, through the candidates for these reasons, ends with this witness or none
abbrev pub EndsWith : List TableRule → PlanTree → List Reason → Option Witness → Type 0
EndsWith tables plan reasons found = (n : ℕ) × IsSought Reversed tables plan (to_try tables plan reasons) 0 found n

-- the verdict that an analysis gives: its certificate; else the witness that is found against the plan, or the reasons where none is
abbrev pub IsVerdictOf : List TableRule → PlanTree → Analysis → Verdict → Type 0
IsVerdictOf tables plan (Certified certificate) (Deterministic reported) = certificate ≡ reported
IsVerdictOf tables plan (Open found marks) (Depends witness) = EndsWith tables plan found.items (Some witness)
IsVerdictOf tables plan (Open found marks) (Unknown reasons) = (found ≡ reasons) × EndsWith tables plan found.items None
IsVerdictOf tables plan analysis verdict = ⊥

-- the verdict is that of the analysis of the plan that reads the two texts
abbrev pub IsVerdict : List ℕ → List ℕ → Verdict → Type 0
IsVerdict schema query verdict = ForReading schema query (λ tables plan. (analysis : Analysis) × IsAnswer tables plan analysis × IsVerdictOf tables plan analysis verdict)

-- a certificate or a witness is reported
abbrev pub IsDecided : Verdict → Type 0
IsDecided (Deterministic certificate) = ⊤
IsDecided (Depends witness) = ⊤
IsDecided (Unknown reasons) = ⊥

-- where a plan reads the two texts and the query is of the plain class, a certificate or a witness is reported
abbrev pub IsDecidedIfPlain : List ℕ → List ℕ → Verdict → Type 0
IsDecidedIfPlain schema query verdict = (read : Answer) (reads : Reads schema query read) → IsPlainQuery reads.tables reads.tree → IsDecided verdict

-- ---- why there is no verdict

abbrev pub HasCause : List ℕ → List ℕ → DecideError → Type 0
HasCause schema query (Texts error) = HasTextCause schema query error
HasCause schema query OutOfMemory = ⊤

abbrev pub decide_number : DecideError → Option ℕ
decide_number (Texts error) = text_number error
decide_number OutOfMemory = None

abbrev pub decide_place : DecideError → Option ℕ
decide_place (Texts error) = text_place error
decide_place OutOfMemory = None
