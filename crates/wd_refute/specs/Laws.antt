-- What the definitions of acceptance and refusal imply.
use Rattle.std.specs.Prelude.{◌≡◌, ℕ, List, false, IsSome}
use Rattle.wd_schema.specs.Tables.{TableRule}
use Rattle.wd_plan.specs.Plans.{PlanTree}
use Rattle.wd_query.specs.Laws.{HaveMeaning}
use Rattle.wd_eval.specs.Steps.{has_large_step}
use Rattle.wd_witness_text.specs.Json.{Spells}
use Rattle.wd_witness_text.specs.Witnesses.{AllFit64, IsOf, WitnessRecord, instance_under}
use Rattle.wd_refute.specs.Refutation.{HasCause, HaveNoCertificate, IsRefuted, IsTaken, IsTrue, RefusesText, refusal_number}
use Rattle.wd_refute.specs.declared.error.Refusal.{Refusal}
use Rattle.wd_refute.specs.declared.error.WitnessError.{WitnessError}

-- where a witness is accepted for the texts of a schema and a query, no certificate is accepted for them
abbrev pub RefutedHasNoCertificate : Type 0
RefutedHasNoCertificate = (schema query witness : List ℕ) → IsRefuted schema query witness → HaveNoCertificate schema query

-- Texts that have a meaning, with a witness that is accepted for them, have no cause of a refusal except that memory runs out, or 802.
abbrev pub RefutedIsTaken : Type 0
RefutedIsTaken = (schema query witness : List ℕ) (e : WitnessError) → HaveMeaning schema query → IsRefuted schema query witness → HasCause schema query witness e → IsTaken e

-- a witness over tables of the schema that is true of a plan, no step of which is too large under its choices
pub record IsShown (tables : List TableRule) (plan : PlanTree) (w : WitnessRecord) : Type 0 where
  pub of_tables : IsOf tables w
  pub fits : AllFit64 w
  pub is_true : IsTrue tables plan w
  pub first_small : has_large_step plan (instance_under tables w) w.first ≡ false
  pub second_small : has_large_step plan (instance_under tables w) w.second ≡ false

-- a text that spells such a witness has no cause of a refusal with a number: neither of 601 to 604 nor of 802
abbrev pub ShownIsNotRefused : Type 0
ShownIsNotRefused = (tables : List TableRule) (plan : PlanTree) (w : WitnessRecord) (witness : List ℕ) (r : Refusal)
    → IsShown tables plan w → Spells w witness → IsSome (refusal_number r) → RefusesText r witness tables plan → ⊥
