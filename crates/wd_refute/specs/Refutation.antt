-- Which witnesses are accepted for the texts of a schema and a query, and why others are refused.
use Rattle.std.specs.Prelude.{◌≡◌, ◌⊎◌, ℕ, List, true, Option, Some, None, ⊤}
use Rattle.wd_value.specs.Rows.{Instance}
use Rattle.wd_schema.specs.Meets.{Meets}
use Rattle.wd_schema.specs.Tables.{TableRule}
use Rattle.wd_plan.specs.Choices.{IsValidChoice}
use Rattle.wd_plan.specs.Outcomes.{Agree, outcome}
use Rattle.wd_plan.specs.Plans.{PlanTree}
use Rattle.wd_eval.specs.Steps.{has_large_step}
use Rattle.wd_rules.specs.Laws.{IsTrueWitness}
use Rattle.wd_accept.specs.Acceptance.{IsAccepted}
use Rattle.wd_query.specs.Causes.{HasTextCause, text_number, text_place}
use Rattle.wd_query.specs.Readings.{ForReading}
use Rattle.wd_query.specs.declared.error.TextError.TheVariants as text
use Rattle.wd_witness_text.specs.Json.{Spells}
use Rattle.wd_witness_text.specs.Refusals as witnesses
use Rattle.wd_witness_text.specs.Witnesses.{AllFit64, IsOf, WitnessRecord, instance_under}
use Rattle.wd_refute.specs.declared.error.Refusal.{Refusal}
use Rattle.wd_refute.specs.declared.error.Refusal.TheVariants as refusal
use Rattle.wd_refute.specs.declared.error.WitnessError.{WitnessError}
use Rattle.wd_refute.specs.declared.error.WitnessError.TheVariants as error
use Rattle.wd_refute.specs.declared.error.WitnessOrigin.{WitnessOrigin}
use Rattle.wd_refute.specs.declared.error.WitnessOrigin.TheVariants as origin

-- ---- what is accepted

-- the witness is true of the plan: its tables meet the schema, its choices are valid, and their outcomes do not agree
abbrev pub IsTrue : List TableRule → PlanTree → WitnessRecord → Type 0
IsTrue tables plan w = IsTrueWitness tables plan (instance_under tables w) w.first w.second

-- a text spells a witness over tables of the schema, in numbers of 64 bits, which is true of a plan
pub record SpellsTrue (witness : List ℕ) (tables : List TableRule) (plan : PlanTree) : Type 0 where
  pub said : WitnessRecord
  pub spelled : Spells said witness
  pub of_tables : IsOf tables said
  pub fits : AllFit64 said
  pub is_true : IsTrue tables plan said

-- the witness is true of the plan of the texts of a schema and a query
abbrev pub IsRefuted : List ℕ → List ℕ → List ℕ → Type 0
IsRefuted schema query witness = ForReading schema query (SpellsTrue witness)

-- no certificate is accepted for the texts of a schema and a query
abbrev pub HaveNoCertificate : List ℕ → List ℕ → Type 0
HaveNoCertificate schema query = (certificate : List ℕ) → ¬ IsAccepted schema query certificate

-- ---- what is refused

-- two valid choices, under which a plan has one answer
pub record IsOneAnswer (plan : PlanTree) (instance : Instance) (first second : List (List ℕ)) : Type 0 where
  pub first_valid : IsValidChoice plan instance first
  pub second_valid : IsValidChoice plan instance second
  pub agree : Agree (outcome plan instance first) (outcome plan instance second)

-- why the two choices of a witness over an instance are refused: one is not valid, or a step is too large under one, or both are valid
-- and their outcomes agree
abbrev pub RefusesChoices : Refusal → PlanTree → Instance → List (List ℕ) → List (List ℕ) → Type 0
RefusesChoices refusal.NotValid plan instance first second = ¬ IsValidChoice plan instance first ⊎ ¬ IsValidChoice plan instance second
RefusesChoices refusal.OneAnswer plan instance first second = IsOneAnswer plan instance first second
RefusesChoices refusal.TooManyRows plan instance first second = (has_large_step plan instance first ≡ true) ⊎ (has_large_step plan instance second ≡ true)
RefusesChoices refusal.OutOfMemory plan instance first second = ⊤
RefusesChoices _ plan instance first second = ⊥

-- the tables of a witness meet the schema, and its choices are refused over them
pub record MeetsAndRefuses (r : Refusal) (tables : List TableRule) (plan : PlanTree) (w : WitnessRecord) : Type 0 where
  pub meets : Meets tables (instance_under tables w)
  pub choices : RefusesChoices r plan (instance_under tables w) w.first w.second

-- why a witness is refused for a plan: its tables do not meet the schema, or they do and its choices are refused
abbrev pub RefusesWitness : Refusal → List TableRule → PlanTree → WitnessRecord → Type 0
RefusesWitness (refusal.Text e) tables plan w = ⊥
RefusesWitness refusal.NotMet tables plan w = ¬ Meets tables (instance_under tables w)
RefusesWitness refusal.NotValid tables plan w = MeetsAndRefuses refusal.NotValid tables plan w
RefusesWitness refusal.OneAnswer tables plan w = MeetsAndRefuses refusal.OneAnswer tables plan w
RefusesWitness refusal.TooManyRows tables plan w = MeetsAndRefuses refusal.TooManyRows tables plan w
RefusesWitness refusal.OutOfMemory tables plan w = ⊤

-- the text spells a witness that is refused
abbrev pub SpellsRefused : Refusal → List ℕ → List TableRule → PlanTree → Type 0
SpellsRefused r witness tables plan = (w : WitnessRecord) × Spells w witness × RefusesWitness r tables plan w

-- why a text is refused for a plan: it does not spell a witness over tables of the schema, or it spells one that is refused
abbrev pub RefusesText : Refusal → List ℕ → List TableRule → PlanTree → Type 0
RefusesText (refusal.Text e) witness tables plan = witnesses.HasCause tables e witness
RefusesText refusal.NotMet witness tables plan = SpellsRefused refusal.NotMet witness tables plan
RefusesText refusal.NotValid witness tables plan = SpellsRefused refusal.NotValid witness tables plan
RefusesText refusal.OneAnswer witness tables plan = SpellsRefused refusal.OneAnswer witness tables plan
RefusesText refusal.TooManyRows witness tables plan = SpellsRefused refusal.TooManyRows witness tables plan
RefusesText refusal.OutOfMemory witness tables plan = ⊤

-- why the texts of a schema, a query and a witness are refused
abbrev pub HasCause : List ℕ → List ℕ → List ℕ → WitnessError → Type 0
HasCause schema query witness (error.Texts e) = HasTextCause schema query e
HasCause schema query witness (error.Witness r) = ForReading schema query (RefusesText r witness)

-- ---- numbers, places and origins

abbrev pub refusal_number : Refusal → Option ℕ
refusal_number (refusal.Text e) = witnesses.number_of e
refusal_number refusal.NotMet = Some 602
refusal_number refusal.NotValid = Some 603
refusal_number refusal.OneAnswer = Some 604
refusal_number refusal.TooManyRows = Some 802
refusal_number refusal.OutOfMemory = None

abbrev pub number_of : WitnessError → Option ℕ
number_of (error.Texts e) = text_number e
number_of (error.Witness r) = refusal_number r

-- a refusal that does not speak against the witness: memory ran out, or a step has too many rows to be evaluated
abbrev pub IsTaken : WitnessError → Type 0
IsTaken e = (number_of e ≡ None) ⊎ (number_of e ≡ Some 802)

abbrev pub place_of : WitnessError → Option ℕ
place_of (error.Texts e) = text_place e
place_of (error.Witness r) = None

abbrev pub witness_origin : Refusal → WitnessOrigin
witness_origin (refusal.Text e) = origin.Witness
witness_origin refusal.NotMet = origin.Witness
witness_origin refusal.NotValid = origin.Witness
witness_origin refusal.OneAnswer = origin.Witness
witness_origin refusal.TooManyRows = origin.Run
witness_origin refusal.OutOfMemory = origin.Witness

abbrev pub origin_of : WitnessError → WitnessOrigin
origin_of (error.Texts (text.Schema e)) = origin.Schema
origin_of (error.Texts (text.Query e)) = origin.Query
origin_of (error.Witness r) = witness_origin r
