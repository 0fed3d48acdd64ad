-- A witness that is shown is refused for nothing, and what refuses choices refuses their witness.
use Rattle.std.proofs.Common.{◌≡◌, ℕ, List, ◌∙◌, ap, subst, sym, refl, true, is_some, inl, inr}
use Rattle.std.proofs.lemmas.Bool.{false≢true}
use Rattle.wd_schema.specs.Laws.{HasOneMeaning}
use Rattle.wd_schema.specs.Meets.{Meets}
use Rattle.wd_schema.specs.Tables.{TableRule}
use Rattle.wd_plan.specs.Plans.{PlanTree}
use Rattle.wd_query.specs.Causes.{text_number}
use Rattle.wd_query.specs.Laws.{HasMeaningOrCause, HasOnePlan}
use Rattle.wd_resolve.specs.Laws.{PlansFit}
use Rattle.wd_rules.specs.Laws.{NeverBoth}
use Rattle.wd_accept.proofs.Verdicts.{every, no_number}
use Rattle.wd_witness_text.specs.Json.{Spells}
use Rattle.wd_witness_text.specs.Laws.{IsReadBack, SpellsOne}
use Rattle.wd_witness_text.specs.Refusals as witnesses
use Rattle.wd_witness_text.specs.Witnesses.{WitnessRecord, instance_under}
use Rattle.wd_refute.specs.Laws.{IsShown, RefutedHasNoCertificate, RefutedIsTaken, ShownIsNotRefused}
use Rattle.wd_refute.specs.Refutation.{IsTaken, IsTrue, RefusesChoices, RefusesText, RefusesWitness, SpellsRefused, SpellsTrue, refusal_number}
use Rattle.wd_refute.specs.declared.error.Refusal.{Refusal}
use Rattle.wd_refute.specs.declared.error.Refusal.TheVariants as refusal
use Rattle.wd_refute.specs.declared.error.WitnessError.TheVariants as error

-- the choices of a true witness are valid
are_valid : (tables : List TableRule) (plan : PlanTree) (w : WitnessRecord) → IsTrue tables plan w → RefusesChoices refusal.NotValid plan (instance_under tables w) w.first w.second → ⊥
are_valid tables plan w is (inl wrong) = wrong is.first
are_valid tables plan w is (inr wrong) = wrong is.second

-- no cause refuses a witness that is shown
not_refused : (tables : List TableRule) (plan : PlanTree) (w : WitnessRecord) → IsShown tables plan w → (r : Refusal) → is_some (refusal_number r) ≡ true → RefusesWitness r tables plan w → ⊥
not_refused tables plan w shown (refusal.Text e) some cause = cause
not_refused tables plan w shown refusal.NotMet some cause = cause shown.is_true.meets
not_refused tables plan w shown refusal.NotValid some cause = are_valid tables plan w shown.is_true cause.choices
not_refused tables plan w shown refusal.OneAnswer some cause = shown.is_true.differ cause.choices.agree
not_refused tables plan w shown refusal.TooManyRows some cause = by cause.choices
  where
    by : RefusesChoices refusal.TooManyRows plan (instance_under tables w) w.first w.second → ⊥
    by (inl large) = false≢true (sym shown.first_small ∙ large)
    by (inr large) = false≢true (sym shown.second_small ∙ large)
not_refused tables plan w shown refusal.OutOfMemory some cause = false≢true some

pub shown_is_not_refused : SpellsOne → IsReadBack → ShownIsNotRefused
shown_is_not_refused spells_one is_read_back tables plan w witness r shown spelled some refused = by r some refused
  where
    of : (r : Refusal) → is_some (refusal_number r) ≡ true → SpellsRefused r witness tables plan → ⊥
    of r some cause = not_refused tables plan w shown r some (subst (RefusesWitness r tables plan) (spells_one witness cause.0 w cause.1 spelled) cause.2)

    by : (r : Refusal) → is_some (refusal_number r) ≡ true → RefusesText r witness tables plan → ⊥
    by (refusal.Text e) some cause = false≢true (subst (λ e. is_some (witnesses.number_of e) ≡ true) (is_read_back tables witness w spelled shown.of_tables shown.fits e cause) some)
    by refusal.NotMet some cause = of refusal.NotMet some cause
    by refusal.NotValid some cause = of refusal.NotValid some cause
    by refusal.OneAnswer some cause = of refusal.OneAnswer some cause
    by refusal.TooManyRows some cause = of refusal.TooManyRows some cause
    by refusal.OutOfMemory some cause = false≢true some

-- over tables that meet the schema, what refuses the choices refuses the witness
pub choices_refused : (tables : List TableRule) (plan : PlanTree) (w : WitnessRecord) → Meets tables (instance_under tables w) → (r : Refusal) → RefusesChoices r plan (instance_under tables w) w.first w.second → RefusesWitness r tables plan w
choices_refused tables plan w meets (refusal.Text e) cause = cause
choices_refused tables plan w meets refusal.NotMet cause = absurd cause
choices_refused tables plan w meets refusal.NotValid cause = record { meets = meets; choices = cause }
choices_refused tables plan w meets refusal.OneAnswer cause = record { meets = meets; choices = cause }
choices_refused tables plan w meets refusal.TooManyRows cause = record { meets = meets; choices = cause }
choices_refused tables plan w meets refusal.OutOfMemory cause = tt

-- a witness that is refused is a cause to refuse the text that spells it
pub text_refused : (tables : List TableRule) (plan : PlanTree) (w : WitnessRecord) (witness : List ℕ) → Spells w witness → (r : Refusal) → RefusesWitness r tables plan w → RefusesText r witness tables plan
text_refused tables plan w witness spelled (refusal.Text e) cause = absurd cause
text_refused tables plan w witness spelled refusal.NotMet cause = (w, spelled, cause)
text_refused tables plan w witness spelled refusal.NotValid cause = (w, spelled, cause)
text_refused tables plan w witness spelled refusal.OneAnswer cause = (w, spelled, cause)
text_refused tables plan w witness spelled refusal.TooManyRows cause = (w, spelled, cause)
text_refused tables plan w witness spelled refusal.OutOfMemory cause = tt

pub refuted_has_no_certificate : HasOneMeaning → HasOnePlan → PlansFit → NeverBoth → RefutedHasNoCertificate
refuted_has_no_certificate one_meaning one_plan plans_fit never_both schema query witness refuted certificate accepted =
    let read = accepted.0 in
    let reads = accepted.1 in
    let shown = every one_meaning one_plan schema query (SpellsTrue witness) refuted.0 read refuted.1 reads refuted.2 in
    never_both reads.tables read.plan accepted.2.0 (instance_under reads.tables shown.said) shown.said.first shown.said.second (plans_fit reads.tables reads.tree read reads.means) accepted.2.2 shown.is_true

-- ---- what is accepted is taken

-- a true witness is refused only where memory runs out, or a step is too large
true_is_taken : (tables : List TableRule) (plan : PlanTree) (w : WitnessRecord) → IsTrue tables plan w → (r : Refusal) → RefusesWitness r tables plan w → IsTaken (error.Witness r)
true_is_taken tables plan w is (refusal.Text e) cause = absurd cause
true_is_taken tables plan w is refusal.NotMet cause = absurd (cause is.meets)
true_is_taken tables plan w is refusal.NotValid cause = absurd (are_valid tables plan w is cause.choices)
true_is_taken tables plan w is refusal.OneAnswer cause = absurd (is.differ cause.choices.agree)
true_is_taken tables plan w is refusal.TooManyRows cause = inr refl
true_is_taken tables plan w is refusal.OutOfMemory cause = inl refl

text_is_taken : SpellsOne → IsReadBack → (witness : List ℕ) (tables : List TableRule) (plan : PlanTree) → SpellsTrue witness tables plan → (r : Refusal) → RefusesText r witness tables plan → IsTaken (error.Witness r)
text_is_taken spells_one is_read_back witness tables plan t r cause = by r cause
  where
    of : (r : Refusal) → SpellsRefused r witness tables plan → IsTaken (error.Witness r)
    of r cause = true_is_taken tables plan t.said t.is_true r (subst (RefusesWitness r tables plan) (spells_one witness cause.0 t.said cause.1 t.spelled) cause.2)

    by : (r : Refusal) → RefusesText r witness tables plan → IsTaken (error.Witness r)
    by (refusal.Text e) cause = inl (ap witnesses.number_of (is_read_back tables witness t.said t.spelled t.of_tables t.fits e cause))
    by refusal.NotMet cause = of refusal.NotMet cause
    by refusal.NotValid cause = of refusal.NotValid cause
    by refusal.OneAnswer cause = of refusal.OneAnswer cause
    by refusal.TooManyRows cause = of refusal.TooManyRows cause
    by refusal.OutOfMemory cause = inl refl

pub refuted_is_taken : HasMeaningOrCause → HasOneMeaning → HasOnePlan → SpellsOne → IsReadBack → RefutedIsTaken
refuted_is_taken meaning_or_cause one_meaning one_plan spells_one is_read_back schema query witness (error.Texts refusal) meaning refuted cause = inl (no_number (text_number refusal) (λ some. meaning_or_cause schema query refusal meaning some cause))
refuted_is_taken meaning_or_cause one_meaning one_plan spells_one is_read_back schema query witness (error.Witness r) meaning refuted cause =
    text_is_taken spells_one is_read_back witness cause.1.tables cause.0.plan
    (every one_meaning one_plan schema query (SpellsTrue witness) refuted.0 cause.0 refuted.1 cause.1 refuted.2) r cause.2
