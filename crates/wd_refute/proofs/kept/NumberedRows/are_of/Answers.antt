use Rattle.std.proofs.Common.{◌≡◌, ◌==◌, ◌∙◌, refl, sym, subst}
use Rattle.std.proofs.lemmas.Bool.{false≢true}
use Rattle.std.proofs.lemmas.Bool.Decides.{Decides-eqb}
use Rattle.std.proofs.lemmas.Slice.Eq.{slice_eq-Decides}
use lib.Pointwise.{pointwise}
use Rattle.wd_refute.specs.Numbers.{AreSortedNumbers, HaveNumbers}
use Rattle.wd_refute.proofs.Numbering.{HaveNumbers-same, SameBag-by_numbers}
use Rattle.wd_refute.proofs.kept.NumberedRows.are_of.Goals as goal

pub returns-in-Some : goal.returns-in-Some
returns-in-Some c others s =
    let places = c.args.self.now.places.items in
    let rows = c.args.rows.now in
    let own = c.args.self.now.numbers.items in
    let found = c.in-Some.numbers.items in
    let t : AreSortedNumbers places rows found = subst (λ ps. AreSortedNumbers ps rows found) c.deref.ensures.value (rw c.in-Some.is at c.in_ok-numbers.ensures.numbers) in
    let by = SameBag-by_numbers places others rows own found s t in
    let test : c.eq.result ≡ pointwise ◌==◌ found own = rw (c.as_slice.ensures.value, c.as_slice-in-Some.ensures.value) at c.eq.ensures in
    let tells = slice_eq-Decides Decides-eqb found own (pointwise ◌==◌ found own) refl in
    (λ h. by.0 (sym (tells.0 (sym test ∙ h))), λ h. test ∙ tells.1 (sym (by.1 h)))

pub returns-in-None : goal.returns-in-None
returns-in-None c others s =
    let places = c.args.self.now.places.items in
    let rows = c.args.rows.now in
    let none = subst (λ ps. HaveNumbers ps rows → ⊥) c.deref.ensures.value (rw c.in-None.is at c.in_ok-numbers.ensures.none) in
    (λ h. absurd (false≢true h), λ h. absurd (none (HaveNumbers-same places others rows c.args.self.now.numbers.items s h)))
