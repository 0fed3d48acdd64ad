use Rattle.std.proofs.Common.{◌≡◌, ◌∙◌, None, Some, false, ap, refl, sym}
use Rattle.std.specs.Prelude.{slice_get}
use Rattle.std.specs.Option.{option_map_or}
use Rattle.std.proofs.lemmas.Option.{slice_get_past, slice_get_read}
use Rattle.wd_value.specs.Values.{same}
use Rattle.wd_value.proofs.SameLaws.{same-Decides}
use Rattle.wd_refute.proofs.Numbering.{same_tests}
use Rattle.wd_refute.proofs.places.Places.stands_at.Goals as goal

pub returns-in-Some : goal.returns-in-Some
returns-in-Some c =
    let found = c.in-Some.found.now in
    let value = c.args.value.now in
    let h = c.in-Some.ensures.lookup in
    let is : slice_get c.args.self.now.values.items c.args.place ≡ Some found = ap (λ l. slice_get l c.args.place) (sym c.deref.ensures.value) ∙ slice_get_read c.deref.result.now _ c.args.place found refl h.3.0 h.1 in
    let test : c.same.result ≡ same found value = same_tests c.same.result (same found value) (λ t. (same-Decides found value).1 (c.same.ensures.0 t)) (λ t. c.same.ensures.1 ((same-Decides found value).0 t)) in
    test ∙ ap (λ o. option_map_or (λ found. same found c.args.value.now) o false) (sym is)

pub returns-in-None : goal.returns-in-None
returns-in-None c =
    let is : slice_get c.args.self.now.values.items c.args.place ≡ None = ap (λ l. slice_get l c.args.place) (sym c.deref.ensures.value) ∙ slice_get_past c.deref.result.now c.args.place c.in-None.ensures.lookup.3 in
    ap (λ o. option_map_or (λ found. same found c.args.value.now) o false) (sym is)
