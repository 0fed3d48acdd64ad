use Rattle.std.proofs.Common.{◌≡◌, ◌∙◌, ℤ, FitsSigned, w64, Some, cond, rules, refl, length}
use Rattle.std.specs.Ordering.{int_eq}
use Rattle.std.proofs.lemmas.Int.{to_z-of_z}
use Rattle.wd_value.specs.declared.value.Value.TheVariants.{Int}
use Rattle.wd_sort.specs.declared.known.Known.{Known}
use Rattle.wd_sort.specs.Known.{place_in}
use Rattle.wd_sort.proofs.Knowing.{AreKnown-whole}
use Rattle.wd_sort.proofs.known.Known.whole_number.Goals as goal

pub returns-in_ok-insert-in-None-clause-known : goal.returns-in_ok-insert-in-None-clause-known
returns-in_ok-insert-in-None-clause-known c =
    let old = c.args.self.now in
    let new : Known = record { values = c.push.new.self; texts = c.args.self.now.texts; wholes = c.insert.new.self } in
    let is : c.len-number.result ≡ length old.values.items = search rules in
    let fits : FitsSigned w64 c.args.whole = search rules in
    let wholes : (n : ℤ) → place_in new (Int n) ≡ cond (int_eq c.args.whole n) (Some (length old.values.items)) (place_in old (Int n)) = λ n.
    (c.in_ok-insert-in-None.ensures.updates.0 n ∙ (λ j. cond (int_eq (to_z-of_z w64 c.args.whole fits j) n) (Some (is j)) (place_in old (Int n)))) in
    AreKnown-whole old new c.args.value c.in_ok-push-in-None.ensures.items c.requires.known c.args.whole c.requires.whole wholes (λ t. refl)
