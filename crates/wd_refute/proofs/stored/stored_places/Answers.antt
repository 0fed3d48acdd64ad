use Rattle.std.proofs.Common.{◌≡◌, ◌∙◌, ◌++◌, ◌∷◌, [], IfSome, None, Option, rules, slice_index_or, subst, sym, ℕ}
use Rattle.std.proofs.lemmas.List.{get_or_default}
use Rattle.wd_refute.specs.Stored.{ArePlaces}
use Rattle.wd_refute.specs.declared.places.Places.{Places}
use Rattle.wd_refute.specs.declared.stored.StoredPlaces.{StoredPlaces}
use Rattle.wd_refute.proofs.Numbering.{each_also}
use Rattle.wd_refute.proofs.stored.stored_places.Goals as goal

pub loop-column-preserved : goal.loop-column-preserved
loop-column-preserved c =
    let rows = c.args.rows.now in
    let AreFor : ℕ → Option StoredPlaces → Type 0 = λ k of_column. (column : Places) → IfSome of_column (ArePlaces (slice_index_or c.args.places.now k column) rows k) in
    let found = c.loop-column.found.items in
    let one = c.in_ok-column_places.field-0 in
    let at : (column : Places) → c.index-places-column.result ≡ slice_index_or c.args.places.now c.loop-column.column column = λ column. c.index-places-column.is ∙ get_or_default c.args.places.now c.loop-column.column c.index-places-column.result column c.loop-column-test.true in
    let here : AreFor c.loop-column.column one = λ column. subst (λ p. IfSome one (ArePlaces p rows c.loop-column.column)) (at column) c.in_ok-column_places.ensures in
    let new : c.push.new.self.items ≡ found ++ one ∷ [] = search rules in (
      search rules,
      λ k low. subst (λ all. AreFor k (slice_index_or all k None)) (sym new) (each_also None AreFor found one c.loop-column.column c.loop-column.invariant.0 here c.loop-column.invariant.1 k low),
    )
