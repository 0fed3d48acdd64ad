use Rattle.std.proofs.Common.{◌≡◌, ◌∙◌, ◌++◌, ◌∷◌, [], None, Option, rules, slice_index_or, subst, sym, ap, ℕ}
use Rattle.wd_value.specs.Rows.{column_of, row_at}
use Rattle.wd_refute.specs.Numbers.{place_in}
use Rattle.wd_refute.proofs.Numbering.{each_also}
use Rattle.wd_refute.proofs.stored.table_places.Goals as goal

pub loop-position-preserved : goal.loop-position-preserved
loop-position-preserved c =
    let IsPlace : ℕ → Option ℕ → Type 0 = λ q place. place ≡ place_in c.args.places.now (column_of (row_at c.args.table.now q) c.args.column) in
    let found = c.loop-position.found.items in
    let new : c.push.new.self.items ≡ found ++ c.place_of.result ∷ [] = search rules in
    let here : IsPlace c.loop-position.position c.place_of.result = c.place_of.ensures ∙ ap (place_in c.args.places.now) c.value.ensures in (
      search rules,
      λ q low. subst (λ all. IsPlace q (slice_index_or all q None)) (sym new) (each_also None IsPlace found c.place_of.result c.loop-position.position c.loop-position.invariant.0 here c.loop-position.invariant.1 q low),
    )
