use Rattle.std.proofs.Common.{◌≡◌, ◌∙◌, ◌++◌, [], ◌∷◌, sym, ap, arith, zero-add}
use Rattle.std.proofs.lemmas.List.{map_push}
use Rattle.std.proofs.lemmas.List.FromFn.{map-range_with_len_more}
use Rattle.wd_value.specs.Rows.{rows_of}
use Rattle.wd_column_store.specs.Along.{row_along}
use Rattle.wd_column_store.proofs.Places.{items}
use Rattle.wd_column_store.proofs.taking.taken_rows.Goals as goal

pub loop-position-preserved : goal.loop-position-preserved
loop-position-preserved c =
    let n = c.loop-position.position in
    let columns = rows_of c.args.columns.items in
    let row = c.in_ok-row.row in
    let is : row.items ≡ row_along columns n = c.in_ok-row.ensures.taken ∙ c.loop-position.invariant.left n (omega arith) in
    record {
      made = ap rows_of c.in_ok-push.ensures.items ∙ map_push items c.loop-position.rows.items row
          ∙ (λ j. c.loop-position.invariant.made j ++ is j ∷ [])
          ∙ sym (map-range_with_len_more (row_along columns) 0 n n (zero-add n));
      left = λ p low. (c.in_ok-row.ensures.others p (λ e. omega arith) ∙ c.loop-position.invariant.left p (omega arith));
    }
