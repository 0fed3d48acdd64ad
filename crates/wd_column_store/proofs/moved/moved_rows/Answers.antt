use Rattle.std.proofs.Common.{◌≡◌, ◌<◌, ◌++◌, [], ◌∷◌, ◌∙◌, length, get_or, sym, ap, arith}
use Rattle.std.proofs.lemmas.List.{map_more, map_push}
use Rattle.wd_value.specs.Rows.{row_at, rows_of}
use Rattle.wd_column_store.proofs.Places.{items}
use Rattle.wd_column_store.proofs.moved.moved_rows.Goals as goal

pub loop-i-preserved : goal.loop-i-preserved
loop-i-preserved c =
    let i = c.loop-i.i in
    let ps = c.args.positions.now in
    let rows = rows_of c.args.rows.items in
    let within : i < length ps = omega arith in
    let p = get_or ps i 0 in
    let row = c.take_row.result in
    let is : row.items ≡ row_at rows p = c.take_row.ensures.taken ∙ c.loop-i.invariant.left i (omega arith) within in
    record {
      picked = ap rows_of c.in_ok-push.ensures.items ∙ map_push items c.loop-i.picked.items row
          ∙ (λ j. c.loop-i.invariant.picked j ++ is j ∷ [])
          ∙ sym (map_more (row_at rows) ps i 0 within);
      left = λ k low high. (c.take_row.ensures.others (get_or ps k 0) (λ e. c.requires i k (omega arith) high (sym e)) ∙ c.loop-i.invariant.left k (omega arith) high);
    }
