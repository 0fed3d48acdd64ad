use Rattle.std.proofs.Common.{◌≡◌, ◌<◌, ◌++◌, [], ◌∷◌, ◌∙◌, length, get_or, sym, arith}
use Rattle.std.proofs.lemmas.List.{map_more}
use Rattle.wd_value.specs.declared.value.Value.TheVariants.{Null}
use Rattle.wd_column_store.proofs.RowsAlong.{at}
use Rattle.wd_column_store.proofs.picking.values_at.Goals as goal

pub loop-i-preserved : goal.loop-i-preserved
loop-i-preserved c =
    let i = c.loop-i.i in
    let ps = c.args.positions.now in
    let column = c.args.column.items in
    let within : i < length ps = omega arith in
    let value = c.take_value.result in
    let is : value ≡ get_or column (get_or ps i 0) Null = c.take_value.ensures.taken ∙ c.loop-i.invariant.left i (omega arith) within in
    record {
      picked = c.in_ok-push.ensures.items ∙ (λ j. c.loop-i.invariant.picked j ++ is j ∷ []) ∙ sym (map_more (λ p. at p column) ps i 0 within);
      left = λ k low high. (c.take_value.ensures.others (get_or ps k 0) (λ e. c.requires i k (omega arith) high (sym e)) ∙ c.loop-i.invariant.left k (omega arith) high);
    }
