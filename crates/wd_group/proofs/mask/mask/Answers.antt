use Rattle.std.proofs.lemmas.Grind.{common_steps}
use Rattle.std.proofs.Common.{◌≡◌, ◌+◌, ◌*◌, ◌^◌, ◌<◌, ◌≤◌, ◌∙◌, get_or, length, take, ap, sym, arith}
use Rattle.std.proofs.lemmas.List.{length-take, take_more}
use Rattle.wd_plan.specs.Outcomes.{mask}
use Rattle.wd_plan.specs.Plans.{has}
use Rattle.wd_group.proofs.Masks.{bit, mask_fits, mask_push}
use Rattle.wd_group.proofs.mask.mask.Goals.{then-has_column, else-has_column}
use Rattle.wd_group.proofs.mask.mask.Goals as goal

pub overflow_mul-mask : goal.overflow_mul-mask
overflow_mul-mask c =
    let i = c.loop-column.column-index in
    let columns = c.args.columns.now in
    let long = length-take i columns in
    let few = c.requires in
    let small : mask c.args.set.now (take i columns) < 2 ^ 31 = mask_fits c.args.set.now (take i columns) (omega arith) in
    let is = c.loop-column.invariant in
    omega arith

pub overflow_add-mask : goal.overflow_add-mask
overflow_add-mask c =
    let i = c.loop-column.column-index in
    let columns = c.args.columns.now in
    let long = length-take i columns in
    let few = c.requires in
    let small : mask c.args.set.now (take i columns) < 2 ^ 31 = mask_fits c.args.set.now (take i columns) (omega arith) in
    let is = c.loop-column.invariant in
    let most : c.if-has_column.bit ≤ 1 = elim c.if-has_column.branch [ then-has_column w ↦ omega (arith, w.bit-is) | else-has_column w ↦ omega (arith, w.bit-is) ] in
    omega arith

pub loop-column-preserved : goal.loop-column-preserved
loop-column-preserved c =
    let i = c.loop-column.column-index in
    let set = c.args.set.now in
    let columns = c.args.columns.now in
    let column = get_or columns i 0 in
    let within : i < length columns = c.loop-column-test.true in
    let told : c.has_column.result ≡ has set column = c.has_column.ensures in
    let last : c.if-has_column.bit ≡ bit (has set column) =
    elim c.if-has_column.branch [
      | then-has_column w ↦ w.bit-is ∙ ap bit (sym w.if-has_column.true ∙ told)
      | else-has_column w ↦ w.bit-is ∙ ap bit (sym w.if-has_column.false ∙ told)
    ] in
    (λ i. 2 * c.loop-column.invariant i + last i)
    ∙ sym (ap (mask set) (take_more columns i 0 within) ∙ mask_push set (take i columns) column)

pub returns : goal.returns
returns c = grind (arith, common_steps)
