use Rattle.std.proofs.Common.{◌≡◌, ◌∙◌, sym, arith, length}
use Rattle.wd_sort.specs.Sorting.{compare_rows_at}
use Rattle.wd_partition.specs.Steps.{AreSteps}
use Rattle.wd_partition.proofs.Stepping.{none_from_sorted, sorted_from_steps}
use Rattle.wd_partition.proofs.steps.steps_of.Goals as goal

pub returns-in-None : goal.returns-in-None
returns-in-None c =
    let rows = c.args.rows.now in
    none_from_sorted c.args.by_partition.now c.args.by_keys.now rows c.args.positions.now c.loop-i.i (omega arith) (sym c.step_to.ensures ∙ c.in-None.is)

pub returns : goal.returns
returns c =
    let rows = c.args.rows.now in
    let list = c.args.positions.now in
    let done : c.loop-i.i ≡ length list = omega arith in
    let are : AreSteps (compare_rows_at c.args.by_partition.now rows) (compare_rows_at c.args.by_keys.now rows) list c.loop-i.steps.items = record {
      long = c.loop-i.invariant.long ∙ done;
      each = λ k d low. c.loop-i.invariant.each k d (omega arith);
    } in
    (sorted_from_steps c.args.by_partition.now c.args.by_keys.now rows list c.loop-i.steps.items c.requires are, are)
