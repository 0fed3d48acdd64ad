use Rattle.std.proofs.Common.{◌≡◌, ◌∙◌, ◌+◌, ◌-◌, ◌<◌, true, false, sym, subst, arith, get_or, Some}
use Rattle.std.specs.Ordering.{is_eq}
use Rattle.wd_partition.specs.Columns.{partition_columns}
use Rattle.wd_partition.specs.Indexed.{by_keys, by_partition}
use Rattle.wd_partition.specs.Steps.{begins_partition, step_to}
use Rattle.wd_partition.specs.declared.steps.Step.TheVariants.{Partition}
use Rattle.wd_partition.proofs.Stepping.{begins, goes_on, goes_on_later}
use Rattle.wd_partition.proofs.IndexRanges.{rows_total, same_start, start_here}
use Rattle.wd_partition.proofs.runs.next_start.Goals as goal

pub returns-then-begins_partition : goal.returns-then-begins_partition
returns-then-begins_partition c =
    let indexed = c.args.indexed.now in
    let list = indexed.positions.now in
    let i = c.args.i in
    let step = get_or indexed.steps.now i Partition in
    let is : begins_partition step ≡ true = sym c.begins_partition.ensures ∙ c.if-begins_partition.true in
    let to : step_to (by_partition indexed) (by_keys indexed) list i ≡ Some step = c.requires.indexed.steps.each i Partition c.requires.within in
    sym (start_here (by_partition indexed) (rows_total (partition_columns indexed.partition.now) indexed.rows.now) list c.requires.indexed.lawful.sorted i c.requires.within
    (λ k l.
    subst (λ j. is_eq (by_partition indexed (get_or list k 0) (get_or list j 0)) ≡ false) l
    (begins (by_partition indexed) (by_keys indexed) list k step (subst (λ j. step_to (by_partition indexed) (by_keys indexed) list j ≡ Some step) (sym l) to) is)))

pub returns-else-begins_partition : goal.returns-else-begins_partition
returns-else-begins_partition c =
    let indexed = c.args.indexed.now in
    let list = indexed.positions.now in
    let i = c.args.i in
    let step = get_or indexed.steps.now i Partition in
    let is : begins_partition step ≡ false = sym c.begins_partition.ensures ∙ c.if-begins_partition.false in
    let to : step_to (by_partition indexed) (by_keys indexed) list i ≡ Some step = c.requires.indexed.steps.each i Partition c.requires.within in
    let later : 0 < i = goes_on_later (by_partition indexed) (by_keys indexed) list i step to is in
    let at : i - 1 + 1 ≡ i = omega arith in
    let tie : is_eq (by_partition indexed (get_or list (i - 1) 0) (get_or list i 0)) ≡ true =
    subst (λ j. is_eq (by_partition indexed (get_or list (i - 1) 0) (get_or list j 0)) ≡ true) at
    (goes_on (by_partition indexed) (by_keys indexed) list (i - 1) step (subst (λ j. step_to (by_partition indexed) (by_keys indexed) list j ≡ Some step) (sym at) to) is) in
    c.requires.before (i - 1) at ∙ same_start (by_partition indexed) (rows_total (partition_columns indexed.partition.now) indexed.rows.now) list (get_or list (i - 1) 0) (get_or list i 0) tie
