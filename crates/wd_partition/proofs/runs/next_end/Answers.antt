use Rattle.std.proofs.Common.{◌≡◌, ◌∙◌, ◌+◌, ◌<◌, true, false, sym, arith, get_or, length, Some}
use Rattle.std.specs.Ordering.{is_eq}
use Rattle.wd_partition.specs.Columns.{partition_columns}
use Rattle.wd_partition.specs.Indexed.{by_keys, by_partition}
use Rattle.wd_partition.specs.Steps.{begins_partition, step_to}
use Rattle.wd_partition.specs.declared.steps.Step.TheVariants.{Partition}
use Rattle.wd_partition.proofs.Stepping.{begins, goes_on}
use Rattle.wd_partition.proofs.IndexRanges.{end_here, rows_total, same_end}
use Rattle.wd_partition.proofs.runs.next_end.Goals as goal
use Rattle.wd_partition.proofs.runs.next_end.Goals.{else-i-indexed-via-then-i-indexed+else-not-begins_partition, else-i-indexed-via-else-i-indexed}

pub returns-then-not-begins_partition : goal.returns-then-not-begins_partition
returns-then-not-begins_partition c =
    let indexed = c.args.indexed.now in
    let list = indexed.positions.now in
    let i = c.args.i in
    let step = get_or indexed.steps.now (i + 1) Partition in
    let is : begins_partition step ≡ false = sym c.begins_partition.ensures ∙ c.if-not-begins_partition.true in
    let long = c.requires.indexed.steps.long in
    let high : i + 1 < length list = omega arith in
    let to : step_to (by_partition indexed) (by_keys indexed) list (i + 1) ≡ Some step = c.requires.indexed.steps.each (i + 1) Partition high in
    let tie : is_eq (by_partition indexed (get_or list i 0) (get_or list (i + 1) 0)) ≡ true = goes_on (by_partition indexed) (by_keys indexed) list i step to is in
    c.requires.following high ∙ sym (same_end (by_partition indexed) (rows_total (partition_columns indexed.partition.now) indexed.rows.now) list (get_or list i 0) (get_or list (i + 1) 0) tie)

pub returns-else-i-indexed : goal.returns-else-i-indexed
returns-else-i-indexed c =
    let indexed = c.args.indexed.now in
    let list = indexed.positions.now in
    let i = c.args.i in
    let long = c.requires.indexed.steps.long in
    elim c.else-i-indexed.branch [
      | else-i-indexed-via-then-i-indexed+else-not-begins_partition w ↦ (
          let step = get_or indexed.steps.now (i + 1) Partition in
          let is : begins_partition step ≡ true = sym w.begins_partition.ensures ∙ w.if-not-begins_partition.false in
          sym (end_here (by_partition indexed) (rows_total (partition_columns indexed.partition.now) indexed.rows.now) list c.requires.indexed.lawful.sorted i c.requires.within
          (λ l. begins (by_partition indexed) (by_keys indexed) list i step (c.requires.indexed.steps.each (i + 1) Partition l) is)))
      | else-i-indexed-via-else-i-indexed w ↦ sym (end_here (by_partition indexed) (rows_total (partition_columns indexed.partition.now) indexed.rows.now) list c.requires.indexed.lawful.sorted i c.requires.within (λ l. absurd (omega arith)))
    ]
