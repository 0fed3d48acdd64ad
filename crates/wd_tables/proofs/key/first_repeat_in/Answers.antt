use Rattle.std.proofs.Common.{rules}
use Rattle.wd_schema.specs.Tables.{key_of}
use Rattle.wd_sort.specs.Sorting.{IsSortOf}
use Rattle.wd_tables.specs.Causes.{RepeatsIn}
use Rattle.wd_tables.specs.Keys.{ViolatesBefore, sort_columns}
use Rattle.wd_tables.proofs.KeyFacts.{least_as}
use Rattle.wd_tables.proofs.KeyOrder.{found_repeats, repeats_found}
use Rattle.wd_tables.proofs.key.first_repeat_in.Goals as goal

pub returns : goal.returns
returns c =
    let key = key_of c.args.key.now in
    let rows = c.args.rows.now in
    let order = c.in_ok-order.order.items in
    let sorted : IsSortOf (sort_columns key.columns) rows order = search rules in
    let least = rw c.deref-3.ensures.value at c.first_violation.ensures in
    least_as (ViolatesBefore key rows order) (RepeatsIn key rows) c.first_violation.result (found_repeats key rows order sorted) (repeats_found key rows order sorted) least
