-- What every schema keeps of the tables that its numbers name.
use Rattle.std.proofs.Common.{◌≡◌, ◌<◌, ◌≤◌, ◌^◌, ℕ, List, length, Some, slice_get, subst, arith}
use Rattle.std.proofs.lemmas.Option.{get_or_from_slice_get, slice_get_within}
use Rattle.wd_schema.specs.Tables.{TableRule}
use Rattle.wd_schema.specs.WellFormed.{IsWellFormed, IsWellFormedTable}

pub table_known : (tables : List TableRule) (number : ℕ) (table : TableRule) → IsWellFormed tables → slice_get tables number ≡ Some table → (number < 2 ^ 16) × (length table.columns ≤ 256)
table_known tables number table h found =
    let within = slice_get_within tables number table found in
    let is : IsWellFormedTable table = subst IsWellFormedTable (get_or_from_slice_get tables number table table found) (h.each number table within) in
    let few = h.few in
    (omega arith, is.few_columns)
