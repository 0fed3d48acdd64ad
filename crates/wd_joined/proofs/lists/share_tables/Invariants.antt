use Rattle.std.proofs.Common.{◌≡◌, take}
use Rattle.wd_joined.proofs.lists.share_tables.Given as goal

abbrev pub invariant-loop-table : goal.invariant-loop-table
invariant-loop-table l = l.shared.items ≡ take l.table-index l.tables
