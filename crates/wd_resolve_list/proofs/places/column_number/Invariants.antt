use Rattle.std.proofs.Common.{◌≡◌, ◌+◌, drop, nat_eq}
use Rattle.std.specs.List.{position_or_len}
use Rattle.wd_resolve_list.proofs.places.column_number.Given as goal

abbrev pub invariant-loop-number : goal.invariant-loop-number
invariant-loop-number l = l.number + position_or_len (nat_eq l.column) (drop l.number l.columns) ≡ position_or_len (nat_eq l.column) l.columns
