use Rattle.std.proofs.Common.{◌≡◌, filter, take}
use Rattle.wd_schema.specs.Meets.{is_of_type}
use Rattle.wd_varied.proofs.pools.values_of.Given as goal

abbrev pub invariant-loop-value : goal.invariant-loop-value
invariant-loop-value l = l.values.items ≡ filter (is_of_type l.kind) (take l.value-index l.all)
