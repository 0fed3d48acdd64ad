use Rattle.std.proofs.Common.{◌≡◌, length, map}
use Rattle.wd_grouping.specs.Keys.{have_names}
use Rattle.wd_grouping.specs.Named.{group_key}
use Rattle.wd_grouping.proofs.key.have_names.Given as goal

abbrev pub invariant-loop-keys : goal.invariant-loop-keys
invariant-loop-keys l = have_names (map group_key l.keys) ≡ have_names (map group_key l.initial.keys)

abbrev pub decreases-loop-keys : goal.decreases-loop-keys
decreases-loop-keys l = length l.keys
