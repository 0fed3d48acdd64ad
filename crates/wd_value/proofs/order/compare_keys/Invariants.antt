use Rattle.std.proofs.Common.{◌≡◌, drop}
use Rattle.wd_value.specs.Keys.{compare_keys}
use Rattle.wd_value.proofs.order.compare_keys.Given as goal

abbrev pub invariant-loop-key : goal.invariant-loop-key
invariant-loop-key l = compare_keys (drop l.key-index l.keys) l.a l.b ≡ compare_keys l.keys l.a l.b
