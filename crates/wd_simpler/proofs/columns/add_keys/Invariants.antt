use Rattle.std.proofs.Common.{take}
use Rattle.wd_value.specs.Keys.{key_columns}
use Rattle.wd_simpler.specs.Sets.{HasAlso}
use Rattle.wd_simpler.proofs.columns.add_keys.Given as goal

abbrev pub invariant-loop-key : goal.invariant-loop-key
invariant-loop-key l = HasAlso l.initial.set (take l.key-index (key_columns l.keys)) l.set
