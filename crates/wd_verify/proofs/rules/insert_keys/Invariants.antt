use Rattle.std.proofs.Common.{◌≡◌, drop}
use Rattle.wd_value.specs.Keys.{key_columns}
use Rattle.wd_step_facts.specs.declared.facts.Member.{Member}
use Rattle.wd_step_facts.specs.Facts.{columns_named}
use Rattle.wd_sets.specs.Sets.{has}
use Rattle.wd_sets.specs.Reaches.{also}
use Rattle.wd_verify.proofs.rules.insert_keys.Given as goal

abbrev pub invariant-loop-key : goal.invariant-loop-key
invariant-loop-key l = (m : Member) → also (has l.set) (columns_named (key_columns (drop l.key-index l.keys))) m ≡ also (has l.fn.set) (columns_named (key_columns l.keys)) m
