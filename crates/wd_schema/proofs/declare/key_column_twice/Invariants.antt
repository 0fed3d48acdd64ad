use Rattle.std.proofs.Common.{◌≢◌, ℕ, ◌<◌, get_or}
use Rattle.std.specs.List.{AllPairs}
use Rattle.wd_schema.specs.declared.declare.KeyAt.{KeyAt}
use Rattle.wd_schema.proofs.declare.key_column_twice.Given as goal

abbrev pub invariant-loop-key : goal.invariant-loop-key
invariant-loop-key l = (k : ℕ) (d : KeyAt) → k < l.key-index → AllPairs (λ a b. a ≢ b) (get_or l.keys k d).columns.items
