use Rattle.std.proofs.Common.{◌≡◌, length}
use Rattle.wd_using.specs.Kinds.{has}
use Rattle.wd_grouping.specs.Kinds.{is_over}
use Rattle.wd_grouping.proofs.key.has_over.Given as goal

abbrev pub invariant-loop-tokens : goal.invariant-loop-tokens
invariant-loop-tokens l = has is_over l.tokens ≡ has is_over l.initial.tokens

abbrev pub decreases-loop-tokens : goal.decreases-loop-tokens
decreases-loop-tokens l = length l.tokens
