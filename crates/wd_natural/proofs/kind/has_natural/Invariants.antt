use Rattle.std.proofs.Common.{◌≡◌, length}
use Rattle.wd_natural.specs.Kinds.{is_natural}
use Rattle.wd_using.specs.Kinds.{has}
use Rattle.wd_natural.proofs.kind.has_natural.Given as goal

abbrev pub invariant-loop-tokens : goal.invariant-loop-tokens
invariant-loop-tokens l = has is_natural l.tokens ≡ has is_natural l.initial.tokens

abbrev pub decreases-loop-tokens : goal.decreases-loop-tokens
decreases-loop-tokens l = length l.tokens
