use Rattle.std.proofs.Common.{◌≡◌, length}
use Rattle.wd_membership.specs.Kinds.{is_ours}
use Rattle.wd_using.specs.Kinds.{has}
use Rattle.wd_membership.proofs.kind.has_ours.Given as goal

abbrev pub invariant-loop-tokens : goal.invariant-loop-tokens
invariant-loop-tokens l = has is_ours l.tokens ≡ has is_ours l.initial.tokens

abbrev pub decreases-loop-tokens : goal.decreases-loop-tokens
decreases-loop-tokens l = length l.tokens
