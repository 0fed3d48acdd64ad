use Rattle.std.proofs.Common.{◌≡◌, length}
use Rattle.wd_clauses.specs.Reach.{opens}
use Rattle.wd_using.specs.Kinds.{has}
use Rattle.wd_membership.proofs.kind.has_bracket.Given as goal

abbrev pub invariant-loop-tokens : goal.invariant-loop-tokens
invariant-loop-tokens l = has opens l.tokens ≡ has opens l.initial.tokens

abbrev pub decreases-loop-tokens : goal.decreases-loop-tokens
decreases-loop-tokens l = length l.tokens
