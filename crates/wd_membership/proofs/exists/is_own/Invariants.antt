use Rattle.std.proofs.Common.{◌≡◌, length}
use Rattle.wd_membership.specs.Memberships.{is_own}
use Rattle.wd_membership.proofs.exists.is_own.Given as goal

abbrev pub invariant-loop-tokens : goal.invariant-loop-tokens
invariant-loop-tokens l = is_own l.alias l.tokens ≡ is_own l.alias l.initial.tokens

abbrev pub decreases-loop-tokens : goal.decreases-loop-tokens
decreases-loop-tokens l = length l.tokens
