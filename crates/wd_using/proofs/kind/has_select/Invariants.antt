use Rattle.std.proofs.Common.{◌≡◌, length}
use Rattle.wd_using.specs.Kinds.{begins_select, has}
use Rattle.wd_using.proofs.kind.has_select.Given as goal

abbrev pub invariant-loop-tokens : goal.invariant-loop-tokens
invariant-loop-tokens l = has begins_select l.tokens ≡ has begins_select l.initial.tokens

abbrev pub decreases-loop-tokens : goal.decreases-loop-tokens
decreases-loop-tokens l = length l.tokens
