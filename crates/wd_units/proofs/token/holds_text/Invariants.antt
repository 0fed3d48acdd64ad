use Rattle.std.proofs.Common.{◌≡◌, length}
use Rattle.wd_units.specs.Tokens.{holds_text}
use Rattle.wd_units.proofs.token.holds_text.Given as goal

abbrev pub invariant-loop-rest : goal.invariant-loop-rest
invariant-loop-rest l = holds_text l.rest ≡ holds_text l.fn.tokens

abbrev pub decreases-loop-rest : goal.decreases-loop-rest
decreases-loop-rest l = length l.rest
