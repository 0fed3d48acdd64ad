use Rattle.std.proofs.Common.{◌≡◌, ◌++◌, None, length}
use Rattle.std.specs.Option.{option_map}
use Rattle.wd_casts.specs.Decimals.{literals_from}
use Rattle.wd_casts.proofs.decimal.with_literals.Given as goal

abbrev pub invariant-loop-rest : goal.invariant-loop-rest
invariant-loop-rest l = l.found.items ++ literals_from l.query (option_map (λ text. text.now) l.said) l.rest ≡ literals_from l.query None l.fn.tokens

abbrev pub decreases-loop-rest : goal.decreases-loop-rest
decreases-loop-rest l = length l.rest
