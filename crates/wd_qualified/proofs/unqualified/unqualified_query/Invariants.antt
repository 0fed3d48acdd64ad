use Rattle.std.proofs.Common.{◌≡◌, ◌++◌, [], ◌∷◌, length, reverse}
use Rattle.wd_with.specs.declared.place.Place.TheVariants.{Elsewhere}
use Rattle.wd_qualified.specs.Unqualified.{unqualified}
use Rattle.wd_qualified.proofs.unqualified.unqualified_query.Given as goal

abbrev pub invariant-loop-rest : goal.invariant-loop-rest
invariant-loop-rest l = l.written.items ++ unqualified (reverse l.levels.items) l.rest ≡ unqualified (Elsewhere ∷ []) l.fn.tokens

abbrev pub decreases-loop-rest : goal.decreases-loop-rest
decreases-loop-rest l = length l.rest
