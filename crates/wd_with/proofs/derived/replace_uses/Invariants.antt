use Rattle.std.proofs.Common.{◌≡◌, ◌+◌, ◌≤◌, ◌++◌, [], ◌∷◌, length, reverse}
use Rattle.wd_with.specs.declared.place.Place.TheVariants.{Elsewhere}
use Rattle.wd_with.specs.Derived.{replaced, uses}
use Rattle.wd_with.specs.Named.{named_query}
use Rattle.wd_with.proofs.derived.replace_uses.Given as goal

abbrev pub invariant-loop-rest : goal.invariant-loop-rest
invariant-loop-rest l = record {
  written : l.written.items ++ replaced (named_query l.fn.member) (reverse l.levels.items) l.rest ≡ replaced (named_query l.fn.member) (Elsewhere ∷ []) l.fn.tokens;
  counted : l.uses + uses (named_query l.fn.member) (reverse l.levels.items) l.rest ≡ uses (named_query l.fn.member) (Elsewhere ∷ []) l.fn.tokens;
  few : l.uses + length l.rest ≤ length l.fn.tokens;
}

abbrev pub decreases-loop-rest : goal.decreases-loop-rest
decreases-loop-rest l = length l.rest
