use Rattle.std.proofs.Common.{◌≡◌, None, get_or, map, take}
use Rattle.wd_joined.proofs.origin.origins_at.Given as goal

abbrev pub invariant-loop-column : goal.invariant-loop-column
invariant-loop-column l = l.picked.items ≡ map (λ c. get_or l.origins c None) (take l.column-index l.columns)
