use Rattle.std.proofs.Common.{◌≡◌, drop}
use Rattle.std.specs.List.{list_any}
use Rattle.wd_place.specs.Places.{takes}
use Rattle.wd_place.proofs.search.is_taken.Given as goal

abbrev pub invariant-loop-change : goal.invariant-loop-change
invariant-loop-change l = list_any (takes l.span) (drop l.change-index l.changes) ≡ list_any (takes l.span) l.changes
