use Rattle.std.proofs.Common.{◌≡◌, None, get_or, map, true}
use Rattle.std.specs.Prelude.{if◌then◌else◌}
use Rattle.wd_value.specs.Bags.{positions}
use Rattle.wd_joined.proofs.origin.marked_origins.Given as goal

abbrev pub invariant-loop-column : goal.invariant-loop-column
invariant-loop-column l = l.kept.items ≡ map (λ c. if get_or l.marks c true then get_or l.origins c None else None) (positions l.column)
