-- What a trail says of its plan.
use Rattle.std.proofs.Common.{◌+◌, None, refl}
use Rattle.wd_value.specs.Rows.{Instance}
use Rattle.wd_plan.specs.Plans.{PlanTree, Scan, Join, Over, ordering_count}
use Rattle.wd_trail.specs.Trails.{Gives, IsTrail, rows_in}
use Rattle.wd_trail.specs.declared.trail.Trail.{Trail}
use Rattle.wd_trail.specs.declared.trail.Trail.TheVariants as kept
use Rattle.wd_trail.proofs.Giving.{gives_elsewhere, join_gives, step_stable}

-- the plan gives the rows of its last node
pub trail_gives : (trail : Trail) (plan : PlanTree) (instance : Instance) → IsTrail trail plan instance → Gives plan instance None 0 (rows_in trail)
trail_gives (kept.Part rows) plan instance h = h
trail_gives (kept.Step' rows p below) (Scan table columns) instance h = absurd h
trail_gives (kept.Step' rows p below) (Join condition left right) instance h = absurd h
trail_gives (kept.Step' rows p below) (Over step input) instance h = step_stable instance step input (rows_in below) rows (trail_gives below input instance h.0) h.1
trail_gives (kept.Join' rows p on_left q on_right) (Scan table columns) instance h = absurd h
trail_gives (kept.Join' rows p on_left q on_right) (Join condition left right) instance h =
    join_gives instance None 0 condition left right (rows_in on_left) (rows_in on_right) rows (trail_gives on_left left instance h.0) (gives_elsewhere instance None right 0 (0 + ordering_count left) (rows_in on_right) (λ k l. refl) (trail_gives on_right right instance h.1)) h.2
trail_gives (kept.Join' rows p on_left q on_right) (Over step input) instance h = absurd h
