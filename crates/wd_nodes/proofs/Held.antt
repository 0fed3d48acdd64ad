-- Tables of which nothing is moved in are to each plan as they are.
use Rattle.std.proofs.Common.{[], refl, sym, subst}
use Rattle.std.proofs.Math.Seq.{drop-nil}
use Rattle.wd_value.specs.Rows.{Instance}
use Rattle.wd_plan.specs.Plans.{PlanTree, Scan, Join, Over}
use Rattle.wd_nodes.specs.Held.{IsHeld, IsHeldForSome, scan_count}

pub same_held : (plan : PlanTree) (instance : Instance) → IsHeld plan instance [] instance
same_held (Scan table columns) instance = refl
same_held (Join condition left right) instance = (same_held left instance, subst (λ moved_in. IsHeld right instance moved_in instance) (sym (drop-nil (scan_count left))) (same_held right instance))
same_held (Over step input) instance = same_held input instance

pub same_for_some : (plan : PlanTree) (instance : Instance) → IsHeldForSome plan instance []
same_for_some plan instance = record { instance = instance; held = same_held plan instance }
