use Rattle.std.proofs.Common.{◌≡◌, Bool, subst}
use Rattle.std.specs.Prelude.{IfOk}
use Rattle.wd_resolve_list.specs.Grouping.{below_of}
use Rattle.wd_resolve.proofs.More.{wide_listed}
use Rattle.wd_resolve.proofs.select.are_wide.Goals as goal

pub returns : goal.returns
returns c = subst (λ (wide : Bool). IfOk c.is_wide_with_having.result (λ b. b ≡ wide)) (wide_listed (below_of c.args.below.now) c.args.outputs.now c.args.projected.now c.requires) c.is_wide_with_having.ensures
