use Rattle.std.proofs.Common.{None, subst, sym}
use Rattle.std.specs.Result.{IfOk}
use Rattle.wd_schema.specs.Schemas.{schema_of}
use Rattle.wd_plan.specs.Plans.{plan_of}
use Rattle.wd_candidates.specs.Outlines.{AreTiedBy}
use Rattle.wd_candidates.proofs.Walks.{found_narrow, ordered_found, ordered_none}
use Rattle.wd_candidates.proofs.tied.tied_columns.Goals as goal

pub ties_at-requires : goal.ties_at-requires
ties_at-requires c = found_narrow (schema_of c.args.schema.now) (plan_of c.args.plan.now) c.args.node (plan_of c.in-Ok.found.now) c.requires (sym c.in-Ok.ensures)

pub returns-in-Ok : goal.returns-in-Ok
returns-in-Ok c =
    let same = ordered_found (plan_of c.args.plan.now) c.args.node c.args.call (plan_of c.in-Ok.found.now) (sym c.in-Ok.ensures) in
    subst (λ o. IfOk c.ties_at.result (AreTiedBy (schema_of c.args.schema.now) o)) (sym same) c.ties_at.ensures

pub returns-in-Err : goal.returns-in-Err
returns-in-Err c =
    let none = ordered_none (plan_of c.args.plan.now) c.args.node c.in-Err.field-0 c.args.call (sym c.in-Err.ensures) in
    subst (λ o. AreTiedBy (schema_of c.args.schema.now) o None) (sym none) tt
