use Rattle.std.proofs.Common.{◌≡◌, subst, true}
use Rattle.wd_schema.specs.Schemas.{schema_of}
use Rattle.wd_plan.specs.Fits.{fits}
use Rattle.wd_plan.specs.Plans.{Over, Window, plan_of, window_of}
use Rattle.wd_plan.proofs.Ranges.{names_classes}
use Rattle.wd_verify.proofs.entry.check_rules.Goals as goal

pub check_window-requires : goal.check_window-requires
check_window-requires c =
    let tables = schema_of c.args.schema.now in
    let f = subst (λ p. fits tables (plan_of p) ≡ true) c.in-Window.is c.requires in
    (names_classes tables (Over (Window (window_of c.in-Window.window)) (plan_of c.in-Window.input.value)) f).1
