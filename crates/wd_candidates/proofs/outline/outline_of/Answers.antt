use Rattle.std.proofs.Common.{◌≡◌, ◌∙◌, sym, subst, length, rules}
use Rattle.std.proofs.lemmas.List.{length-map}
use Rattle.wd_plan.specs.Plans.{plan_of}
use Rattle.wd_schema.specs.Schemas.{schema_of}
use Rattle.wd_candidates.specs.AllOrigins.{ScansBelow}
use Rattle.wd_candidates.proofs.Copies.{scans_below}
use Rattle.wd_candidates.proofs.outline.outline_of.Goals as goal

pub mark_scanned-requires : goal.mark_scanned-requires
mark_scanned-requires c =
    let tables = schema_of c.args.schema.now in
    let entries : length c.deref_mut.result.now ≡ length c.args.schema.now.tables.entries = search rules in
    subst (λ n. ScansBelow n (plan_of c.args.plan.now)) (sym (entries ∙ sym (length-map c.args.schema.now.tables.entries _))) (scans_below tables (plan_of c.args.plan.now) c.requires)
