use Rattle.std.proofs.Common.{◌≡◌, true, subst, option_map}
use Rattle.wd_schema.specs.Schemas.{schema_of}
use Rattle.wd_plan.specs.Expressions.{expression_of}
use Rattle.wd_plan.specs.Fits.{fits}
use Rattle.wd_plan.specs.Plans.{plan_of}
use Rattle.wd_step_facts.specs.Facts.{kept_by}
use Rattle.wd_facts.specs.Laws.{AreOfChildren}
use Rattle.wd_facts.proofs.Asked.{right_kept}
use Rattle.wd_analyse.proofs.sources.add_unions_at.Goals as goal

pub add_unions-requires : goal.add_unions-requires
add_unions-requires c =
    let tables = schema_of c.args.schema.now in
    let f = subst (λ p. fits tables (plan_of p) ≡ true) c.in-Join.is c.requires.fits in
    let named = subst (λ p. AreOfChildren (plan_of p) (kept_by c.args.kept.now 0) (kept_by c.args.kept.now 1)) c.in-Join.is c.requires.kept in
    rw (c.facts_of_child-second.ensures, c.width.ensures, c.deref.ensures) (right_kept tables (option_map expression_of c.in-Join.condition) (plan_of c.in-Join.left.value) (plan_of c.in-Join.right.value) f (kept_by c.args.kept.now 1) named.1)
