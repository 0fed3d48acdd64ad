use Rattle.std.proofs.Common.{◌∙◌}
use Rattle.wd_schema.specs.Schemas.{schema_of}
use Rattle.wd_plan.specs.Plans.{plan_of}
use Rattle.wd_step_facts.specs.Facts.{facts_of}
use Rattle.wd_node_facts.specs.Seen.{facts_kept}
use Rattle.wd_node_facts.proofs.Sides.{given_seen}
use Rattle.wd_node_facts.proofs.facts.facts_at.Goals as goal

pub returns-clause-seen : goal.returns-clause-seen
returns-clause-seen c =
    c.node_facts.ensures.seen
    ∙ given_seen (schema_of c.args.schema.now) (plan_of c.args.plan.now) (facts_kept c.args.left) (facts_kept c.args.right)
    c.is_group.result (facts_of c.in_ok-own.own) c.first_below.result c.first_beside.result c.row_below.result (facts_kept c.in_ok-below.below)
    c.requires.alone c.is_group.ensures c.in_ok-own.ensures c.first_below.ensures c.row_below.ensures c.in_ok-below.ensures c.first_beside.ensures
