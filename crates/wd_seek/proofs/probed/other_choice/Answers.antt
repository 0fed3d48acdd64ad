use Rattle.std.proofs.Common.{◌+◌, Some, arith, subst, inl, inr}
use Rattle.wd_plan.specs.Plans.{ordering_count, plan_of}
use Rattle.wd_plan.proofs.Ranges.{names_classes}
use Rattle.wd_schema.specs.Schemas.{schema_of}
use Rattle.wd_value.specs.Rows.{instance_of}
use Rattle.wd_eval.specs.Tied.{turned_at}
use Rattle.wd_seek.specs.Probed.{IsEvaluated}
use Rattle.wd_seek.proofs.Passing.{agreeing_passes, all_pass_more, next_too_large, first_passes, within_count}
use Rattle.wd_seek.proofs.probed.other_choice.Goals as goal

pub loop-flipped-init : goal.loop-flipped-init
loop-flipped-init c = (
  omega (arith, c.requires.few),
  first_passes c.args.turn (plan_of c.args.plan.now) (instance_of c.args.instance.now.items) c.args.first.now.outcome c.requires.first.outcome,
)

pub returns-in_default-clause-other : goal.returns-in_default-clause-other
returns-in_default-clause-other c =
    let plan = plan_of c.args.plan.now in
    let instance = instance_of c.args.instance.now.items in
    let k = c.loop-flipped.flipped in
    let within = within_count (ordering_count plan) k c.orderings-orderings.result c.orderings-orderings.ensures c.loop-flipped-test.true in
    let large = subst (IsEvaluated plan instance (Some (turned_at c.args.turn k))) c.in_default.is c.in_ok-other.ensures in
    (k + 1, omega arith, inr (inl (next_too_large c.args.turn plan instance k within c.loop-flipped.invariant.1 large)))

pub agrees_turned-requires-clause-named : goal.agrees_turned-requires-clause-named
agrees_turned-requires-clause-named c = names_classes (schema_of c.args.schema.now) (plan_of c.args.plan.now) c.requires.fitting

pub loop-flipped-preserved-then-agrees_turned : goal.loop-flipped-preserved-then-agrees_turned
loop-flipped-preserved-then-agrees_turned c =
    let plan = plan_of c.args.plan.now in
    let instance = instance_of c.args.instance.now.items in
    let k = c.loop-flipped.flipped in
    let few = c.loop-flipped.invariant.0 in
    let other = c.if-made-eq-MOST_EVALUATIONS.false in (
      omega arith,
      all_pass_more c.args.turn plan instance (k + 1) c.loop-flipped.invariant.1
          (agreeing_passes c.args.turn plan instance c.args.first.now.outcome k c.requires.first.outcome (c.agrees_turned.ensures c.if-agrees_turned.true instance c.requires.first)),
    )
