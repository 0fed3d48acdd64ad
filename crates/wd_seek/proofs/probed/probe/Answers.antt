use Rattle.std.proofs.Common.{◌∷◌, ◌+◌, [], None, subst, sym}
use Rattle.std.specs.Prelude.{MatchOption}
use Rattle.wd_plan.specs.Plans.{plan_of}
use Rattle.wd_value.specs.Rows.{instance_of}
use Rattle.wd_eval.specs.Windows.{orderings_of}
use Rattle.wd_eval.specs.Tied.{IsTurnedTooLarge}
use Rattle.wd_seek.specs.Search.{FindsNothing}
use Rattle.wd_seek.specs.Probed.{IsEvaluated, IsKeptOf, IsOther}
use Rattle.wd_seek.proofs.Agreeing.{first_under}
use Rattle.wd_seek.proofs.Probing.{another, first_too_large, no_other, none_left}
use Rattle.wd_seek.proofs.probed.probe.Goals as goal

pub returns-then-spent-eq-MOST_EVALUATIONS-clause-tried : goal.returns-then-spent-eq-MOST_EVALUATIONS-clause-tried
returns-then-spent-eq-MOST_EVALUATIONS-clause-tried c =
    let plan = plan_of c.args.plan.now in
    let instance = instance_of c.args.instance.now.items in
    subst (λ n. FindsNothing c.args.turn plan (instance ∷ []) n n) (sym c.if-spent-eq-MOST_EVALUATIONS.true) (none_left c.args.turn plan instance)

pub returns-in_default-clause-tried : goal.returns-in_default-clause-tried
returns-in_default-clause-tried c =
    let plan = plan_of c.args.plan.now in
    let instance = instance_of c.args.instance.now.items in
    first_too_large c.args.turn plan instance c.args.spent (subst (λ o. MatchOption o (IsTurnedTooLarge plan instance None) (IsKeptOf plan instance)) c.in_default.is c.in_ok-first.ensures)

pub returns-in_default-other-clause-tried : goal.returns-in_default-other-clause-tried
returns-in_default-other-clause-tried c =
    let plan = plan_of c.args.plan.now in
    let instance = instance_of c.args.instance.now.items in
    let o = c.in-Some.first.outcome in
    no_other c.args.turn plan instance o c.args.spent c.in_ok-other.made (subst (IsOther c.args.turn plan instance o (c.args.spent + 1) c.in_ok-other.made) c.in_default-other.is c.in_ok-other.ensures.other)

pub returns-in-Some-2-clause-tried : goal.returns-in-Some-2-clause-tried
returns-in-Some-2-clause-tried c =
    let plan = plan_of c.args.plan.now in
    let instance = instance_of c.args.instance.now.items in
    let o = c.in-Some.first.outcome in
    let again = c.in-Some-2.field-0 in
    let choice = orderings_of again.choice.orderings.items in
    let kept = subst (λ r. MatchOption r (IsTurnedTooLarge plan instance None) (IsKeptOf plan instance)) c.in-Some.is c.in_ok-first.ensures in
    let under = first_under plan instance o again.outcome choice kept.outcome (subst (IsEvaluated plan instance None) c.in-Some-2.is c.in_ok-first-2.ensures) in
    another c.args.turn plan instance c.args.spent c.in_ok-other.made o choice c.in-Some-other.second under
    (subst (IsOther c.args.turn plan instance o (c.args.spent + 1) c.in_ok-other.made) c.in-Some-other.is c.in_ok-other.ensures.other)

pub returns-in-None-clause-tried : goal.returns-in-None-clause-tried
returns-in-None-clause-tried c =
    let plan = plan_of c.args.plan.now in
    let instance = instance_of c.args.instance.now.items in
    first_too_large c.args.turn plan instance c.args.spent (subst (IsEvaluated plan instance None) c.in-None.is c.in_ok-first-2.ensures)
