use Rattle.std.proofs.Common.{◌∙◌, option_map, sym, ap, subst}
use Rattle.std.proofs.lemmas.Result.{IfOk-weaker}
use Rattle.wd_plan.specs.Expressions.{expression_of}
use Rattle.wd_plan.specs.Plans.{Join, plan_of}
use Rattle.wd_nodes.specs.Taken.{IsTaken}
use Rattle.wd_nodes.proofs.Taken.{both_taken}
use Rattle.wd_nodes.proofs.moved_in.+take_for_scans.Goals as goal

pub returns-in_ok-take_for_scans-in-Join : goal.returns-in_ok-take_for_scans-in-Join
returns-in_ok-take_for_scans-in-Join t c =
    let condition = option_map expression_of c.in-Join.condition in
    let left = plan_of c.deref-in-Join.result.now in
    let right = plan_of c.deref.result.now in
    let counts = c.args.counts.now in
    let old = c.args.tables.now.items in
    let between = c.take_for_scans.new.tables.items in
    let new = c.take_for_scans-in-Join.new.tables.items in
    let before = c.args.moved_in.now in
    let middle = c.take_for_scans.new.moved_in in
    let after = c.take_for_scans-in-Join.new.moved_in in
    let is = ap plan_of c.in-Join.is ∙ (λ i. Join condition (plan_of (sym c.deref-in-Join.ensures i)) (plan_of (sym c.deref.ensures i))) in
    IfOk-weaker c.take_for_scans-in-Join.result _ _
    (λ o second. subst (λ plan. IsTaken counts plan old new before after) (sym is) (both_taken counts old between new before middle after condition left right c.in_ok-take_for_scans-in-Join.ensures second))
    c.take_for_scans-in-Join.ensures
