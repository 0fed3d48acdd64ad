use Rattle.std.proofs.Common.{◌++◌, sym, subst}
use Rattle.std.proofs.lemmas.List.{append-nil}
use Rattle.wd_plan.specs.Plans.{grouping_of}
use Rattle.wd_group.specs.Gathered.{AreFirst}
use Rattle.wd_group.specs.Sets.{row_width, rows_from}
use Rattle.wd_group.proofs.Sets.{rows_from_more}
use Rattle.wd_group.proofs.step.add_groups.Goals as goal

pub loop-position-init : goal.loop-position-init
loop-position-init c = λ results first. subst (λ rs. AreFirst (row_width (grouping_of c.args.group.now)) c.args.most rs c.args.gathered.now) (sym (append-nil results)) first

pub loop-position-preserved : goal.loop-position-preserved
loop-position-preserved c = λ results first. (
    let rule = grouping_of c.args.group.now in
    let set = c.args.set.now in
    let rows = c.args.rows.now in
    let n = c.loop-position.position in
    subst (λ rs. AreFirst (row_width (grouping_of c.args.group.now)) c.args.most rs c.add_group.new.gathered) (rows_from_more rule set rows results n)
    (c.in_ok-add_group.ensures (results ++ rows_from rule set rows n) (c.loop-position.invariant results first)))
