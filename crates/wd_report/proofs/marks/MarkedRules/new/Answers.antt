use Rattle.std.proofs.Common.{◌∙◌, ap, sym, cond, Some}
use Rattle.wd_report.specs.Plans.{is_mark_of}
use Rattle.wd_report.proofs.MarkOrder.{one_more}
use Rattle.wd_report.proofs.marks.MarkedRules.new.Goals as goal

pub loop-mark-preserved : goal.loop-mark-preserved
loop-mark-preserved c = λ node call.
    c.in_ok-insert.ensures.updates.0 (node, call) ∙ ap (λ other. cond (is_mark_of node call c.in-Some.mark.now) (Some c.in-Some.mark.now.rule) other) (c.loop-mark.invariant node call) ∙ sym (one_more c.loop-mark.yielded c.in-Some.mark node call)
