use Rattle.std.proofs.Common.{◌∙◌, sym}
use Rattle.wd_calls.proofs.Starts.{start_here, start_kept}
use Rattle.wd_calls.proofs.ranking.group_start.Goals as goal

pub returns-then-group_at : goal.returns-then-group_at
returns-then-group_at c = λ rising within is.
    start_kept c.args.part.now.groups.now c.args.place c.args.before rising within is (sym c.group_at.ensures ∙ c.if-group_at.true ∙ c.group_at-2.ensures)

pub returns-else-group_at : goal.returns-else-group_at
returns-else-group_at c = λ rising within is.
    start_here c.args.part.now.groups.now c.args.place c.args.before rising within is (λ e. c.if-group_at.false (c.group_at.ensures ∙ e ∙ sym c.group_at-2.ensures))
