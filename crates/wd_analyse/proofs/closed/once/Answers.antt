use Rattle.std.proofs.lemmas.Grind.{common_steps}
use Rattle.std.proofs.Common.{◌≡◌, ◌∙◌, ◌+◌, ◌++◌, ap, sym, drop, get_or, List, ℕ, arith}
use Rattle.std.proofs.lemmas.List.{at_drop_more}
use Rattle.wd_analyse.specs.Evidence.{once_after}
use Rattle.wd_analyse.proofs.Once.{met_next}
use Rattle.wd_analyse.proofs.closed.once.Goals as goal

pub loop-column-preserved : goal.loop-column-preserved
loop-column-preserved c =
    let met = c.loop-column.met.items in
    let rest = drop (c.loop-column.column-index + 1) c.args.columns.now in
    ap (λ items. items ++ once_after items rest) c.in_ok-meet.ensures
    ∙ met_next met (get_or c.args.columns.now c.loop-column.column-index 0) rest
    ∙ sym (at_drop_more (λ (left : List ℕ). met ++ once_after met left) c.args.columns.now c.loop-column.column-index 0 c.loop-column-test.true)
    ∙ c.loop-column.invariant

pub returns : goal.returns
returns c = grind (arith, common_steps, met_next)
