use Rattle.std.proofs.Common.{◌≡◌, ◌∙◌, sym, ap, subst, Ok, Err}
use Rattle.wd_plan.specs.Outcomes.{window_outcome}
use Rattle.wd_plan.specs.Plans.{window_of}
use Rattle.wd_eval.specs.Beside.{IsBeside}
use Rattle.wd_eval.specs.ClassIndexes.{AreIndexed}
use Rattle.wd_eval.proofs.calls.with_calls.Goals as goal

pub returns-in-Err : goal.returns-in-Err
returns-in-Err c = λ orderings listed. (
    let w = window_of c.args.window.now in
    let rows = c.args.rows in
    let source : c.source.result ≡ rows = c.source.ensures in
    let there = subst (λ rs. AreIndexed w rs orderings c.args.indexes.now) (sym source) listed in
    let found = c.in_ok-found.ensures orderings there in
    let beside : IsBeside w c.source.result orderings (Err c.in-Err.fault) = subst (IsBeside w c.source.result orderings) c.in-Err.is found in
    beside ∙ ap (λ rs. window_outcome w rs orderings) source)

pub returns-in_ok-extended-in-Ok : goal.returns-in_ok-extended-in-Ok
returns-in_ok-extended-in-Ok c = λ orderings listed. (
    let w = window_of c.args.window.now in
    let rows = c.args.rows in
    let source : c.source.result ≡ rows = c.source.ensures in
    let there = subst (λ rs. AreIndexed w rs orderings c.args.indexes.now) (sym source) listed in
    let found = c.in_ok-found.ensures orderings there in
    let beside : IsBeside w c.source.result orderings (Ok c.in-Ok.columns) = subst (IsBeside w c.source.result orderings) c.in-Ok.is found in
    let own : IsBeside w rows orderings (Ok c.in-Ok.columns) = subst (λ rs. IsBeside w rs orderings (Ok c.in-Ok.columns)) source beside in
    ap Ok c.in_ok-extended-in-Ok.ensures ∙ own)
