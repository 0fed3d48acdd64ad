use Rattle.std.proofs.Common.{sym, subst}
use Rattle.std.proofs.lemmas.Result.{IfErr-weaker, IfOk-weaker}
use Rattle.wd_baseline.specs.Baselines.{IsWritten}
use Rattle.wd_baseline.proofs.RoundTrip.{not_refused, same_counted}
use Rattle.wd_baseline.proofs.laws.read_back.Goals as goal

pub returns-clause-same : goal.returns-clause-same
returns-clause-same c = λ all.
    let is : IsWritten c.args.lines.items c.deref.result.now = subst (IsWritten c.args.lines.items) (sym c.deref.ensures.value) c.in_ok-bytes.ensures in
    IfOk-weaker c.read.result _ _ (λ b h. same_counted c.args.lines.items c.deref.result.now b all is h) c.read.ensures.ok

pub returns-clause-memory : goal.returns-clause-memory
returns-clause-memory c = λ all.
    let is : IsWritten c.args.lines.items c.deref.result.now = subst (IsWritten c.args.lines.items) (sym c.deref.ensures.value) c.in_ok-bytes.ensures in
    IfErr-weaker c.read.result _ _ (λ e h. not_refused c.args.lines.items c.deref.result.now e all is h) c.read.ensures.refused
