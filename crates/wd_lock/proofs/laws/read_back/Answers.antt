use Rattle.std.proofs.Common.{sym, subst}
use Rattle.std.proofs.lemmas.Result.{IfErr-weaker}
use Rattle.wd_json_lines.proofs.Reading.{not_refused}
use Rattle.wd_lock.specs.Locks.{IsLock, entries_of, entry_json}
use Rattle.wd_lock.proofs.laws.read_back.Goals as goal

pub returns-clause-memory : goal.returns-clause-memory
returns-clause-memory c =
    let es = entries_of c.args.lock.now in
    let spelled : IsLock es c.deref.result.now = subst (IsLock es) (sym c.deref.ensures.value) c.in_ok-bytes.ensures.spells in
    IfErr-weaker c.read.result _ _ (λ e h. not_refused entry_json c.deref.result.now es e spelled h) c.read.ensures.refused
