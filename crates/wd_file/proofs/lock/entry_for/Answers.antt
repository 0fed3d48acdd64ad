use Rattle.std.proofs.Common.{refl, sym, subst}
use Rattle.wd_file.specs.Locked.{IsEntryOf}
use Rattle.wd_file.proofs.Entries.{of_examined}
use Rattle.wd_file.proofs.lock.entry_for.Goals as goal

pub returns-in-Ok : goal.returns-in-Ok
returns-in-Ok c =
    subst (IsEntryOf c.args.schema.now c.args.query.now) (sym c.entry_of.ensures)
    (of_examined c.args.schema.now c.args.query.now c.in-Ok.examined c.in-Ok.examined.analysis c.in-Ok.ensures.examined refl)
