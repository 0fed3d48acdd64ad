use Rattle.std.proofs.Common.{[], length, drop, take}
use Rattle.wd_fix.proofs.Choosing.{StandWith}
use Rattle.wd_file.specs.Locked.{AreEntriesOf}
use Rattle.wd_file.proofs.lock.entries_for.Given as goal

-- the entries so far, and the statements that are left
abbrev pub invariant-loop-span : goal.invariant-loop-span
invariant-loop-span g l = record {
  are : AreEntriesOf l.schema l.text (take l.span-index l.spans) l.entries.items;
  ordered : StandWith [] (drop l.span-index l.spans) (length l.text);
}
