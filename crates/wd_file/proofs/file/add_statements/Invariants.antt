use Rattle.std.proofs.Common.{length, drop, All}
use Rattle.wd_fix.proofs.Choosing.{StandWith}
use Rattle.wd_judged.specs.Mended.{IsMended}
use Rattle.wd_file.proofs.file.add_statements.Given as goal

-- those that are mended, and the statements that are left
abbrev pub invariant-loop-number : goal.invariant-loop-number
invariant-loop-number g l = record {
  ordered : StandWith l.fixes.items (drop l.number l.spans) (length l.task.query.text.now);
  mended : All (IsMended l.task.schema.text.now l.task.query.text.now) l.fixes.items;
}
