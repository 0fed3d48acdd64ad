use Rattle.std.proofs.Common.{take}
use Rattle.wd_tables.specs.Answers as spec
use Rattle.wd_tables.proofs.answer.answer_text_from.Given as goal

abbrev pub invariant-loop-position : goal.invariant-loop-position
invariant-loop-position l = spec.HasWritten l.writer (spec.answer_text l.names (take l.position l.rows))
