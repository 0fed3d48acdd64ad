use Rattle.std.proofs.Common.{◌≡◌, false, length}
use Rattle.wd_dialect_schema.specs.Meaning.{says_deferrable}
use Rattle.wd_dialect_schema.proofs.marks.says_deferrable.Given as goal

abbrev pub invariant-loop-rest : goal.invariant-loop-rest
invariant-loop-rest l = says_deferrable l.after_not l.rest ≡ says_deferrable false l.fn.marks

abbrev pub decreases-loop-rest : goal.decreases-loop-rest
decreases-loop-rest l = length l.rest
