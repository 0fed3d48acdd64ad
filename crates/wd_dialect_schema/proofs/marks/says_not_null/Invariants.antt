use Rattle.std.proofs.Common.{◌≡◌, length}
use Rattle.wd_dialect_schema.specs.Meaning.{says_not_null}
use Rattle.wd_dialect_schema.proofs.marks.says_not_null.Given as goal

abbrev pub invariant-loop-rest : goal.invariant-loop-rest
invariant-loop-rest l = says_not_null l.rest ≡ says_not_null l.fn.marks

abbrev pub decreases-loop-rest : goal.decreases-loop-rest
decreases-loop-rest l = length l.rest
