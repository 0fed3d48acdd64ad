use Rattle.std.proofs.Common.{◌+◌, ◌≤◌, length}
use Rattle.wd_schema.specs.Tables.{key_of}
use Rattle.wd_tables.specs.Causes.{IsLeast}
use Rattle.wd_tables.proofs.KeyFacts.{ViolatesWithin}
use Rattle.wd_tables.proofs.key.first_violation.Given as goal

abbrev pub invariant-loop-i : goal.invariant-loop-i
invariant-loop-i l = (l.i ≤ length l.order + 1) × IsLeast (ViolatesWithin (key_of l.key) l.rows l.order l.i) l.first
