use Rattle.std.proofs.Common.{◌≡◌, drop}
use Rattle.wd_value.specs.Rows.{rows_of}
use Rattle.wd_schema.specs.Meets.{is_kept}
use Rattle.wd_schema.specs.Tables.{key_of}
use Rattle.wd_schema.proofs.instances.is_kept.Given as goal

abbrev pub invariant-loop-i : goal.invariant-loop-i
invariant-loop-i l = is_kept (rows_of (drop l.i l.rows)) (key_of l.key) ≡ is_kept (rows_of l.rows) (key_of l.key)
