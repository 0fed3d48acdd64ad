use Rattle.std.proofs.Common.{◌≡◌, drop}
use Rattle.std.specs.List.{list_any}
use Rattle.wd_value.specs.Rows.{rows_of}
use Rattle.wd_schema.specs.Meets.{violates}
use Rattle.wd_schema.specs.Tables.{key_of}
use Rattle.wd_schema.proofs.instances.violates_any.Given as goal

abbrev pub invariant-loop-other : goal.invariant-loop-other
invariant-loop-other l = list_any (violates (key_of l.key) l.row) (rows_of (drop l.other-index l.rows)) ≡ list_any (violates (key_of l.key) l.row) (rows_of l.rows)
