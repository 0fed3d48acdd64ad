use Rattle.std.proofs.Common.{◌≡◌, drop, map}
use Rattle.std.specs.List.{list_all}
use Rattle.wd_value.specs.Rows.{rows_of}
use Rattle.wd_schema.specs.Meets.{is_kept}
use Rattle.wd_schema.specs.Tables.{key_of}
use Rattle.wd_schema.proofs.instances.keep_keys.Given as goal

abbrev pub invariant-loop-key : goal.invariant-loop-key
invariant-loop-key l = list_all (is_kept (rows_of l.rows)) (map key_of (drop l.key-index l.keys)) ≡ list_all (is_kept (rows_of l.rows)) (map key_of l.keys)
