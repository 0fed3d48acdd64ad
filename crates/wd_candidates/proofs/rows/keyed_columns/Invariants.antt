use Rattle.std.proofs.Common.{◌≡◌, ℕ, ◌<◌, length, map, take}
use Rattle.wd_schema.specs.Tables.{key_of}
use Rattle.wd_candidates.specs.Candidates.{is_keyed}
use Rattle.wd_candidates.specs.Marks.{is_marked}
use Rattle.wd_candidates.proofs.rows.keyed_columns.Given as goal

abbrev pub invariant-loop-key : goal.invariant-loop-key
invariant-loop-key l = record {
  long : length l.keyed.items ≡ length l.table.columns.items;
  each : (c : ℕ) → c < length l.table.columns.items → is_marked l.keyed.items c ≡ is_keyed (take l.key-index (map key_of l.table.keys.items)) c;
}
