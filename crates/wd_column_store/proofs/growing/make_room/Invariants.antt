use Rattle.std.proofs.Common.{◌≡◌, All, length, take}
use Rattle.wd_column_store.specs.Room.{HasRoom}
use Rattle.wd_value.specs.Rows.{rows_of}
use Rattle.wd_column_store.proofs.growing.make_room.Given as goal

abbrev pub invariant-loop-place : goal.invariant-loop-place
invariant-loop-place l = record {
  kept : rows_of l.columns.items ≡ rows_of l.initial.columns.items;
  long : length l.columns.items ≡ length l.initial.columns.items;
  room : All HasRoom (take l.place l.columns.items);
}
