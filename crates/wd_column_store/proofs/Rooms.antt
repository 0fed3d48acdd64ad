-- Columns with room for a further value.
use Rattle.std.proofs.Common.{ℕ, suc, ◌+◌, ◌<◌, List, All, drop, length, set, take, arith}
use Rattle.std.specs.declared.alloc.Global.{Global}
use Rattle.std.specs.declared.vec.Vec.{Vec}
use Rattle.std.proofs.lemmas.List.{drop-set-lt, drop_more, take_more_set}
use Rattle.std.proofs.lemmas.List.Elements.{All-push}
use Rattle.wd_value.specs.declared.value.Value.{Value}
use Rattle.wd_column_store.specs.Room.{HasRoom}

-- one column more has room
pub one_more : (columns : List (Vec Value Global)) (i : ℕ) (column : Vec Value Global) → i < length columns → HasRoom column
    → All HasRoom (take i columns) → All HasRoom (take (i + 1) (set columns i column))
one_more columns i column within room before = rw (take_more_set columns i column within) (All-push HasRoom (take i columns) column before room)

-- the columns after the first of these
pub after : (columns : List (Vec Value Global)) (i : ℕ) (column : Vec Value Global) → i < length columns → All HasRoom (drop i columns)
    → All HasRoom (drop (i + 1) (set columns i column))
after columns i column within rooms =
    let all = rw (drop_more columns i column within) at rooms in
    rw (drop-set-lt (i + 1) columns i column (omega arith)) (λ k d h. all (suc k) d (omega arith))
