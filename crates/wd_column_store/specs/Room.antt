-- Room for a further value.
use Rattle.std.specs.Prelude.{◌<◌, vec_len, vec_capacity}
use Rattle.std.specs.declared.alloc.Global.{Global}
use Rattle.std.specs.declared.vec.Vec.{Vec}
use Rattle.wd_value.specs.declared.value.Value.{Value}

-- a column can take a further value where it is
abbrev pub HasRoom : Vec Value Global → Type 0
HasRoom column = vec_len column < vec_capacity column
