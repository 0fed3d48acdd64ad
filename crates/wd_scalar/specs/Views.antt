-- The row whose values an expression reads where they are.
use Rattle.std.specs.Prelude.{◌++◌}
use Rattle.wd_value.specs.Rows.{Row, row_at}
use Rattle.wd_scalar.specs.declared.view.Held.{Held}
use Rattle.wd_scalar.specs.declared.view.Held.TheVariants.{At, Pair}

-- the row at a position, or two such rows concatenated
abbrev pub row_held : Held → Row
row_held (At rows position) = row_at rows.now position
row_held (Pair left first right second) = row_at left.now first ++ row_at right.now second
