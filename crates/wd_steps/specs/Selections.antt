-- Outputs that are columns of the row.
use Rattle.std.specs.Prelude.{Bool, true, false}
use Rattle.wd_plan.specs.Expressions.{Expression, Column}

-- a column of the row
abbrev pub is_column : Expression → Bool
is_column (Column c) = true
is_column _ = false
