-- Outputs to which rows are moved.
use Rattle.std.specs.Prelude.{◌≡◌, ◌≤◌, ◌⊎◌, ℕ}
use Rattle.wd_value.specs.declared.value.Value.TheVariants.{Null}
use Rattle.wd_plan.specs.declared.expression.ValueKind.{ValueKind}
use Rattle.wd_plan.specs.Expressions.{Expression, Column, Literal}

-- the output is this column, or it is NULL and the column is one from `past` on
abbrev pub IsColumnOr : ℕ → Expression → ℕ → Type 0
IsColumnOr past output column = (output ≡ Column column) ⊎ ((kind : ValueKind) × (output ≡ Literal Null kind) × (past ≤ column))
