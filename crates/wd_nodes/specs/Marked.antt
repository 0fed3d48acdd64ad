-- Columns that expressions read, by marks.
use Rattle.std.specs.Prelude.{◌≡◌, ℕ, Bool, true, List, get_or}
use Rattle.wd_value.specs.Rows.{Row}
use Rattle.wd_joined.specs.Alike.{IsAlikeIn}
use Rattle.wd_plan.specs.Expressions.{Expression, value_of}

-- rows that agree on the marked columns give the expression one value
abbrev pub Reads : List Bool → Expression → Type 0
Reads marks e = (row other : Row) → IsAlikeIn marks row other → value_of e row ≡ value_of e other

-- no mark is gone
abbrev pub HasMore : List Bool → List Bool → Type 0
HasMore old new = (c : ℕ) → get_or old c true ≡ true → get_or new c true ≡ true
