-- What follows from members: a side of a Join contributes its columns, both sides contribute the row, and the row contributes every
-- column.
use Rattle.std.specs.Prelude.{ℕ, Bool, false, ◌&&◌, ◌||◌, List, nat_lt, nat_le, Option, Some, None}
use Rattle.std.specs.List.{list_all}
use Rattle.wd_step_facts.specs.declared.facts.Member.{Member}
use Rattle.wd_step_facts.specs.declared.facts.Member.TheVariants.{Column, Left, Right, Row}
use Rattle.wd_step_facts.specs.Facts.{FactList}
use Rattle.wd_sets.specs.Sets.{stands_in}

-- the row itself, or both sides of a Join
abbrev pub has_row : Option ℕ → (Member → Bool) → Bool
has_row None has = has Row
has_row (Some split) has = has Row || (has Left && has Right)

-- a side of a Join reaches all of its columns
abbrev pub by_side : Option ℕ → ℕ → (Member → Bool) → ℕ → Bool
by_side None columns has c = false
by_side (Some split) columns has c = (has Left && nat_lt c split) || (has Right && (nat_le split c && nat_lt c columns))

-- what is reached with these members; the row reaches every column and both sides
abbrev pub reaches : FactList → (Member → Bool) → Member → Bool
reaches facts has (Column c) = has (Column c) || (by_side facts.split facts.columns has c || has_row facts.split has)
reaches facts has Left = has Left || has_row facts.split has
reaches facts has Right = has Right || has_row facts.split has
reaches facts has Row = has_row facts.split has

abbrev pub reaches_each : FactList → (Member → Bool) → List Member → Bool
reaches_each facts has members = list_all (reaches facts has) members

-- the members and some more
abbrev pub also : (Member → Bool) → List Member → Member → Bool
also has members m = has m || stands_in members m
