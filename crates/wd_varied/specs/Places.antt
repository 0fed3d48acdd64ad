-- Which columns a try fills equally, and which differ in each row.
use Rattle.std.specs.Prelude.{ℕ, ◌%◌, ◌&&◌, ◌||◌, Bool, List, [], ◌∷◌, nat_eq, nat_lt, if◌then◌else◌}
use Rattle.std.specs.List.{list_any}
use Rattle.wd_schema.specs.Tables.{KeyRule}
use Rattle.wd_candidates.specs.declared.origins.TableColumn.{TableColumn}
use Rattle.wd_varied.specs.Patterns.{is_telling}
use Rattle.wd_varied.specs.Suggested.{Hints}
use Rattle.wd_varied.specs.declared.conditions.Compared.{Compared}
use Rattle.wd_varied.specs.declared.conditions.Equated.{Equated}
use Rattle.wd_varied.specs.declared.place.Place.{Place}

abbrev pub is_at : TableColumn → Place → Bool
is_at column p = nat_eq column.table p.table && nat_eq column.column p.column

abbrev pub place_of : TableColumn → Place
place_of column = record { table = column.table; column = column.column }

-- whether some equation names a column
abbrev pub names : Place → Equated → Bool
names p e = is_at e.left p || is_at e.right p

abbrev pub is_equated : List Equated → Place → Bool
is_equated es p = list_any (names p) es

-- the column to which equations lead back from a column: from the right side of one to its left side, the last equation first
abbrev pub back : Equated → Place → Place
back e p = if is_at e.right p then place_of e.left else p

abbrev pub lead : List Equated → Place → Place
lead [] p = p
lead (e ∷ es) p = back e (lead es p)

-- ---- by the number of a try

-- the first two of four tries should meet the plan's conditions
abbrev pub is_to_meet : ℕ → Bool
is_to_meet number = nat_lt (number % 4) 2

-- in such a try a column that is compared with literals holds these, otherwise values near them
abbrev pub suggestions : Hints → ℕ → List Compared
suggestions h number = if is_to_meet number then h.exact else h.near

-- in such a try a column is filled like the one to which equations lead back
abbrev pub source : Hints → ℕ → Place → Place
source h number p = if is_to_meet number then lead h.equated p else p

-- a column differs in each row where a key distinguishes rows by it, and in such a try also where an equation names it
abbrev pub differs : Hints → List KeyRule → ℕ → Place → Bool
differs h keys number p = is_telling number p.column keys || (is_to_meet number && is_equated h.equated p)
