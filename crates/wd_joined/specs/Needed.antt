-- Tables in which columns of joined rows stand, without the others.
use Rattle.std.specs.Prelude.{◌≡◌, ℕ, ◌<◌, Bool, true, List, [], ◌++◌, Option, Some, None, get_or, length, map, if◌then◌else◌}
use Rattle.wd_value.specs.Bags.{positions}
use Rattle.wd_value.specs.Rows.{Row, table_at}
use Rattle.wd_joined.specs.declared.needed.Needed.{Needed}
use Rattle.wd_joined.specs.declared.origin.Origin.{Origin}

-- the table with the first number, of those from which are taken, has the second one among these, with its positions
pub record IsUnder (tables : List (List Row)) (lists : List (List ℕ)) (needed : Needed) (t n : ℕ) : Type 0 where
  pub within : n < length needed.tables.items
  pub table : table_at needed.tables.items n ≡ table_at tables t
  pub list : get_or needed.positions.items n [] ≡ get_or lists t []

-- each table that has a number is there under it
pub record AreNeeded (tables : List (List Row)) (lists : List (List ℕ)) (needed : Needed) : Type 0 where
  pub lists_too : length needed.positions.items ≡ length needed.tables.items
  pub numbers : length needed.numbers.items ≡ length tables
  pub numbered : (t n : ℕ) → get_or needed.numbers.items t None ≡ Some n → IsUnder tables lists needed t n

-- further tables may have come behind
pub record IsMore (old new : Needed) : Type 0 where
  pub tables : List (List Row)
  pub lists : List (List ℕ)
  pub tables_are : new.tables.items ≡ old.tables.items ++ tables
  pub lists_are : new.positions.items ≡ old.positions.items ++ lists

-- the columns that are marked, and those past the marks; the others stand nowhere
abbrev pub origins_marked : List Bool → List (Option Origin) → List (Option Origin)
origins_marked marks origins = map (λ c. if get_or marks c true then get_or origins c None else None) (positions (length origins))
