-- The names of the added tables and of their columns: "in 1", with its column "in 1"; "exists 2", with its columns "exists 2 1" and
-- "exists 2 2".
use Rattle.std.specs.Prelude.{ℕ, codes, List, ◌++◌}
use Rattle.std.specs.Fmt.{decimal}
use Rattle.wd_membership.specs.declared.membership.Test.{Test}
use Rattle.wd_membership.specs.declared.membership.Test.TheVariants as test

abbrev pub table_name : Test → ℕ → List ℕ
table_name test.In table = codes "in " ++ decimal table
table_name test.Exists table = codes "exists " ++ decimal table

abbrev pub column_name : Test → ℕ → ℕ → List ℕ
column_name test.In table column = codes "in " ++ decimal table
column_name test.Exists table column = codes "exists " ++ (decimal table ++ (codes " " ++ decimal column))
