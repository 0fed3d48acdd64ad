-- The marks by which sets of columns are distinguished.
use Rattle.std.specs.Prelude.{ℕ, Bool, true, false, not, ◌&&◌, ◌||◌, if◌then◌else◌, List, [], ◌∷◌, ◌++◌, map, Vec}
use Rattle.std.specs.Global.{Global}
use Rattle.std.specs.List.{list_all}
use Rattle.wd_plan.specs.Plans.{has}

-- a list, followed by the columns that it does not have, each once
abbrev pub with_new : List ℕ → List ℕ → List ℕ
with_new [] list = list
with_new (c ∷ columns) list = with_new columns (if has list c then list else list ++ c ∷ [])

-- for each of the columns, whether a set has it
abbrev pub marks : List ℕ → List ℕ → List Bool
marks columns set = map (has set) columns

-- rows of marks that differ at a place that both have
abbrev pub differ : List Bool → List Bool → Bool
differ (a ∷ xs) (b ∷ ys) = (if a then not b else b) || differ xs ys
differ xs ys = false

-- every two rows of marks differ
abbrev pub are_marked_apart : List (List Bool) → Bool
are_marked_apart [] = true
are_marked_apart (row ∷ rows) = list_all (differ row) rows && are_marked_apart rows

-- the rows of marks that a list of the code shows
abbrev pub marked_sets : List (Vec Bool Global) → List (List Bool)
marked_sets rows = map (λ row. row.items) rows
