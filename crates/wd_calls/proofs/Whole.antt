-- The values of a column at the first places, one after another, and at all places.
use Rattle.std.proofs.Common.{◌≡◌, ◌∙◌, ℕ, suc, ◌+◌, ◌<◌, List, [], ◌∷◌, ◌++◌, length, map, refl, sym, ap, arith, zero-add}
use Rattle.std.specs.List.{range_with_len}
use Rattle.std.proofs.lemmas.List.FromFn.{length-map-range_with_len, map-range_with_len_more}
use Rattle.wd_value.specs.Bags.{positions}
use Rattle.wd_value.specs.Rows.{Row, row_at}
use Rattle.wd_plan.specs.Calls.{column_values}
use Rattle.wd_calls.specs.Values.{first_values, value_in}
use Rattle.wd_calls.proofs.Columns.{flat}

-- the rows at the positions from one on
pub rows_from_place : (rows : List Row) (xs : List Row) (a : ℕ) → ((k : ℕ) → k < length xs → row_at rows (a + k) ≡ row_at xs k) → map (row_at rows) (range_with_len a (length xs)) ≡ xs
rows_from_place rows [] a h = refl
rows_from_place rows (x ∷ xs) a h =
    let head : row_at rows a ≡ x = ap (row_at rows) (omega arith) ∙ h 0 (omega arith) in
    let tail = rows_from_place rows xs (a + 1) (λ k l. ap (row_at rows) (omega arith) ∙ h (suc k) (omega arith)) in
    λ i. head i ∷ tail i

-- the values at all places
pub whole_column : (partition : List Row) (c : ℕ) → first_values partition c (length partition) ≡ column_values c partition
whole_column partition c =
    sym (flat partition c (positions (length partition)))
    ∙ ap (column_values c) (rows_from_place partition partition 0 (λ k l. ap (row_at partition) (omega arith)))

-- the values at one more place
pub one_more : (partition : List Row) (c place : ℕ) → first_values partition c (place + 1) ≡ first_values partition c place ++ value_in partition c place ∷ []
one_more partition c place = map-range_with_len_more (value_in partition c) 0 place place (zero-add place)

pub length-first_values : (partition : List Row) (c place : ℕ) → length (first_values partition c place) ≡ place
length-first_values partition c place = length-map-range_with_len (value_in partition c) 0 place
