-- Rows along columns: where they stand, those with some of the columns, and one more.
use Rattle.std.proofs.Common.{◌≡◌, ◌∙◌, ℕ, zero, suc, ◌+◌, ◌<◌, ◌≤◌, List, [], ◌∷◌, ◌++◌, All, map, length, get_or, set, refl, sym, ap, arith, zero-add}
use Rattle.std.specs.List.{range_with_len}
use Rattle.std.proofs.lemmas.List.{get_or-map as get_or_mapped, get_or_append_left, get_or_past, get_or_push, length-map, length_push, map_push, map-set, same_lists}
use Rattle.std.proofs.lemmas.List.Elements.{All-map}
use Rattle.std.proofs.lemmas.List.FromFn.{get_or-map-range_with_len, length-range_with_len, map-range_with_len_more}
use Rattle.std.proofs.Math.ListN.{get_or-map}
use Rattle.std.proofs.Math.Seq.{map-set_same}
use Rattle.std.specs.declared.alloc.Global.{Global}
use Rattle.std.specs.declared.vec.Vec.{Vec}
use Rattle.wd_value.specs.declared.value.Value.{Value}
use Rattle.wd_value.specs.declared.value.Value.TheVariants.{Null}
use Rattle.wd_value.specs.Bags.{positions}
use Rattle.wd_value.specs.Rows.{Row, column_of, columns_of, row_at, rows_at, rows_of}
use Rattle.wd_column_store.specs.Along.{AreLong, row_along, rows_along, values_at, with_row, with_values}
use Rattle.wd_column_store.specs.Moves.{AreWithin}
use Rattle.wd_column_store.proofs.Places.{items}

-- the value of a column at a position
abbrev pub at : ℕ → Row → Value
at p column = get_or column p Null

pub count : (columns : List Row) (n : ℕ) → length (rows_along columns n) ≡ n
count columns n = length-map (positions n) (row_along columns) ∙ length-range_with_len 0 n

-- each row has a value of each column
pub even_rows : (columns : List Row) (n : ℕ) → All (λ row. length row ≡ length columns) (rows_along columns n)
even_rows columns n = All-map (λ row. length row ≡ length columns) (row_along columns) (positions n) (λ k d low. length-map columns (at (get_or (positions n) k d)))

pub value_is : (columns : List Row) (p c : ℕ) → column_of (row_along columns p) c ≡ get_or (row_at columns c) p Null
value_is columns p c = get_or-map (at p) columns c []

pub row_is : (columns : List Row) (n p : ℕ) → p < n → row_at (rows_along columns n) p ≡ row_along columns p
row_is columns n p low = get_or-map-range_with_len (row_along columns) 0 n p p [] low (zero-add p)

pub past_is : (columns : List Row) (n p : ℕ) → n ≤ p → row_at (rows_along columns n) p ≡ []
past_is columns n p high = get_or_past (rows_along columns n) p [] (rw (count columns n) high)

-- ---- some of the columns

selected_row : (columns : List Row) (p : ℕ) (places : List ℕ) → row_along (rows_at columns places) p ≡ columns_of places (row_along columns p)
selected_row columns p [] = refl
selected_row columns p (c ∷ places) = λ i. sym (value_is columns p c) i ∷ selected_row columns p places i

selected_along : (columns : List Row) (places ps : List ℕ) → map (row_along (rows_at columns places)) ps ≡ map (columns_of places) (map (row_along columns) ps)
selected_along columns places [] = refl
selected_along columns places (p ∷ ps) = λ i. selected_row columns p places i ∷ selected_along columns places ps i

pub selected : (columns : List Row) (places : List ℕ) (n : ℕ) → rows_along (rows_at columns places) n ≡ map (columns_of places) (rows_along columns n)
selected columns places n = selected_along columns places (positions n)

same_along : (f g : ℕ → Row) (a n : ℕ) → ((k : ℕ) → k < a + n → f k ≡ g k) → map f (range_with_len a n) ≡ map g (range_with_len a n)
same_along f g a zero h = refl
same_along f g a (suc n) h = λ i. h a (omega arith) i ∷ same_along f g (a + 1) n (λ k low. h k (omega arith)) i

-- ---- the rows at some positions

row_picked : (columns : List Row) (ps : List ℕ) (k : ℕ) → k < length ps → row_along (map (λ column. values_at column ps) columns) k ≡ row_along columns (get_or ps k 0)
row_picked [] ps k within = refl
row_picked (c ∷ columns) ps k within = λ i. get_or_mapped (λ p. at p c) ps k 0 Null within i ∷ row_picked columns ps k within i

pub picked_rows : (columns : List Row) (n : ℕ) (ps : List ℕ) → AreWithin n ps → rows_along (map (λ column. values_at column ps) columns) (length ps) ≡ rows_at (rows_along columns n) ps
picked_rows columns n ps all =
    let there = map (λ column. values_at column ps) columns in
    let rows = rows_along columns n in
    same_lists (rows_along there (length ps)) (rows_at rows ps) (count there (length ps) ∙ sym (length-map ps (row_at rows))) (λ k d low. (
    let within : k < length ps = rw (count there (length ps)) at low in
    get_or-map-range_with_len (row_along there) 0 (length ps) k k d within (zero-add k)
    ∙ row_picked columns ps k within
    ∙ sym (row_is columns n (get_or ps k 0) (all k 0 within))
    ∙ sym (get_or_mapped (row_at rows) ps k 0 d within)))

-- ---- one more column

pub one_column_more : (columns : List Row) (column : Row) (n : ℕ) → rows_along (columns ++ column ∷ []) n ≡ with_values (rows_along columns n) column
one_column_more columns column n =
    let beside = λ (p : ℕ). row_at (rows_along columns n) p ++ get_or column p Null ∷ [] in
    same_along (row_along (columns ++ column ∷ [])) beside 0 n (λ k low. (
    let there : k < n = omega arith in
    map_push (at k) columns column ∙ ap (λ (r : Row). r ++ get_or column k Null ∷ []) (sym (row_is columns n k there))))
    ∙ ap (λ m. map beside (positions m)) (sym (count columns n))

-- ---- a value taken out

-- a column that is the same at a position stands in the place of another: the row there is the same
pub row_kept : (columns : List (Vec Value Global)) (place p : ℕ) (column : Vec Value Global) → get_or column.items p Null ≡ get_or (row_at (rows_of columns) place) p Null
    → row_along (rows_of (set columns place column)) p ≡ row_along (rows_of columns) p
row_kept columns place p column same =
    ap (map (at p)) (map-set items columns place column) ∙ map-set_same (at p) (rows_of columns) place column.items [] same

-- ---- one more row

kept : (columns : List Row) (row : Row) (n p : ℕ) → AreLong n columns → p < n → row_along (with_row columns row) p ≡ row_along columns p
kept [] row n p long low = refl
kept (c ∷ columns) [] n p long low = refl
kept (c ∷ columns) (v ∷ row) n p long low =
    let here : length c ≡ n = long 0 c (omega arith) in
    let same : get_or (c ++ v ∷ []) p Null ≡ get_or c p Null = get_or_append_left c (v ∷ []) Null p (omega arith) in
    λ i. same i ∷ kept columns row n p (λ k d within. long (suc k) d (omega arith)) low i

last : (columns : List Row) (row : Row) (n : ℕ) → AreLong n columns → length row ≡ length columns → row_along (with_row columns row) n ≡ row
last [] [] n long wide = refl
last [] (v ∷ row) n long wide = absurd (omega arith)
last (c ∷ columns) [] n long wide = absurd (omega arith)
last (c ∷ columns) (v ∷ row) n long wide =
    let here : length c ≡ n = long 0 c (omega arith) in
    let same : get_or (c ++ v ∷ []) n Null ≡ v = get_or_push c v Null n here in
    λ i. same i ∷ last columns row n (λ k d within. long (suc k) d (omega arith)) (omega arith) i

-- the rows, and the new one after them
pub more : (columns : List Row) (row : Row) (n : ℕ) → AreLong n columns → length row ≡ length columns → rows_along (with_row columns row) (n + 1) ≡ rows_along columns n ++ row ∷ []
more columns row n long wide =
    map-range_with_len_more (row_along (with_row columns row)) 0 n n (zero-add n)
    ∙ (λ i. same_along (row_along (with_row columns row)) (row_along columns) 0 n (λ k low. kept columns row n k long (omega arith)) i ++ last columns row n long wide i ∷ [])

-- all columns are longer by one
pub longer : (columns : List Row) (row : Row) (n : ℕ) → AreLong n columns → length row ≡ length columns → AreLong (n + 1) (with_row columns row)
longer [] [] n long wide k d within = absurd (omega arith)
longer [] (v ∷ row) n long wide k d within = absurd (omega arith)
longer (c ∷ columns) [] n long wide k d within = absurd (omega arith)
longer (c ∷ columns) (v ∷ row) n long wide zero d within = let here : length c ≡ n = long 0 c (omega arith) in length_push c v ∙ ap (λ m. m + 1) here
longer (c ∷ columns) (v ∷ row) n long wide (suc k) d within = longer columns row n (λ j e low. long (suc j) e (omega arith)) (omega arith) k d (omega arith)
