-- Rows and their columns, when both are copied.
use Rattle.std.proofs.Common.{◌≡◌, ◌∙◌, ℕ, ◌<◌, List, [], ◌∷◌, All, length, map, refl, sym, arith}
use Rattle.std.proofs.lemmas.List.{get_or-map, length-map}
use Rattle.std.proofs.lemmas.List.Elements.{All-head, All-tail}
use Rattle.std.proofs.lemmas.List.FromFn.{fill_by_all}
use Rattle.wd_value.specs.declared.value.Value.{Value}
use Rattle.wd_value.specs.declared.value.Value.TheVariants.{Null}
use Rattle.wd_value.specs.Bags.{positions}
use Rattle.wd_value.specs.Rows.{Row, column_of, columns_of, row_at, rows_at}
use Rattle.wd_column_store.specs.Along.{row_along, rows_along}

-- the rows at all positions
pub all_rows : (rows : List Row) → rows_at rows (positions (length rows)) ≡ rows
all_rows rows = sym (fill_by_all (row_at rows) rows (length rows) [] refl (λ k low. refl))

-- ---- columns of rows

module _ {A : Type 0} (value : A → Row → Value) where
  along : (rows : List Row) (columns : List A) (p : ℕ) → p < length rows → row_along (map (λ c. map (value c) rows) columns) p ≡ map (λ c. value c (row_at rows p)) columns
  along rows [] p low = refl
  along rows (c ∷ columns) p low = λ i. get_or-map (value c) rows p [] Null low i ∷ along rows columns p low i

  -- along columns whose values are found row by row stand the rows of these values
  pub values_along : (rows : List Row) (columns : List A) (n : ℕ) → length rows ≡ n → rows_along (map (λ c. map (value c) rows) columns) n ≡ map (λ row. map (λ c. value c row) columns) rows
  values_along rows columns n long =
      let there = λ (row : Row). map (λ c. value c row) columns in
      sym (fill_by_all (row_along (map (λ c. map (value c) rows) columns)) (map there rows) n [] (length-map rows there ∙ long) (λ k low. (
      let within : k < length rows = omega arith in
      get_or-map there rows k [] [] within ∙ sym (along rows columns k within))))

-- a column of the rows
abbrev pub column_in : List Row → ℕ → List Value
column_in rows c = map (λ row. column_of row c) rows

pub columns_along : (rows : List Row) (columns : List ℕ) (n : ℕ) → length rows ≡ n → rows_along (map (column_in rows) columns) n ≡ map (columns_of columns) rows
columns_along = values_along (λ c row. column_of row c)

-- ---- all columns of rows that have as many values

pub all_columns : (row : Row) (width : ℕ) → length row ≡ width → columns_of (positions width) row ≡ row
all_columns row width wide = sym (fill_by_all (column_of row) row width Null wide (λ k low. refl))

pub even : (rows : List Row) (width : ℕ) → All (λ row. length row ≡ width) rows → map (columns_of (positions width)) rows ≡ rows
even [] width wide = refl
even (row ∷ rows) width wide =
    let head = all_columns row width (All-head (λ r. length r ≡ width) row rows wide) in
    let tail = even rows width (All-tail (λ r. length r ≡ width) row rows wide) in
    λ i. head i ∷ tail i

pub even_along : (rows : List Row) (width n : ℕ) → All (λ row. length row ≡ width) rows → length rows ≡ n → rows_along (map (column_in rows) (positions width)) n ≡ rows
even_along rows width n wide long = columns_along rows (positions width) n long ∙ even rows width wide
