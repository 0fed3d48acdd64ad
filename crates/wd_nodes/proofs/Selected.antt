-- Outputs to which rows are moved, and numbers of which none stands twice in a list.
use Rattle.std.proofs.Common.{◌≡◌, ◌∙◌, ◌≤◌, ℕ, true, false, true≢false, List, [], ◌∷◌, ◌++◌, map, length, get_or, Ok, refl, sym, ap, subst, arith, inl, inr}
use Rattle.std.specs.Prelude.{All, IfNone, Option, Some, None}
use Rattle.std.specs.List.{AllZip, list_all}
use Rattle.std.proofs.lemmas.List.{get_or_past}
use Rattle.std.proofs.lemmas.List.Elements.{All-get_or}
use Rattle.wd_column_store.specs.Moves.{AreDifferent}
use Rattle.wd_value.specs.declared.value.Value.TheVariants.{Null}
use Rattle.wd_value.specs.Rows.{Row, column_of, columns_of}
use Rattle.wd_plan.specs.Expressions.{Expression, Column, value_of}
use Rattle.wd_plan.specs.Faults.{all_ok}
use Rattle.wd_plan.specs.Outcomes.{map_outcome}
use Rattle.wd_steps.specs.Selections.{is_column}
use Rattle.wd_steps.proofs.Selecting.{all_ok-map}
use Rattle.wd_nodes.specs.Selected.{IsColumnOr}

-- ---- a Map to columns selects them

-- the output has the value that the row has in this column
abbrev Reads : Row → Expression → ℕ → Type 0
Reads row output column = value_of output row ≡ Ok (column_of row column)

values_read : (row : Row) (outputs : List Expression) (columns : List ℕ) → AllZip (Reads row) outputs columns → map (λ output. value_of output row) outputs ≡ map (λ c. Ok (column_of row c)) columns
values_read row [] [] read = refl
values_read row [] (c ∷ columns) read = absurd read
values_read row (e ∷ outputs) [] read = absurd read
values_read row (e ∷ outputs) (c ∷ columns) read = λ i. read.0 i ∷ values_read row outputs columns read.1 i

row_read : (row : Row) (outputs : List Expression) (columns : List ℕ) → AllZip (Reads row) outputs columns → all_ok (map (λ output. value_of output row) outputs) ≡ Ok (columns_of columns row)
row_read row outputs columns read =
    ap all_ok (values_read row outputs columns read)
    ∙ all_ok-map (λ c. Ok (column_of row c)) (column_of row) columns (λ k d low. refl)

columns_read : (row : Row) (columns : List ℕ) → AllZip (Reads row) (map Column columns) columns
columns_read row [] = tt
columns_read row (c ∷ columns) = (refl, columns_read row columns)

-- a Map of columns selects them
pub columns_outcome : (columns : List ℕ) (rows : List Row) → map_outcome (map Column columns) rows ≡ Ok (map (columns_of columns) rows)
columns_outcome columns rows =
    all_ok-map (λ row. all_ok (map (λ output. value_of output row) (map Column columns))) (columns_of columns) rows
    (λ k d low. row_read (get_or rows k d) (map Column columns) columns (columns_read (get_or rows k d) columns))

reads_null : (past : ℕ) (row : Row) → length row ≤ past → (output : Expression) (column : ℕ) → IsColumnOr past output column → Reads row output column
reads_null past row short output column (inl is) = ap (λ e. value_of e row) is
reads_null past row short output column (inr null) =
    let late = null.2 in
    ap (λ e. value_of e row) null.1 ∙ ap Ok (sym (get_or_past row column Null (omega arith)))

all_read : (past : ℕ) (row : Row) → length row ≤ past → (outputs : List Expression) (columns : List ℕ) → AllZip (IsColumnOr past) outputs columns → AllZip (Reads row) outputs columns
all_read past row short [] [] are = tt
all_read past row short [] (c ∷ columns) are = absurd are
all_read past row short (e ∷ outputs) [] are = absurd are
all_read past row short (e ∷ outputs) (c ∷ columns) are = (reads_null past row short e c are.0, all_read past row short outputs columns are.1)

-- a Map of columns and NULLs selects columns, those for NULL past the last column of each row
pub selected_outcome : (past : ℕ) (outputs : List Expression) (columns : List ℕ) (rows : List Row) → AllZip (IsColumnOr past) outputs columns → All (λ row. length row ≤ past) rows → map_outcome outputs rows ≡ Ok (map (columns_of columns) rows)
selected_outcome past outputs columns rows are short =
    all_ok-map (λ row. all_ok (map (λ output. value_of output row) outputs)) (columns_of columns) rows
    (λ k d low. row_read (get_or rows k d) outputs columns (all_read past (get_or rows k d) (All-get_or (λ row. length row ≤ past) rows k d low short) outputs columns are))

-- ---- one more output

pub zip_more : {A B : Type 0} (R : A → B → Type 0) (xs : List A) (ys : List B) (x : A) (y : B) → AllZip R xs ys → R x y → AllZip R (xs ++ x ∷ []) (ys ++ y ∷ [])
zip_more R [] [] x y all one = (one, tt)
zip_more R [] (b ∷ ys) x y all one = absurd all
zip_more R (a ∷ xs) [] x y all one = absurd all
zip_more R (a ∷ xs) (b ∷ ys) x y all one = (all.0, zip_more R xs ys x y all.1 one)

pub from_earlier : (past next : ℕ) (output : Expression) (column : ℕ) → past ≤ next → IsColumnOr next output column → IsColumnOr past output column
from_earlier past next output column low (inl is) = inl is
from_earlier past next output column low (inr null) = let late = null.2 in inr (null.0, null.1, omega arith)

-- ---- where no columns are selected

all_columns : (columns : List ℕ) → list_all is_column (map Column columns) ≡ true
all_columns [] = refl
all_columns (c ∷ columns) = all_columns columns

pub none_shown : (outputs : List Expression) (columns : List ℕ) → list_all is_column outputs ≡ false → outputs ≡ map Column columns → ⊥
none_shown outputs columns h e = true≢false (sym (all_columns columns) ∙ sym (ap (list_all is_column) e) ∙ h)

-- the number of a column
abbrev number : Expression → ℕ
number (Column c) = c
number _ = 0

own_column : (past c column : ℕ) → IsColumnOr past (Column c) column → column ≡ c
own_column past c column (inl is) = sym (ap number is)
own_column past c column (inr null) = absurd (true≢false (ap is_column null.1))

own_columns : (past : ℕ) (columns found : List ℕ) → AllZip (IsColumnOr past) (map Column columns) found → found ≡ columns
own_columns past [] [] are = refl
own_columns past [] (f ∷ found) are = absurd are
own_columns past (c ∷ columns) [] are = absurd are
own_columns past (c ∷ columns) (f ∷ found) are = λ i. own_column past c f are.0 i ∷ own_columns past columns found are.1 i

pub none_different : (past : ℕ) (outputs : List Expression) (found columns : List ℕ) → AllZip (IsColumnOr past) outputs found → (AreDifferent found → ⊥) → AreDifferent columns → outputs ≡ map Column columns → ⊥
none_different past outputs found columns are twice different is =
    twice (subst AreDifferent (sym (own_columns past columns found (subst (λ es. AllZip (IsColumnOr past) es found) is are))) different)

-- what is so without a value
pub still_none : {X : Type 0} {P Q : Type 0} (o : Option X) → (P → Q) → IfNone o P → IfNone o Q
still_none None f h = f h
still_none (Some x) f h = tt
