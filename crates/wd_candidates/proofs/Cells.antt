-- The cells and the rows of a candidate, column by column and table by table.
use Rattle.std.proofs.Common.{◌≡◌, ℕ, zero, suc, ◌+◌, ◌%◌, ◌<◌, ◌≤◌, Bool, true, false, not, cond, List, [], ◌∷◌, ◌++◌, length, drop, get_or, map, refl, sym, ◌∙◌, ap, arith, nat_eq, Option, Some, slice_get}
use Rattle.std.specs.List.{range_with_len}
use Rattle.std.proofs.lemmas.List.{append_assoc, drop_more, drop_all}
use Rattle.wd_value.specs.declared.value.Value.{Value}
use Rattle.wd_value.specs.Bags.{positions}
use Rattle.wd_value.specs.Rows.{Row, Instance}
use Rattle.wd_schema.specs.declared.table.Column.{Column}
use Rattle.wd_schema.specs.Tables.{TableRule}
use Rattle.wd_facts.specs.Given.{table_rule}
use Rattle.wd_candidates.specs.declared.outline.Outline.{Outline}
use Rattle.wd_candidates.specs.declared.shape.Shape.{Shape}
use Rattle.wd_candidates.specs.declared.shape.Style.{Style}
use Rattle.wd_candidates.specs.declared.tied.TiedColumns.{TiedColumns}
use Rattle.wd_candidates.specs.Candidates.{alternating, cell, cells, candidate_row, candidate_rows, is_keyed, styled_value}
use Rattle.wd_candidates.specs.Fixed.{fixed_value}
use Rattle.wd_plan.specs.Plans.{is_scanned}
use Rattle.wd_candidates.specs.Outlines.{IsCandidate, fixed_in, scanned_in, tied_in}
use Rattle.wd_candidates.specs.Tied.{is_tied}

-- ---- a row

-- one cell more
pub cells_next : (holds : ℕ → Column → Value) (row all : Row) (columns : List Column) (c : ℕ) (column : Column) (v : Value) → c < length columns → column ≡ get_or columns c column → v ≡ holds c column → row ++ cells holds c (drop c columns) ≡ all → (row ++ v ∷ []) ++ cells holds (c + 1) (drop (c + 1) columns) ≡ all
cells_next holds row all columns c column v h is value before =
    let rest : drop c columns ≡ column ∷ drop (c + 1) columns = drop_more columns c column h ∙ ap (λ x. x ∷ drop (c + 1) columns) (sym is) in
    append_assoc row (v ∷ []) (cells holds (c + 1) (drop (c + 1) columns))
    ∙ ap (λ x. row ++ (x ∷ cells holds (c + 1) (drop (c + 1) columns))) value
    ∙ ap (λ l. row ++ cells holds c l) (sym rest)
    ∙ before

-- no cell more
pub cells_end : (holds : ℕ → Column → Value) (row all : Row) (columns : List Column) (c : ℕ) → length columns ≤ c → row ++ cells holds c (drop c columns) ≡ all → row ≡ all
cells_end holds row all columns c h before = sym (append_nil row) ∙ ap (λ l. row ++ cells holds c l) (sym (drop_all c columns h)) ∙ before
  where
    append_nil : (xs : Row) → xs ++ [] ≡ xs
    append_nil [] = refl
    append_nil (x ∷ xs) = ap (λ l. x ∷ l) (append_nil xs)

-- ---- the findings say what a plan's candidate holds

cells_same : (f g : ℕ → Column → Value) (n c : ℕ) (columns : List Column) → c + length columns ≤ n → ((k : ℕ) → k < n → (column : Column) → f k column ≡ g k column) → cells f c columns ≡ cells g c columns
cells_same f g n c [] h same = refl
cells_same f g n c (column ∷ columns) h same =
    let first : f c column ≡ g c column = same c (omega arith) column in
    let rest : cells f (c + 1) columns ≡ cells g (c + 1) columns = cells_same f g n (c + 1) columns (omega arith) same in
    λ i. first i ∷ rest i

row_same : (table : TableRule) (fixed other : ℕ → Option Value) (tied also : ℕ → Bool) (style : Style) (i : ℕ) → ((c : ℕ) → c < length table.columns → fixed c ≡ other c) → ((c : ℕ) → c < length table.columns → tied c ≡ also c) → candidate_row table fixed tied style i ≡ candidate_row table other also style i
row_same table fixed other tied also style i f t =
    cells_same _ _ (length table.columns) 0 table.columns (omega arith)
    (λ c h column. λ j. cell (f c h j) (styled_value style (t c h j) (is_keyed table.keys c) column i))

map_same : {X Y : Type 0} (f g : X → Y) → ((x : X) → f x ≡ g x) → (xs : List X) → map f xs ≡ map g xs
map_same f g same [] = refl
map_same f g same (x ∷ xs) = λ i. same x i ∷ map_same f g same xs i

rows_same : (scanned also_scanned : Bool) (table : TableRule) (fixed other : ℕ → Option Value) (tied also : ℕ → Bool) (shape : Shape) → scanned ≡ also_scanned → ((c : ℕ) → c < length table.columns → fixed c ≡ other c) → ((c : ℕ) → c < length table.columns → tied c ≡ also c) → candidate_rows scanned table fixed tied shape ≡ candidate_rows also_scanned table other also shape
rows_same scanned also_scanned table fixed other tied also shape s f t =
    let rows = map_same (candidate_row table fixed tied shape.style) (candidate_row table other also shape.style) (λ i. row_same table fixed other tied also shape.style i f t) (positions shape.rows) in
    λ j. cond (s j) (rows j) []

range_same : {X : Type 0} (f g : ℕ → X) (a n : ℕ) → ((t : ℕ) → t < a + n → f t ≡ g t) → map f (range_with_len a n) ≡ map g (range_with_len a n)
range_same f g a zero same = refl
range_same f g a (suc n) same =
    let first : f a ≡ g a = same a (omega arith) in
    let rest : map f (range_with_len (a + 1) n) ≡ map g (range_with_len (a + 1) n) = range_same f g (a + 1) n (λ t h. same t (omega arith)) in
    λ i. first i ∷ rest i

pub candidate_found : (tables : List TableRule) (outline : Outline) (tied : TiedColumns) (shape : Shape) (instance : Instance) → instance ≡ map (λ t. candidate_rows (scanned_in outline t) (table_rule tables t) (fixed_in outline t) (tied_in tied t) shape) (positions (length tables)) → IsCandidate tables outline tied shape instance
candidate_found tables outline tied shape instance is plan o of_plan of_columns =
    is ∙ range_same _ _ 0 (length tables) (λ t h. rows_same (scanned_in outline t) (is_scanned plan t) (table_rule tables t) (fixed_in outline t) (fixed_value (table_rule tables t).columns plan t) (tied_in tied t) (is_tied o t) shape
    (of_plan.scanned t (omega arith))
    (λ c k. of_plan.fixed t c (omega arith) k)
    (λ c k. of_columns.is t c (omega arith) k))

-- ---- values

not_twice : (b : Bool) → not (not b) ≡ b
not_twice true = refl
not_twice false = refl

-- every other truth value is true
pub alternating_is : (i : ℕ) → nat_eq (i % 2) 1 ≡ alternating i
alternating_is zero = refl
alternating_is (suc zero) = refl
alternating_is (suc (suc i)) =
    let same : suc (suc i) % 2 ≡ i % 2 = omega arith in
    ap (λ k. nat_eq k 1) same ∙ alternating_is i ∙ sym (not_twice (alternating i))

-- ---- tables

pub rule_at : (tables : List TableRule) (table : ℕ) (t : TableRule) → slice_get tables table ≡ Some t → t ≡ table_rule tables table
rule_at tables table t e = rw e refl
