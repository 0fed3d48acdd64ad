-- Keys: those of a table hold in its rows, and a nullable key without NULLs gives the row.
use Rattle.std.proofs.Common.{◌≡◌, ℕ, zero, suc, ◌<◌, Bool, true, false, not, ◌&&◌, ◌||◌, List, [], ◌∷◌, map, filter, length, refl, sym, ◌∙◌, ap, All, ◌⊎◌, inl, inr, arith}
use Rattle.std.specs.List.{AllByRecursion, list_any, list_all}
use Rattle.std.proofs.lemmas.Bool.{and_parts, false≢true, cases_order, or_cases}
use Rattle.wd_value.specs.declared.value.Value.{Value}
use Rattle.wd_value.specs.declared.value.Value.TheVariants.{Null, Int, Text, Bool as Truth}
use Rattle.wd_value.specs.Rows.{Row as RowValues, column_of, columns_of, row_at, same_row}
use Rattle.wd_value.proofs.SameLaws.{same_row-Decides}
use Rattle.wd_schema.specs.declared.table.Column.{Column as TableColumn}
use Rattle.wd_schema.specs.Meets.{KeepsKey, MeetsTable, fits_columns, is_of_type, may_hold, is_null as is_null_there}
use Rattle.wd_schema.specs.Tables.{KeyRule, TableRule}
use Rattle.wd_plan.specs.Expressions.{is_null}
use Rattle.wd_plan.specs.Facts.{IsNullableKey}
use Rattle.wd_plan.proofs.Parts.{all_filter}
use Rattle.wd_step_facts.specs.declared.facts.Member.TheVariants as member
use Rattle.wd_facts.specs.Laws.{DependenciesAreFacts}
use Rattle.wd_step_facts.specs.Facts.{Paired, Same, Holds, columns_named, key_fact, unpaired}
use Rattle.wd_facts.specs.Given.{full_keys, gives_row, is_not_null_column, keys_facts, names_columns, null_keys, row_keys}

-- ---- lists

pub all_map : {X Y : Type 0} (P : Y → Type 0) (f : X → Y) (xs : List X) → AllByRecursion (λ x. P (f x)) xs → AllByRecursion P (map f xs)
all_map P f [] a = tt
all_map P f (x ∷ xs) a = (a.0, all_map P f xs a.1)

pub all_of : {X : Type 0} (P : X → Type 0) (xs : List X) → All P xs → AllByRecursion P xs
all_of P [] h = tt
all_of P (x ∷ xs) h = (h 0 x (omega arith), all_of P xs (λ k d l. h (suc k) d (omega arith)))

pub all_are : {X : Type 0} (P Q : X → Type 0) → ((x : X) → P x → Q x) → (xs : List X) → AllByRecursion P xs → AllByRecursion Q xs
all_are P Q f [] a = tt
all_are P Q f (x ∷ xs) a = (f x a.0, all_are P Q f xs a.1)

-- ---- columns

-- the same in each column, and the same lists of values
pub columns_same : (n : Paired) (p q : ℕ) (X : List ℕ) → AllByRecursion (Same n p q) (columns_named X) → columns_of X (row_at n.rows p) ≡ columns_of X (row_at n.rows q)
columns_same n p q [] a = refl
columns_same n p q (c ∷ X) a = λ i. a.0 i ∷ columns_same n p q X a.1 i

pub named_same : (n : Paired) (p q : ℕ) (X : List ℕ) → columns_of X (row_at n.rows p) ≡ columns_of X (row_at n.rows q) → AllByRecursion (Same n p q) (columns_named X)
named_same n p q [] e = tt
named_same n p q (c ∷ X) e =
    let head : column_of (row_at n.rows p) c ≡ column_of (row_at n.rows q) c = cc in
    let tail : columns_of X (row_at n.rows p) ≡ columns_of X (row_at n.rows q) = cc in
    (head, named_same n p q X tail)

pub same_named : (n : Paired) (p q : ℕ) (X : List ℕ) → AllByRecursion (Same n p q) (columns_named X) → columns_of X (row_at n.rows p) ≡ columns_of X (row_at n.rows q)
same_named n p q [] a = refl
same_named n p q (c ∷ X) a = λ i. a.0 i ∷ same_named n p q X a.1 i

pub dependencies_are_facts : DependenciesAreFacts
dependencies_are_facts rows X = (
  λ c. (λ h p q k l a. (h p q k l (same_named (unpaired rows) p q X a), tt), λ h p q k l e. (h p q k l (named_same (unpaired rows) p q X e)).0),
  (λ h p q k l a. (h p q k l (same_named (unpaired rows) p q X a), tt), λ h p q k l e. (h p q k l (named_same (unpaired rows) p q X e)).0),
)

-- columns that are not null
pub no_nulls : (row : RowValues) (not_null : ℕ → Bool) → ((c : ℕ) → not_null c ≡ true → is_null (column_of row c) ≡ false) → (X : List ℕ) → list_all not_null X ≡ true → list_any is_null (columns_of X row) ≡ false
no_nulls row not_null h [] e = refl
no_nulls row not_null h (c ∷ X) e =
    let parts = and_parts (not_null c) (list_all not_null X) e in
    λ i. h c parts.0 i || no_nulls row not_null h X parts.1 i

-- ---- nullable keys that are full

pub full_key : (rows : List RowValues) (X : List ℕ) (not_null : ℕ → Bool) → IsNullableKey rows X → ((p c : ℕ) → p < length rows → not_null c ≡ true → is_null (column_of (row_at rows p) c) ≡ false) → list_all not_null X ≡ true → Holds (unpaired rows) (key_fact member.Row X)
full_key rows X not_null key h e p q k l a = (key p q k l (columns_same (unpaired rows) p q X a) (no_nulls (row_at rows p) not_null (λ c. h p c k) X e), tt)

pub full_keys_hold : (rows : List RowValues) (not_null : ℕ → Bool) → ((p c : ℕ) → p < length rows → not_null c ≡ true → is_null (column_of (row_at rows p) c) ≡ false) → (keys : List (List ℕ)) → AllByRecursion (IsNullableKey rows) keys → AllByRecursion (Holds (unpaired rows)) (keys_facts member.Row (full_keys not_null keys))
full_keys_hold rows not_null h keys a = all_map (Holds (unpaired rows)) (key_fact member.Row) (full_keys not_null keys) (all_filter (list_all not_null) (IsNullableKey rows) (λ X. Holds (unpaired rows) (key_fact member.Row X)) (λ X key e. full_key rows X not_null key h e) keys a)

-- ---- a table's keys

one_test : is_null_there ≡ is_null
one_test = λ i v. by v i
  where
    by : (v : Value) → is_null_there v ≡ is_null v
    by Null = refl
    by (Int n) = refl
    by (Text t) = refl
    by (Truth b) = refl

not_both : (a b c : Bool) → a ≡ true → c ≡ false → (a && not (b && c)) ≡ false → ⊥
not_both a true c e f h = false≢true (sym h ∙ (λ i. e i && not (f i)))
not_both a false c e f h = false≢true (sym h ∙ (λ i. e i && not false))

not_distinct : (a b c : Bool) → a ≡ true → b ≡ false → (a && not (b && c)) ≡ false → ⊥
not_distinct a b c e f h = false≢true (sym h ∙ (λ i. e i && not (f i && c)))

-- two positions that are the same on a key, of which a NULL there does not excuse them, are one
module _ (rows : List RowValues) (key : KeyRule) (keeps : KeepsKey rows key) where
  abbrev Excused : ℕ → Type 0
  Excused p = (key.nulls_distinct ≡ false) ⊎ (list_any is_null (columns_of key.columns (row_at rows p)) ≡ false)

  no_two : (p q : ℕ) → p < q → q < length rows → columns_of key.columns (row_at rows p) ≡ columns_of key.columns (row_at rows q) → Excused p → ⊥
  no_two p q k l e (inl f) =
      not_distinct (same_row (columns_of key.columns (row_at rows p)) (columns_of key.columns (row_at rows q))) key.nulls_distinct (list_any is_null_there (columns_of key.columns (row_at rows p))) ((same_row-Decides (columns_of key.columns (row_at rows p)) (columns_of key.columns (row_at rows q))).1 e) f (keeps p q [] k l)
  no_two p q k l e (inr f) =
      not_both (same_row (columns_of key.columns (row_at rows p)) (columns_of key.columns (row_at rows q))) key.nulls_distinct (list_any is_null_there (columns_of key.columns (row_at rows p))) ((same_row-Decides (columns_of key.columns (row_at rows p)) (columns_of key.columns (row_at rows q))).1 e) (ap (λ t. list_any t (columns_of key.columns (row_at rows p))) one_test ∙ f) (keeps p q [] k l)

  excused_too : (p q : ℕ) → columns_of key.columns (row_at rows p) ≡ columns_of key.columns (row_at rows q) → Excused p → Excused q
  excused_too p q e (inl f) = inl f
  excused_too p q e (inr f) = inr (ap (list_any is_null) (sym e) ∙ f)

  pub one_position : (p q : ℕ) → p < length rows → q < length rows → columns_of key.columns (row_at rows p) ≡ columns_of key.columns (row_at rows q) → Excused p → p ≡ q
  one_position p q k l e x = by (cases_order p q)
    where
      by : (p ≡ q) ⊎ ((p < q) ⊎ (q < p)) → p ≡ q
      by (inl h) = h
      by (inr (inl h)) = absurd (no_two p q h l e x)
      by (inr (inr h)) = absurd (no_two q p h k (sym e) (excused_too p q e x))

-- a NOT NULL column of a row that fits
not_both_true : (a : Bool) → not (true && a) ≡ true → a ≡ false
not_both_true true e = absurd (false≢true e)
not_both_true false e = refl

null_tests : (v : Value) → is_null_there v ≡ false → is_null v ≡ false
null_tests v e = ap (λ t. t v) (sym one_test) ∙ e

pub column_not_null : (columns : List TableColumn) (row : RowValues) (c : ℕ) → fits_columns columns row ≡ true → is_not_null_column columns c ≡ true → is_null (column_of row c) ≡ false
column_not_null [] row c f e = absurd (false≢true e)
column_not_null (column ∷ columns) [] c f e = absurd (false≢true f)
column_not_null (column ∷ columns) (v ∷ row) zero f e =
    let parts = and_parts (may_hold column v) (fits_columns columns row) f in
    let here = and_parts (is_of_type column.kind v) (not (column.not_null && is_null_there v)) parts.0 in
    null_tests v (not_both_true (is_null_there v) (ap (λ b. not (b && is_null_there v)) (sym e) ∙ here.1))
column_not_null (column ∷ columns) (v ∷ row) (suc c) f e =
    let parts = and_parts (may_hold column v) (fits_columns columns row) f in
    column_not_null columns row c parts.1 e

module _ (t : TableRule) (rows : List RowValues) (meets : MeetsTable t rows) where
  pub row_fits : (p : ℕ) → p < length rows → fits_columns t.columns (row_at rows p) ≡ true
  row_fits p k = meets.values p [] k

  key_row : (key : KeyRule) → KeepsKey rows key → gives_row t key ≡ true → Holds (unpaired rows) (key_fact member.Row key.columns)
  key_row key keeps e p q k l a = (one_position rows key keeps p q k l (columns_same (unpaired rows) p q key.columns a) (by (or_cases (not key.nulls_distinct) (list_all (is_not_null_column t.columns) key.columns) e)), tt)
    where
      not_true : (b : Bool) → not b ≡ true → b ≡ false
      not_true true f = absurd (false≢true f)
      not_true false f = refl

      by : (not key.nulls_distinct ≡ true) ⊎ (list_all (is_not_null_column t.columns) key.columns ≡ true) → (key.nulls_distinct ≡ false) ⊎ (list_any is_null (columns_of key.columns (row_at rows p)) ≡ false)
      by (inl f) = inl (not_true key.nulls_distinct f)
      by (inr f) = inr (no_nulls (row_at rows p) (is_not_null_column t.columns) (λ c g. column_not_null t.columns (row_at rows p) c (row_fits p k) g) key.columns f)

  key_nullable : (key : KeyRule) → KeepsKey rows key → IsNullableKey rows key.columns
  key_nullable key keeps p q k l e n = one_position rows key keeps p q k l e (inr n)

  named : AllByRecursion (KeepsKey rows) t.keys
  named = all_of (KeepsKey rows) t.keys meets.keys

  -- the given facts of a Scan
  pub row_keys_hold : AllByRecursion (Holds (unpaired rows)) (keys_facts member.Row (row_keys t))
  row_keys_hold =
      let test : KeyRule → Bool = λ key. names_columns t key && gives_row t key in
      all_map (Holds (unpaired rows)) (key_fact member.Row) (row_keys t)
      (all_map (λ X. Holds (unpaired rows) (key_fact member.Row X)) (λ (key : KeyRule). key.columns) (filter test t.keys)
      (all_filter test (KeepsKey rows) (λ key. Holds (unpaired rows) (key_fact member.Row key.columns)) (λ key keeps e. key_row key keeps (and_parts (names_columns t key) (gives_row t key) e).1) t.keys named))

  pub null_keys_hold : AllByRecursion (IsNullableKey rows) (null_keys t)
  null_keys_hold =
      let test : KeyRule → Bool = λ key. names_columns t key && not (gives_row t key) in
      all_map (IsNullableKey rows) (λ (key : KeyRule). key.columns) (filter test t.keys) (all_filter test (KeepsKey rows) (λ key. IsNullableKey rows key.columns) (λ key h e. key_nullable key h) t.keys named)
