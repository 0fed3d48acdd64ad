-- The two-row table of the first style: rows that tie by the window's columns, and differ in every other one.
use Rattle.std.proofs.Common.{◌≡◌, ◌⊎◌, inl, inr, ℕ, zero, suc, ◌+◌, ◌<◌, Bool, true, false, not, ◌&&◌, ◌||◌, List, [], ◌∷◌, get_or, length, map, nat_eq, nat_lt, refl, sym, ◌∙◌, ap, subst, arith, true≢false, None}
use Rattle.std.proofs.lemmas.Option.{slice_get-get_or}
use Rattle.std.specs.List.{list_any, list_all}
use Rattle.std.proofs.lemmas.Bool.{and_parts, eq-eqb, eqb-true, lt-ltb, ltb-true}
use Rattle.wd_value.specs.declared.value.Value.{Value}
use Rattle.wd_value.specs.declared.value.Value.TheVariants.{Null}
use Rattle.wd_value.specs.declared.value.ColumnType.{ColumnType}
use Rattle.wd_value.specs.declared.value.ColumnType.TheVariants as type
use Rattle.wd_value.specs.Rows.{Row, column_of, columns_of, same_row}
use Rattle.wd_value.specs.Values.{same}
use Rattle.wd_schema.specs.Meets.{fits_columns, is_null, is_of_type, may_hold, violates}
use Rattle.wd_schema.specs.Tables.{KeyRule, TableRule}
use Rattle.wd_schema.specs.declared.table.Column.{Column as TableColumn}
use Rattle.wd_plan.specs.Expressions.{Column}
use Rattle.wd_plan.specs.Sorting.{class_columns}
use Rattle.wd_facts.specs.Given.{gives_row, is_not_null_column, names_columns}
use Rattle.wd_step_facts.specs.Steps.{used}
use Rattle.wd_candidates.specs.Candidates.{candidate_row, cells, is_keyed, null_or_first, styled_value, value_of_type}
use Rattle.wd_candidates.specs.declared.shape.Style.TheVariants.{TiedNull}
use Rattle.wd_candidates.specs.Origins.{is_in_wanted}
use Rattle.wd_candidates.specs.Tied.{NodeColumns, is_tied}
use Rattle.wd_complete.specs.Plain.{PlainPlan, input_of}
use Rattle.wd_complete.proofs.Lists.{Among, among_stands, or_true, stands, stands_among, true_or}
use Rattle.wd_complete.proofs.Gives.{IsCopy}
use Rattle.wd_complete.proofs.Reached.{IsOrdered}

-- ---- tied columns

record IsWanted (read : List ℕ) (wanted : ℕ → Bool) (c : ℕ) : Type 0 where
  number : ℕ
  want : wanted number ≡ true
  copy : IsCopy read c number

wanted_is : (read : List ℕ) (wanted : ℕ → Bool) (c : ℕ) → is_in_wanted (map used (map Column read)) wanted c ≡ true → IsWanted read wanted c
wanted_is [] wanted c e = absurd (true≢false (sym e))
wanted_is (d ∷ read) wanted c e = by (or_true (wanted 0 && (nat_eq c d || false)) (is_in_wanted (map used (map Column read)) (λ n. wanted (n + 1)) c) e) (wanted_is read (λ n. wanted (n + 1)) c)
  where
    or_false : (b : Bool) → (b || false) ≡ true → b ≡ true
    or_false true h = refl
    or_false false h = h

    by : ((wanted 0 && (nat_eq c d || false)) ≡ true) ⊎ (is_in_wanted (map used (map Column read)) (λ n. wanted (n + 1)) c ≡ true) → (is_in_wanted (map used (map Column read)) (λ n. wanted (n + 1)) c ≡ true → IsWanted read (λ n. wanted (n + 1)) c) → IsWanted (d ∷ read) wanted c
    by (inl h) later = let q = and_parts (wanted 0) (nat_eq c d || false) h in record { number = 0; want = q.0; copy = record { within = omega arith; is = sym (eqb-true c d (or_false (nat_eq c d) q.1)) } }
    by (inr h) later =
        let k = later h in
        let w = k.copy.within in
        let more : k.number + 1 ≡ suc k.number = omega arith in
        record { number = suc k.number; want = subst (λ n. wanted n ≡ true) more k.want; copy = record { within = omega (arith, w); is = k.copy.is } }

is_wanted : (read : List ℕ) (wanted : ℕ → Bool) (j : ℕ) → j < length read → wanted j ≡ true → is_in_wanted (map used (map Column read)) wanted (get_or read j 0) ≡ true
is_wanted [] wanted j h e = absurd (omega (arith, h))
is_wanted (d ∷ read) wanted zero h e = ap (λ b. b || is_in_wanted (map used (map Column read)) (λ n. wanted (n + 1)) d) (λ i. e i && (eq-eqb d d refl i || false))
is_wanted (d ∷ read) wanted (suc j) h e =
    let more : suc j ≡ j + 1 = omega arith in
    true_or (wanted 0 && (nat_eq (get_or read j 0) d || false)) (is_in_wanted (map used (map Column read)) (λ n. wanted (n + 1)) (get_or read j 0)) (is_wanted read (λ n. wanted (n + 1)) j (omega (arith, h)) (subst (λ n. wanted n ≡ true) more e))

module _ (tables : List TableRule) (p : PlainPlan) where
  -- the window's columns, over the input of the Window
  abbrev pub ordered : NodeColumns
  ordered = record { node = input_of p; columns = class_columns p.class }

  abbrev pub tied : ℕ → Bool
  tied c = is_tied ordered p.table c

  pub tied_ordered : (c : ℕ) → tied c ≡ true → IsOrdered tables p c
  tied_ordered c e =
      let q = and_parts (nat_eq p.table p.table) (nat_lt c p.columns && is_in_wanted (map used (map Column p.read)) (stands (class_columns p.class)) c) e in
      let r = and_parts (nat_lt c p.columns) (is_in_wanted (map used (map Column p.read)) (stands (class_columns p.class)) c) q.1 in
      let w = wanted_is p.read (stands (class_columns p.class)) c r.1 in
      record { number = w.number; at = stands_among (class_columns p.class) w.number w.want; copy = w.copy }

  pub ordered_tied : (j : ℕ) → j < length p.read → get_or p.read j 0 < p.columns → Among j (class_columns p.class) → tied (get_or p.read j 0) ≡ true
  ordered_tied j within low at =
      let self = eq-eqb p.table p.table refl in
      let lower = lt-ltb (get_or p.read j 0) p.columns low in
      let want = is_wanted p.read (stands (class_columns p.class)) j within (among_stands (class_columns p.class) j at) in
      λ i. self i && (lower i && want i)

-- ---- the rows

cells_at : (holds : ℕ → TableColumn → Value) (a : ℕ) (columns : List TableColumn) (k : ℕ) (d : TableColumn) → k < length columns → column_of (cells holds a columns) k ≡ holds (a + k) (get_or columns k d)
cells_at holds a [] k d h = absurd (omega (arith, h))
cells_at holds a (column ∷ columns) zero d h = let none : a ≡ a + 0 = omega arith in ap (λ n. holds n column) none
cells_at holds a (column ∷ columns) (suc k) d h = let more : a + 1 + k ≡ a + suc k = omega arith in cells_at holds (a + 1) columns k d (omega (arith, h)) ∙ ap (λ n. holds n (get_or columns k d)) more

cells_fit : (holds : ℕ → TableColumn → Value) (a : ℕ) (columns : List TableColumn) → ((k : ℕ) (column : TableColumn) → may_hold column (holds k column) ≡ true) → fits_columns columns (cells holds a columns) ≡ true
cells_fit holds a [] h = refl
cells_fit holds a (column ∷ columns) h = λ i. h a column i && cells_fit holds (a + 1) columns h i

first_typed : (t : ColumnType) → is_of_type t (value_of_type t 0) ≡ true
first_typed type.SmallInt = refl
first_typed type.Integer = refl
first_typed type.BigInt = refl
first_typed type.Text = refl
first_typed type.Boolean = refl

second_typed : (t : ColumnType) → is_of_type t (value_of_type t 1) ≡ true
second_typed type.SmallInt = refl
second_typed type.Integer = refl
second_typed type.BigInt = refl
second_typed type.Text = refl
second_typed type.Boolean = refl

no_null : (t : ColumnType) (i : ℕ) → is_null (value_of_type t i) ≡ false
no_null type.SmallInt i = refl
no_null type.Integer i = refl
no_null type.BigInt i = refl
no_null type.Text i = refl
no_null type.Boolean i = refl

apart : (t : ColumnType) → same (value_of_type t 0) (value_of_type t 1) ≡ false
apart type.SmallInt = refl
apart type.Integer = refl
apart type.BigInt = refl
apart type.Text = refl
apart type.Boolean = refl

held : (column : TableColumn) (v : Value) → is_of_type column.kind v ≡ true → (column.not_null && is_null v) ≡ false → may_hold column v ≡ true
held column v typed null = λ i. typed i && not (null i)

and_no : (b : Bool) → (b && false) ≡ false
and_no true = refl
and_no false = refl

type_held : (column : TableColumn) (i : ℕ) → is_of_type column.kind (value_of_type column.kind i) ≡ true → may_hold column (value_of_type column.kind i) ≡ true
type_held column i typed = held column (value_of_type column.kind i) typed (ap (λ b. column.not_null && b) (no_null column.kind i) ∙ and_no column.not_null)

null_held : (column : TableColumn) → may_hold column (null_or_first column) ≡ true
null_held column = by column.not_null refl
  where
    by : (b : Bool) → column.not_null ≡ b → may_hold column (null_or_first column) ≡ true
    by true e = subst (λ v. may_hold column v ≡ true) (sym first) (type_held column 0 (first_typed column.kind))
      where
        first : null_or_first column ≡ value_of_type column.kind 0
        first = rw e refl
    by false e = held column (null_or_first column) typed null
      where
        first : null_or_first column ≡ Null
        first = rw e refl

        typed : is_of_type column.kind (null_or_first column) ≡ true
        typed = ap (is_of_type column.kind) first

        null : (column.not_null && is_null (null_or_first column)) ≡ false
        null = ap (λ b. b && is_null (null_or_first column)) e

styled_held : (is_tied keyed : Bool) (column : TableColumn) (i : ℕ) → is_of_type column.kind (value_of_type column.kind i) ≡ true → may_hold column (styled_value TiedNull is_tied keyed column i) ≡ true
styled_held true keyed column i typed = null_held column
styled_held false keyed column i typed = type_held column i typed

pub differ_at : (columns : List ℕ) (a b : Row) (c : ℕ) → Among c columns → same (column_of a c) (column_of b c) ≡ false → same_row (columns_of columns a) (columns_of columns b) ≡ false
differ_at [] a b c at e = absurd at
differ_at (x ∷ columns) a b c (inl f) e = ap (λ v. v && same_row (columns_of columns a) (columns_of columns b)) (subst (λ n. same (column_of a n) (column_of b n) ≡ false) (sym f) e)
differ_at (x ∷ columns) a b c (inr at) e = ap (λ v. same (column_of a x) (column_of b x) && v) (differ_at columns a b c at e) ∙ and_no (same (column_of a x) (column_of b x))

some_null : (columns : List ℕ) (a : Row) (c : ℕ) → Among c columns → column_of a c ≡ Null → list_any is_null (columns_of columns a) ≡ true
some_null [] a c at e = absurd at
some_null (x ∷ columns) a c (inl f) e = ap (λ v. is_null v || list_any is_null (columns_of columns a)) (subst (λ n. column_of a n ≡ Null) (sym f) e)
some_null (x ∷ columns) a c (inr at) e = true_or (is_null (column_of a x)) (list_any is_null (columns_of columns a)) (some_null columns a c at e)

pub passes_at : (p : ℕ → Bool) (columns : List ℕ) (c : ℕ) → list_all p columns ≡ true → Among c columns → p c ≡ true
passes_at p [] c e at = absurd at
passes_at p (x ∷ columns) c e (inl f) = subst (λ n. p n ≡ true) f (and_parts (p x) (list_all p columns) e).0
passes_at p (x ∷ columns) c e (inr at) = passes_at p columns c (and_parts (p x) (list_all p columns) e).1 at

-- two rows of a table, by which of its columns are tied
module _ (t : TableRule) (tied_at : ℕ → Bool) where
  abbrev pub row_of : ℕ → Row
  row_of i = candidate_row t (λ c. None) tied_at TiedNull i

  abbrev holds : ℕ → ℕ → TableColumn → Value
  holds i c column = styled_value TiedNull (tied_at c) (is_keyed t.keys c) column i

  pub row_fits : (i : ℕ) → ((k : ColumnType) → is_of_type k (value_of_type k i) ≡ true) → fits_columns t.columns (row_of i) ≡ true
  row_fits i typed = cells_fit (holds i) 0 t.columns (λ c column. styled_held (tied_at c) (is_keyed t.keys c) column i (typed column.kind))

  pub first_fits : fits_columns t.columns (row_of 0) ≡ true
  first_fits = row_fits 0 first_typed

  pub second_fits : fits_columns t.columns (row_of 1) ≡ true
  second_fits = row_fits 1 second_typed

  value_at : (i c : ℕ) (d : TableColumn) → c < length t.columns → column_of (row_of i) c ≡ styled_value TiedNull (tied_at c) (is_keyed t.keys c) (get_or t.columns c d) i
  value_at i c d h = cells_at (holds i) 0 t.columns c d h ∙ ap (λ n. holds i n (get_or t.columns c d)) none
    where
      none : 0 + c ≡ c
      none = omega arith

  by_tied : (b : Bool) (keyed : Bool) (column : TableColumn) (i : ℕ) → b ≡ true → styled_value TiedNull b keyed column i ≡ null_or_first column
  by_tied true keyed column i e = refl
  by_tied false keyed column i e = absurd (true≢false (sym e))

  by_untied : (b : Bool) (keyed : Bool) (column : TableColumn) (i : ℕ) → b ≡ false → styled_value TiedNull b keyed column i ≡ value_of_type column.kind i
  by_untied true keyed column i e = absurd (true≢false e)
  by_untied false keyed column i e = refl

  tied_value : (i c : ℕ) (d : TableColumn) → c < length t.columns → tied_at c ≡ true → column_of (row_of i) c ≡ null_or_first (get_or t.columns c d)
  tied_value i c d h e = value_at i c d h ∙ by_tied (tied_at c) (is_keyed t.keys c) (get_or t.columns c d) i e

  untied_value : (i c : ℕ) (d : TableColumn) → c < length t.columns → tied_at c ≡ false → column_of (row_of i) c ≡ value_of_type (get_or t.columns c d).kind i
  untied_value i c d h e = value_at i c d h ∙ by_untied (tied_at c) (is_keyed t.keys c) (get_or t.columns c d) i e

  -- rows agree where columns are tied, and differ in each other column of the table
  pub tied_same : (c : ℕ) (d : TableColumn) → c < length t.columns → tied_at c ≡ true → column_of (row_of 0) c ≡ column_of (row_of 1) c
  tied_same c d h e = tied_value 0 c d h e ∙ sym (tied_value 1 c d h e)

  pub untied_differ : (c : ℕ) (d : TableColumn) → c < length t.columns → tied_at c ≡ false → same (column_of (row_of 0) c) (column_of (row_of 1) c) ≡ false
  untied_differ c d h e = (λ i. same (untied_value 0 c d h e i) (untied_value 1 c d h e i)) ∙ apart (get_or t.columns c d).kind

  -- ---- keys

  -- a test fails at one of some columns
  record Fails (p : ℕ → Bool) (columns : List ℕ) : Type 0 where
    column : ℕ
    at : Among column columns
    fails : p column ≡ false

  fails_in : (p : ℕ → Bool) (columns : List ℕ) → list_all p columns ≡ false → Fails p columns
  fails_in p [] e = absurd (true≢false e)
  fails_in p (x ∷ columns) e = by (p x) refl e (fails_in p columns)
    where
      by : (b : Bool) → p x ≡ b → (b && list_all p columns) ≡ false → (list_all p columns ≡ false → Fails p columns) → Fails p (x ∷ columns)
      by true f g later = let k = later g in record { column = k.column; at = inr k.at; fails = k.fails }
      by false f g later = record { column = x; at = inl refl; fails = f }

  -- a nullable column holds NULL where it is tied
  null_there : (c : ℕ) (d : TableColumn) → c < length t.columns → tied_at c ≡ true → is_not_null_column t.columns c ≡ false → column_of (row_of 0) c ≡ Null
  null_there c d h e f = tied_value 0 c d h e ∙ nullable
    where
      column : TableColumn
      column = get_or t.columns c d

      not_null : column.not_null ≡ false
      not_null = sym (rw (slice_get-get_or t.columns c d h) refl) ∙ f

      nullable : null_or_first column ≡ Null
      nullable = rw not_null refl

  -- a key is kept unless it gives the row and all its columns are tied
  pub key_kept : (d : TableColumn) (key : KeyRule) → names_columns t key ≡ true → (gives_row t key ≡ true → list_all tied_at key.columns ≡ true → ⊥) → violates key (row_of 0) (row_of 1) ≡ false
  key_kept d key named but = by (list_all tied_at key.columns) refl (gives_row t key) refl
    where
      low : (c : ℕ) → Among c key.columns → c < length t.columns
      low c at = ltb-true c (length t.columns) (passes_at (λ c. nat_lt c (length t.columns)) key.columns c named at)

      distinct_nulls : (b c : Bool) → (not b || c) ≡ false → (b ≡ true) × (c ≡ false)
      distinct_nulls true c e = (refl, e)
      distinct_nulls false c e = absurd (true≢false e)

      by : (b : Bool) → list_all tied_at key.columns ≡ b → (g : Bool) → gives_row t key ≡ g → violates key (row_of 0) (row_of 1) ≡ false
      by false e g f = let k = fails_in tied_at key.columns e in ap (λ v. v && not (key.nulls_distinct && list_any is_null (columns_of key.columns (row_of 0)))) (differ_at key.columns (row_of 0) (row_of 1) k.column k.at (untied_differ k.column d (low k.column k.at) k.fails))
      by true e true f = absurd (but f e)
      by true e false f =
          let q = distinct_nulls key.nulls_distinct (list_all (is_not_null_column t.columns) key.columns) f in
          let k = fails_in (is_not_null_column t.columns) key.columns q.1 in
          let null = some_null key.columns (row_of 0) k.column k.at (null_there k.column d (low k.column k.at) (passes_at tied_at key.columns k.column e k.at) k.fails) in
          (λ i. same_row (columns_of key.columns (row_of 0)) (columns_of key.columns (row_of 1)) && not (q.0 i && null i)) ∙ and_no (same_row (columns_of key.columns (row_of 0)) (columns_of key.columns (row_of 1)))
