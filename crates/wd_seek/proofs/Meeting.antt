-- The test that decides whether an instance meets a schema, and what the values of such an instance are.
use Rattle.std.proofs.Common.{◌≡◌, ℕ, ◌-◌, ◌^◌, ◌<◌, ◌&&◌, Bool, true, false, not, All, List, [], ◌∷◌, length, get_or, slice_get, Some, pos, negsuc, ℤ, FitsSigned, w64, int_le, nat_eq, refl, sym, ◌∙◌, subst, arith, true≢false}
use Rattle.std.proofs.lemmas.Bool.{eq-eqb, eqb-true, leb-true}
use Rattle.std.proofs.lemmas.List.FromFn.{get_or-range_with_len, length-range_with_len}
use Rattle.std.proofs.lemmas.List.Elements.{All-cons, All-nil}
use Rattle.std.proofs.lemmas.Option.{slice_get-get_or, slice_get_within}
use Rattle.std.specs.Cmp.Derive.{both_true}
use Rattle.std.specs.List.{list_all}
use Rattle.wd_value.specs.Bags.{positions}
use Rattle.wd_value.specs.Rows.{Instance, Row, table_at}
use Rattle.wd_value.specs.declared.value.ColumnType.{ColumnType}
use Rattle.wd_value.specs.declared.value.ColumnType.TheVariants as type
use Rattle.wd_value.specs.declared.value.Value.{Value}
use Rattle.wd_value.specs.declared.value.Value.TheVariants.{Null, Int, Text, Bool as Truth}
use Rattle.wd_schema.specs.Meets.{Meets, MeetsTable, fits_columns, is_met, is_null, is_of_type, may_hold}
use Rattle.wd_schema.specs.Tables.{TableRule}
use Rattle.wd_schema.specs.declared.table.Column.{Column}
use Rattle.wd_schema.proofs.MeetsFacts.{all_from_test, met_from_test, test_from_all, test_from_met}
use Rattle.wd_facts.specs.Given.{table_rule}
use Rattle.wd_witness_text.specs.Witnesses.{Fits64}
use Rattle.wd_seek.specs.Sought.{is_meeting}

pub first_true : (a b : Bool) → (a && b) ≡ true → a ≡ true
first_true true b h = refl
first_true false b h = h

pub second_true : (a b : Bool) → (a && b) ≡ true → b ≡ true
second_true true b h = h
second_true false b h = absurd (true≢false (sym h))

-- ---- the test

position_at : (n i d : ℕ) → i < n → get_or (positions n) i d ≡ i
position_at n i d within = get_or-range_with_len 0 n i d within ∙ omega arith

pub rule_of : (tables : List TableRule) (t : ℕ) (table : TableRule) → slice_get tables t ≡ Some table → table_rule tables t ≡ table
rule_of tables t table e = rw e refl

module _ (tables : List TableRule) (instance : Instance) where
  abbrev met_at : ℕ → Bool
  met_at t = is_met (table_rule tables t) (table_at instance t)

  pub meets_from_test : is_meeting tables instance ≡ true → Meets tables instance
  meets_from_test h = record {
    lists = eqb-true (length instance) (length tables) (first_true (nat_eq (length instance) (length tables)) (list_all met_at (positions (length tables))) h);
    tables = λ t table found.
        let within = slice_get_within tables t table found in
        let all = all_from_test met_at (positions (length tables)) (second_true (nat_eq (length instance) (length tables)) (list_all met_at (positions (length tables))) h) in
        let here : met_at t ≡ true = subst (λ n. met_at n ≡ true) (position_at (length tables) t 0 within) (all t 0 (subst (λ n. t < n) (sym (length-range_with_len 0 (length tables))) within)) in
        met_from_test table (table_at instance t) (subst (λ r. is_met r (table_at instance t) ≡ true) (rule_of tables t table found) here);
  }

  pub table_met : Meets tables instance → (t : ℕ) → t < length tables → MeetsTable (table_rule tables t) (table_at instance t)
  table_met meets t within =
      let d = table_rule tables t in
      let found = slice_get-get_or tables t d within in
      subst (λ r. MeetsTable r (table_at instance t)) (sym (rule_of tables t _ found)) (meets.tables t _ found)

  pub test_from_meets : Meets tables instance → is_meeting tables instance ≡ true
  test_from_meets meets = both_true (eq-eqb (length instance) (length tables) meets.lists) (test_from_all met_at (positions (length tables)) (λ k d within.
      let below : k < length tables = subst (λ n. k < n) (length-range_with_len 0 (length tables)) within in
      subst (λ n. met_at n ≡ true) (sym (position_at (length tables) k d below)) (test_from_met (table_rule tables k) (table_at instance k) (table_met meets k below))))

-- ---- values

within_64 : (n : ℤ) (m : ℕ) → m < 2 ^ 63 → (int_le (negsuc m) n && int_le n (pos m)) ≡ true → FitsSigned w64 n
within_64 (pos n) m small h = record { sfits = let le = leb-true n m h in omega (arith, small, le) }
within_64 (negsuc n) m small h = record { sfits = let le = leb-true n m (first_true (int_le (negsuc m) (negsuc n)) true h) in omega (arith, small, le) }

typed_fits : (kind : ColumnType) (v : Value) → is_of_type kind v ≡ true → Fits64 v
typed_fits kind Null h = tt
typed_fits type.SmallInt (Int n) h = within_64 n (2 ^ 15 - 1) (omega arith) h
typed_fits type.Integer (Int n) h = within_64 n (2 ^ 31 - 1) (omega arith) h
typed_fits type.BigInt (Int n) h = within_64 n (2 ^ 63 - 1) (omega arith) h
typed_fits type.Text (Int n) h = absurd (true≢false (sym h))
typed_fits type.Boolean (Int n) h = absurd (true≢false (sym h))
typed_fits kind (Text bytes) h = tt
typed_fits kind (Truth b) h = tt

pub row_fits : (columns : List Column) (row : Row) → fits_columns columns row ≡ true → All Fits64 row
row_fits [] [] h = All-nil Fits64
row_fits [] (v ∷ values) h = absurd (true≢false (sym h))
row_fits (column ∷ columns) [] h = absurd (true≢false (sym h))
row_fits (column ∷ columns) (v ∷ values) h =
    let here = first_true (may_hold column v) (fits_columns columns values) h in
    All-cons Fits64 v values (typed_fits column.kind v (first_true (is_of_type column.kind v) (not (column.not_null && is_null v)) here)) (row_fits columns values (second_true (may_hold column v) (fits_columns columns values) h))

pub row_length : (columns : List Column) (row : Row) → fits_columns columns row ≡ true → length row ≡ length columns
row_length [] [] h = refl
row_length [] (v ∷ values) h = absurd (true≢false (sym h))
row_length (column ∷ columns) [] h = absurd (true≢false (sym h))
row_length (column ∷ columns) (v ∷ values) h = let rest = row_length columns values (second_true (may_hold column v) (fits_columns columns values) h) in omega (arith, rest)
