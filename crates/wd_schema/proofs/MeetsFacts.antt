-- The tests of `meets` decide what they are for.
use Rattle.std.proofs.Common.{◌≡◌, ◌≢◌, ℕ, suc, ◌<◌, ◌&&◌, Bool, true, false, not, List, [], ◌∷◌, length, get_or, Some, slice_get, refl, ap, arith}
use Rattle.std.proofs.lemmas.Bool.{and_parts, or_parts, false≢true}
use Rattle.std.proofs.lemmas.Option.{slice_get-get_or, slice_get_within}
use Rattle.std.proofs.lemmas.List.{length-map}
use Rattle.std.proofs.lemmas.List.Elements.{All-nil, All-cons, All-head, All-tail}
use Rattle.std.proofs.lemmas.List.Folds.{list_any_none}
use Rattle.std.proofs.lemmas.List.Kept.{AllPairs-cons}
use Rattle.std.specs.List.{list_any, list_all, All}
use Rattle.wd_value.specs.Rows.{Row}
use Rattle.wd_value.specs.declared.value.Value.{Value}
use Rattle.wd_schema.specs.declared.table.Column.{Column}
use Rattle.wd_schema.specs.Tables.{KeyRule, TableRule}
use Rattle.wd_schema.specs.Schemas.{schema_of}
use Rattle.wd_schema.specs.declared.schema.Schema.{Schema}
use Rattle.wd_schema.specs.Meets.{fits_columns, may_hold, violates, is_kept, is_met, KeepsKey, MeetsTable}

by_second : (a b : Bool) → false ≡ b → false ≡ (a && b)
by_second true b e = e
by_second false b e = refl

pub fits_columns-length : (columns : List Column) (row : List Value) → length columns ≢ length row → false ≡ fits_columns columns row
fits_columns-length [] [] ne = absurd (ne refl)
fits_columns-length [] (v ∷ values) ne = refl
fits_columns-length (column ∷ columns) [] ne = refl
fits_columns-length (column ∷ columns) (v ∷ values) ne = by_second (may_hold column v) (fits_columns columns values) (fits_columns-length columns values (λ e. ne (ap suc e)))

pub all_from_test : {X : Type 0} (p : X → Bool) (xs : List X) → list_all p xs ≡ true → All (λ x. p x ≡ true) xs
all_from_test p [] h = All-nil (λ x. p x ≡ true)
all_from_test p (x ∷ xs) h = let parts = and_parts (p x) (list_all p xs) h in All-cons (λ x. p x ≡ true) x xs parts.0 (all_from_test p xs parts.1)

pub test_from_all : {X : Type 0} (p : X → Bool) (xs : List X) → All (λ x. p x ≡ true) xs → list_all p xs ≡ true
test_from_all p [] h = refl
test_from_all p (x ∷ xs) h = rw (All-head (λ x. p x ≡ true) x xs h, test_from_all p xs (All-tail (λ x. p x ≡ true) x xs h)) refl

pub from_not : (b : Bool) → not b ≡ true → b ≡ false
from_not true h = absurd (false≢true h)
from_not false h = refl

pub none_from_test : {X : Type 0} (p : X → Bool) (xs : List X) → list_any p xs ≡ false → All (λ x. p x ≡ false) xs
none_from_test p [] h = All-nil (λ x. p x ≡ false)
none_from_test p (x ∷ xs) h = let parts = or_parts (p x) (list_any p xs) h in All-cons (λ x. p x ≡ false) x xs parts.0 (none_from_test p xs parts.1)

kept_from_test : (key : KeyRule) (rows : List Row) → is_kept rows key ≡ true → KeepsKey rows key
kept_from_test key [] h = λ i j d lt in'. absurd (omega arith)
kept_from_test key (row ∷ rows) h =
    let parts = and_parts (not (list_any (violates key row) rows)) (is_kept rows key) h in
    AllPairs-cons (λ a b. violates key a b ≡ false) row rows (none_from_test (violates key row) rows (from_not (list_any (violates key row) rows) parts.0)) (kept_from_test key rows parts.1)

test_from_kept : (key : KeyRule) (rows : List Row) → KeepsKey rows key → is_kept rows key ≡ true
test_from_kept key [] h = refl
test_from_kept key (row ∷ rows) h =
    let first : All (λ b. violates key row b ≡ false) rows = λ k d lt. h 0 (suc k) d (omega arith) (omega arith) in
    let others : KeepsKey rows key = λ i j d lt in'. h (suc i) (suc j) d (omega arith) (omega arith) in
    rw (list_any_none (violates key row) rows first, test_from_kept key rows others) refl

pub met_from_test : (table : TableRule) (rows : List Row) → is_met table rows ≡ true → MeetsTable table rows
met_from_test table rows h =
    let parts = and_parts (list_all (fits_columns table.columns) rows) (list_all (is_kept rows) table.keys) h in
    record {
      values = all_from_test (fits_columns table.columns) rows parts.0;
      keys = λ k d lt. kept_from_test (get_or table.keys k d) rows (all_from_test (is_kept rows) table.keys parts.1 k d lt);
    }

pub test_from_met : (table : TableRule) (rows : List Row) → MeetsTable table rows → is_met table rows ≡ true
test_from_met table rows h = rw (
  test_from_all (fits_columns table.columns) rows h.values,
  test_from_all (is_kept rows) table.keys (λ k d lt. test_from_kept (get_or table.keys k d) rows (h.keys k d lt)),
) refl

empty_table : TableRule
empty_table = record { name = []; columns = []; keys = [] }

-- the table at a place of a schema
pub table_get : (schema : Schema) (t : ℕ) → t < length schema.tables.entries → (table : TableRule) × (slice_get (schema_of schema) t ≡ Some table)
table_get schema t within = (_, slice_get-get_or (schema_of schema) t empty_table (rw length-map within))

pub some_within : (schema : Schema) (t : ℕ) (table : TableRule) → slice_get (schema_of schema) t ≡ Some table → t < length schema.tables.entries
some_within schema t table e = rw length-map at (slice_get_within (schema_of schema) t table e)
