-- The rows of a text, record by record, and why a text has none.
use Rattle.std.proofs.Common.{◌≡◌, ◌∙◌, ℕ, zero, suc, ◌+◌, ◌<◌, ◌≤◌, true, List, [], ◌∷◌, ◌++◌, get_or, length, map, Some, None, ext_get_or, refl, sym, ap, arith, inl, inr}
use Rattle.std.specs.Prelude.{All, not, ◌&&◌}
use Rattle.std.proofs.lemmas.Bool.{and_parts, cases_lt, false≢true}
use Rattle.std.proofs.lemmas.List.{get_or-drop, get_or-map, get_or_append_left, get_or_at, get_or_default, length-append, length-drop, length-map}
use Rattle.wd_value.specs.Rows.{Row, row_at}
use Rattle.wd_value.specs.declared.value.Value.{Value}
use Rattle.wd_value.specs.declared.value.Value.TheVariants.{Null}
use Rattle.wd_schema.specs.Meets.{MeetsTable, fits_columns, is_null, is_of_type, may_hold}
use Rattle.wd_schema.specs.Tables.{KeyRule, TableRule}
use Rattle.wd_tables.specs.Causes.{AreAccepted, HasCause, IsLeast, IsWellFormed, RefusesAt, Repeats}
use Rattle.wd_tables.specs.Refusals.{IsRefusedIn, RefusesHeader, RefusesRecord}
use Rattle.wd_tables.specs.Data.{HoldsRows, NamesEachOnce, data_of, header_of, most_records, record_at, records_of, value_in, values_in}
use Rattle.wd_tables.proofs.KeyFacts.{keeps_all}
use Rattle.wd_tables.specs.Reading.{HoldsFirst, HoldsRecord, IsRecord, RefusesRead}
use Rattle.wd_tables.specs.declared.error.DataError.{DataError}
use Rattle.wd_tables.specs.declared.error.DataError.TheVariants.{Header, Value as NoValue, Null as NullValue, Key, Malformed, TooManyRecords, OutOfMemory}
use Rattle.wd_schema.specs.declared.table.Column.{Column}

-- ---- what is refused

well_formed : (text : List ℕ) (n : ℕ) (fields : List (List ℕ)) → IsRecord text n fields → IsWellFormed text n
well_formed text n fields r = (rw r.same r.encoded, rw r.same r.even)

-- a header that is refused
pub header_refused : (table : TableRule) (text : List ℕ) (fields : List (List ℕ)) (e : DataError) → IsRecord text 0 fields → RefusesHeader table.columns fields e → HasCause table text e
header_refused table text fields Header r h = inr (record { number = 0; within = r.within; before = λ m lt. absurd (omega arith); why = (well_formed text 0 fields r, refl, λ names. h (rw (← r.same) names)) })
header_refused table text fields OutOfMemory r h = tt
header_refused table text fields (NoValue n) r h = absurd h
header_refused table text fields (NullValue n) r h = absurd h
header_refused table text fields (Key n) r h = absurd h
header_refused table text fields Malformed r h = absurd h
header_refused table text fields TooManyRecords r h = absurd h

-- a record that is refused for a field
pub record_refused : (table : TableRule) (text : List ℕ) (number : ℕ) (fields : List (List ℕ)) (e : DataError) → 0 < number → number ≤ most_records → AreAccepted table text number → IsRecord text number fields
    → RefusesRecord table.columns (header_of text) fields number e → HasCause table text e
record_refused table text number fields (NoValue n) some few before r h =
    let why : RefusesAt table text number (NoValue n) = (well_formed text number fields r, some, few, rw r.same h) in
    record { number = number; within = r.within; before = before; why = why }
record_refused table text number fields (NullValue n) some few before r h =
    let why : RefusesAt table text number (NullValue n) = (well_formed text number fields r, some, few, rw r.same h) in
    record { number = number; within = r.within; before = before; why = why }
record_refused table text number fields OutOfMemory some few before r h = tt
record_refused table text number fields Header some few before r h = absurd h
record_refused table text number fields (Key n) some few before r h = absurd h
record_refused table text number fields Malformed some few before r h = absurd h
record_refused table text number fields TooManyRecords some few before r h = absurd h

-- a record that can't be read
pub read_refused : (table : TableRule) (text : List ℕ) (n : ℕ) (e : DataError) → AreAccepted table text n → RefusesRead text n e → HasCause table text e
read_refused table text n Malformed before h = record { number = n; within = h.0; before = before; why = h.1 }
read_refused table text n OutOfMemory before h = tt
read_refused table text n Header before h = absurd h
read_refused table text n (NoValue m) before h = absurd h
read_refused table text n (NullValue m) before h = absurd h
read_refused table text n (Key m) before h = absurd h
read_refused table text n TooManyRecords before h = absurd h

-- one more record than may follow the header
pub too_many : (table : TableRule) (text : List ℕ) (fields : List (List ℕ)) → AreAccepted table text (most_records + 1) → IsRecord text (most_records + 1) fields → HasCause table text TooManyRecords
too_many table text fields before r = record { number = most_records + 1; within = r.within; before = before; why = (well_formed text (most_records + 1) fields r, refl) }

-- ---- what is accepted

-- a value that the column may hold
pub fits_field : (header fields : List (List ℕ)) (column : Column) (v : Value) → value_in header fields column ≡ Some v → may_hold column v ≡ true → ¬ (IsRefusedIn header fields column)
fits_field header fields column v is fits (inl none) = cc (sym is ∙ none)
fits_field header fields column v is fits (inr (not_null, null)) = null_held column v (cc (sym is ∙ null)) not_null fits
  where
    null_held : (column : Column) (v : Value) → v ≡ Null → column.not_null ≡ true → may_hold column v ≡ true → ⊥
    null_held column v null not_null fits = false≢true (rw (null, not_null) at (and_parts (is_of_type column.kind v) (not (column.not_null && is_null v)) fits).1)

-- a record whose values fit the columns
pub fits_record : (columns : List Column) (header fields : List (List ℕ)) (row : Row) → values_in columns header fields ≡ map (λ v. Some v) row → fits_columns columns row ≡ true → All (λ column. ¬ (IsRefusedIn header fields column)) columns
fits_record [] header fields row is fits k d lt = absurd (omega arith)
fits_record (c ∷ cs) header fields [] is fits k d lt = absurd (false≢true fits)
fits_record (c ∷ cs) header fields (v ∷ vs) is fits zero d lt = fits_field header fields c v (cc is) (and_parts (may_hold c v) (fits_columns cs vs) fits).0
fits_record (c ∷ cs) header fields (v ∷ vs) is fits (suc k) d lt = fits_record cs header fields vs (cc is) (and_parts (may_hold c v) (fits_columns cs vs) fits).1 k d (omega arith)

-- the header and the first n records under it
pub first_accepted : (table : TableRule) (text : List ℕ) (n : ℕ) (rows : List Row) → HoldsFirst table.columns text n rows → n ≤ most_records → AreAccepted table text (n + 1)
first_accepted table text n rows h few zero lt = (h.records 0 (omega arith), h.names)
first_accepted table text n rows h few (suc k) lt =
    let next : k + 1 ≡ suc k = omega arith in
    let values = rw next at (h.values k (omega arith)) in
    (h.records (suc k) (omega arith), omega arith, fits_record table.columns (header_of text) (record_at text (suc k)) (row_at rows k) values (h.fits k (omega arith)))

-- no record under the header yet
pub holds_none : (columns : List Column) (text : List ℕ) (fields : List (List ℕ)) → IsRecord text 0 fields → NamesEachOnce columns fields → HoldsFirst columns text 0 []
holds_none columns text fields r names = record {
  names = rw r.same names;
  count = refl;
  records = λ k h. (let first : k ≡ 0 = omega arith in rw first (rw r.same r.encoded, refl));
  values = λ k h. absurd (omega arith);
  fits = λ k h. absurd (omega arith);
}

-- a row has a value for each column
pub row_wide : (columns : List Column) (text : List ℕ) (n : ℕ) (row : Row) → HoldsRecord columns text (n + 1) row → length columns ≡ length row
row_wide columns text n row h =
    sym (length-map columns (value_in (header_of text) h.fields)) ∙ ap length h.values ∙ length-map row (λ v. Some v)

-- one more
pub holds_more : (columns : List Column) (text : List ℕ) (n : ℕ) (rows : List Row) (fields : List (List ℕ)) (row : Row) → HoldsFirst columns text n rows → IsRecord text (n + 1) fields → values_in columns (header_of text) fields ≡ map (λ v. Some v) row → fits_columns columns row ≡ true
    → HoldsFirst columns text (n + 1) (rows ++ row ∷ [])
holds_more columns text n rows fields row h r values fits = record {
  names = h.names;
  count = length-append rows (row ∷ []) ∙ rw h.count refl;
  records = λ k l. elim (cases_lt k (n + 1)) [
    | inl before ↦ h.records k (omega arith)
    | inr after ↦ let last : k ≡ n + 1 = omega arith in rw (last, r.same) (r.encoded, r.even)
  ];
  values = λ k l. elim (cases_lt k n) [
    | inl before ↦ rw (get_or_append_left rows (row ∷ []) [] k (omega (arith, h.count))) (h.values k before)
    | inr after ↦ let last : k ≡ n = omega arith in rw (get_or_at rows row [] [] k (h.count ∙ sym last), last, r.same) values
  ];
  fits = λ k l. elim (cases_lt k n) [
    | inl before ↦ rw (get_or_append_left rows (row ∷ []) [] k (omega (arith, h.count))) (h.fits k before)
    | inr after ↦ let last : k ≡ n = omega arith in rw (get_or_at rows row [] [] k (h.count ∙ sym last)) fits
  ];
}

-- all of them
pub holds_all : (table : TableRule) (text : List ℕ) (n : ℕ) (rows : List Row) → HoldsFirst table.columns text n rows → length (records_of text) ≡ n + 1 → n ≤ most_records → HoldsRows table text rows
holds_all table text n rows h all few = record {
  headed = omega arith;
  names = h.names;
  lengths = λ k d lt. rw (get_or_default (records_of text) k d [] lt) (h.records k (omega arith)).1;
  encoded = λ k d lt. rw (get_or_default (records_of text) k d [] lt) (h.records k (omega arith)).0;
  few = rw (length-drop 1 (records_of text)) (omega arith);
  values = ext_get_or [] _ _ (length-map (data_of text) (values_in table.columns (header_of text)) ∙ length-drop 1 (records_of text) ∙ rw (all) (omega (arith, h.count, length-map rows (map (λ (v : Value). Some v)))))
      (λ k lt.
      let in_data : k < length (data_of text) = rw (length-map (data_of text) (values_in table.columns (header_of text))) at lt in
      let below : k < n = omega (arith, length-drop 1 (records_of text)) in
      let next : 1 + k ≡ k + 1 = omega arith in
      let at : get_or (data_of text) k [] ≡ record_at text (k + 1) = get_or-drop 1 (records_of text) k [] ∙ ap (record_at text) next in
      get_or-map (values_in table.columns (header_of text)) (data_of text) k [] [] in_data
      ∙ ap (values_in table.columns (header_of text)) at ∙ h.values k below ∙ sym (get_or-map (map (λ (v : Value). Some v)) rows k [] [] (omega (arith, h.count))));
}

pub fits_all : (columns : List Column) (text : List ℕ) (n : ℕ) (rows : List Row) → HoldsFirst columns text n rows → All (λ row. fits_columns columns row ≡ true) rows
fits_all columns text n rows h k d lt = rw (get_or_default rows k d [] lt) (h.fits k (omega (arith, h.count)))

pub no_records : (rows : List (List (List ℕ))) → length rows ≡ 0 → rows ≡ []
no_records [] e = refl
no_records (row ∷ rows) e = absurd (omega arith)

-- ---- the keys

-- no more rows than records may follow the header
pub holds_count : (table : TableRule) (text : List ℕ) (rows : List Row) → HoldsRows table text rows → length rows ≤ most_records
holds_count table text rows h =
    let a = length-map (data_of text) (values_in table.columns (header_of text)) in
    let b = length-map rows (map (λ (v : Value). Some v)) in
    let same = ap length h.values in
    omega (arith, h.few)

-- the rows fit the columns and none repeats an earlier one in a key
pub meets : (table : TableRule) (rows : List Row) → All (λ row. fits_columns table.columns row ≡ true) rows → IsLeast (Repeats table.keys rows) None → MeetsTable table rows
meets table rows fits none = record { values = fits; keys = keeps_all table.keys rows none }

-- the first that does
pub repeats : (table : TableRule) (text : List ℕ) (rows : List Row) (q : ℕ) → HoldsRows table text rows → All (λ row. fits_columns table.columns row ≡ true) rows → IsLeast (Repeats table.keys rows) (Some q) → HasCause table text (Key (q + 1))
repeats table text rows q held fits first = (rows, held, fits, q, refl, first)

pub repeats_within : (keys : List KeyRule) (rows : List Row) (q : ℕ) → IsLeast (Repeats keys rows) (Some q) → q < length rows
repeats_within keys rows q ((k, key, within, is, repeats), least) = repeats.0
