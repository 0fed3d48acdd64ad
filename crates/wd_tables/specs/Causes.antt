-- Why the data of a table is refused.
use Rattle.std.specs.Prelude.{◌≡◌, ◌⊎◌, ◌+◌, ◌<◌, ◌≤◌, ℕ, zero, suc, true, List, [], Option, Some, None, length, All, Any, ⊤}
use Rattle.csv.specs.Records.{AllText}
use Rattle.wd_value.specs.Rows.{Row, row_at}
use Rattle.wd_schema.specs.Tables.{KeyRule, TableRule}
use Rattle.wd_schema.specs.Meets.{fits_columns, violates}
use Rattle.wd_tables.specs.Data.{HoldsRows, NamesEachOnce, header_of, most_records, record_at, records_of}
use Rattle.wd_tables.specs.Refusals.{IsRefusedIn, RefusesRecord}
use Rattle.wd_tables.specs.declared.error.DataError.{DataError}
use Rattle.wd_tables.specs.declared.error.DataError.TheVariants.{Header, Value, Null as NullValue, Key, Malformed, TooManyRecords, OutOfMemory}

-- the record with a number is in UTF-8 and as long as the header
abbrev pub IsWellFormed : List ℕ → ℕ → Type 0
IsWellFormed text n = AllText (record_at text n) × (length (record_at text n) ≡ length (header_of text))

-- the record is accepted: as the header it names each column once; a later record is within the limit, and none of its fields is refused
abbrev pub IsAccepted : TableRule → List ℕ → ℕ → Type 0
IsAccepted table text zero = IsWellFormed text 0 × NamesEachOnce table.columns (header_of text)
IsAccepted table text (suc n) = IsWellFormed text (suc n) × (suc n ≤ most_records) × All (λ column. ¬ (IsRefusedIn (header_of text) (record_at text (suc n)) column)) table.columns

-- all records before the one with this number are accepted
abbrev pub AreAccepted : TableRule → List ℕ → ℕ → Type 0
AreAccepted table text n = (m : ℕ) → m < n → IsAccepted table text m

-- why the record with a number is refused
abbrev pub RefusesAt : TableRule → List ℕ → ℕ → DataError → Type 0
RefusesAt table text n Malformed = ¬ (IsWellFormed text n)
RefusesAt table text n Header = IsWellFormed text n × (n ≡ 0) × ¬ (NamesEachOnce table.columns (header_of text))
RefusesAt table text n TooManyRecords = IsWellFormed text n × (n ≡ most_records + 1)
RefusesAt table text n (Value m) = IsWellFormed text n × (0 < n) × (n ≤ most_records) × RefusesRecord table.columns (header_of text) (record_at text n) n (Value m)
RefusesAt table text n (NullValue m) = IsWellFormed text n × (0 < n) × (n ≤ most_records) × RefusesRecord table.columns (header_of text) (record_at text n) n (NullValue m)
RefusesAt table text n _ = ⊥

-- the first record that is not accepted has this refusal
pub record IsFirstRefused (table : TableRule) (text : List ℕ) (e : DataError) : Type 0 where
  pub number : ℕ
  pub within : number < length (records_of text)
  pub before : AreAccepted table text number
  pub why : RefusesAt table text number e

-- the row at a position repeats an earlier one in a key
abbrev pub RepeatsIn : KeyRule → List Row → ℕ → Type 0
RepeatsIn key rows q = (q < length rows) × (p : ℕ) × (p < q) × (violates key (row_at rows p) (row_at rows q) ≡ true)

-- the row at a position repeats an earlier one in some key
abbrev pub Repeats : List KeyRule → List Row → ℕ → Type 0
Repeats keys rows q = Any (λ key. RepeatsIn key rows q) keys

-- the least number with a property, if there is one
abbrev pub IsLeast : (ℕ → Type 0) → Option ℕ → Type 0
IsLeast P None = (n : ℕ) → ¬ (P n)
IsLeast P (Some n) = P n × ((m : ℕ) → m < n → ¬ (P m))

-- all records are accepted, and this one holds the first row that repeats an earlier one in a key
abbrev pub IsFirstRepeat : TableRule → List ℕ → ℕ → Type 0
IsFirstRepeat table text n = (rows : List Row) × HoldsRows table text rows × All (λ row. fits_columns table.columns row ≡ true) rows × (q : ℕ) × (n ≡ q + 1) × IsLeast (Repeats table.keys rows) (Some q)

-- the cause of an error in a text: records are checked in order, the header first, and the keys after all of them
abbrev pub HasCause : TableRule → List ℕ → DataError → Type 0
HasCause table text Header = (records_of text ≡ []) ⊎ IsFirstRefused table text Header
HasCause table text (Value n) = IsFirstRefused table text (Value n)
HasCause table text (NullValue n) = IsFirstRefused table text (NullValue n)
HasCause table text Malformed = IsFirstRefused table text Malformed
HasCause table text TooManyRecords = IsFirstRefused table text TooManyRecords
HasCause table text (Key n) = IsFirstRepeat table text n
HasCause table text OutOfMemory = ⊤

-- the number of a refusal; none where memory ran out
abbrev pub number_of : DataError → Option ℕ
number_of Header = Some 701
number_of (Value n) = Some 702
number_of (NullValue n) = Some 703
number_of (Key n) = Some 704
number_of Malformed = Some 705
number_of TooManyRecords = Some 706
number_of OutOfMemory = None

-- the record that a refusal of one record is about
abbrev pub place_of : DataError → Option ℕ
place_of (Value n) = Some n
place_of (NullValue n) = Some n
place_of (Key n) = Some n
place_of Header = None
place_of Malformed = None
place_of TooManyRecords = None
place_of OutOfMemory = None
