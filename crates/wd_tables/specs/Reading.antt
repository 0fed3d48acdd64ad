-- The state of a reader of a CSV text.
use Rattle.std.specs.Prelude.{◌≡◌, ℕ, zero, suc, ◌+◌, ◌<◌, ◌≤◌, true, false, List, [], length, map, Option, Some, None, ⊤}
use Rattle.std.specs.Borrow.{Bor}
use Rattle.csv.specs.Reading.{Reached, Ready, default_config, expected_len, is_flexible, reader_config, reader_state, reader_trim, source_of, strip_bom}
use Rattle.csv.specs.Records.{AllText}
use Rattle.csv.specs.declared.parser.State.TheVariants as st
use Rattle.csv.specs.declared.reader.Reader.{Reader}
use Rattle.csv.specs.declared.reader.Trim.TheVariants as trim
use Rattle.csv.specs.declared.error.ErrorKind.{ErrorKind}
use Rattle.csv.specs.declared.error.ErrorKind.TheVariants as kind
use Rattle.wd_tables.specs.declared.error.DataError.{DataError}
use Rattle.wd_tables.specs.declared.error.DataError.TheVariants.{Malformed, OutOfMemory}
use Rattle.wd_tables.specs.Causes.{IsWellFormed}
use Rattle.wd_value.specs.Rows.{Row, row_at}
use Rattle.wd_schema.specs.declared.table.Column.{Column}
use Rattle.wd_schema.specs.Meets.{fits_columns}
use Rattle.wd_tables.specs.Data.{NamesEachOnce, header_of, field_place, record_at, records_of, values_in}

-- after the first record each further record has to have its length
abbrev pub length_after : List ℕ → ℕ → Option ℕ
length_after text zero = None
length_after text (suc n) = Some (length (header_of text))

-- the reader has read the first n records of the text, and continues with the default settings
pub record HasRead (text : List ℕ) (n : ℕ) (reader : Reader (Bor (List ℕ))) : Type 0 where
  pub config : reader_config reader ≡ default_config
  pub trim : reader_trim reader ≡ trim.None
  pub strict : is_flexible reader ≡ false
  pub ready : Ready reader
  pub expected : expected_len reader ≡ length_after text n
  pub before : List (List (List ℕ))
  pub count : length before ≡ n
  pub rest : List ℕ
  pub source : source_of (λ s. Some s.now) reader ≡ Some rest
  pub reached : Reached default_config st.StartRecord (strip_bom text) before (reader_state reader) rest

-- the text has a record with this number, which has these fields in UTF-8, as many as the header
pub record IsRecord (text : List ℕ) (n : ℕ) (fields : List (List ℕ)) : Type 0 where
  pub within : n < length (records_of text)
  pub same : record_at text n ≡ fields
  pub encoded : AllText fields
  pub even : length fields ≡ length (header_of text)

-- the refusal of a failed read of a slice: 705 for its records, or else out of memory, since a slice can't fail
abbrev pub refusal_of : ErrorKind → DataError
refusal_of (kind.UnequalLengths pos expected len) = Malformed
refusal_of (kind.Utf8 pos err) = Malformed
refusal_of (kind.Io e) = OutOfMemory
refusal_of kind.OutOfMemory = OutOfMemory
refusal_of (kind.Serialize text) = OutOfMemory
refusal_of (kind.Deserialize pos err) = OutOfMemory

-- the next record of the text, which has this number, is refused because it is malformed
abbrev pub RefusesRead : List ℕ → ℕ → DataError → Type 0
RefusesRead text n Malformed = (n < length (records_of text)) × ¬ (IsWellFormed text n)
RefusesRead text n OutOfMemory = ⊤
RefusesRead text n _ = ⊥

-- where a number is given, the record with that number is malformed
abbrev pub IsMalformedAt : List ℕ → Option ℕ → Type 0
IsMalformedAt text None = ⊤
IsMalformedAt text (Some n) = RefusesRead text n Malformed

-- the header names each column once, and the first n records under it hold these rows, which fit the columns
pub record HoldsFirst (columns : List Column) (text : List ℕ) (n : ℕ) (rows : List Row) : Type 0 where
  pub names : NamesEachOnce columns (header_of text)
  pub count : length rows ≡ n
  pub records : (k : ℕ) → k ≤ n → AllText (record_at text k) × (length (record_at text k) ≡ length (header_of text))
  pub values : (k : ℕ) → k < n → values_in columns (header_of text) (record_at text (k + 1)) ≡ map (λ v. Some v) (row_at rows k)
  pub fits : (k : ℕ) → k < n → fits_columns columns (row_at rows k) ≡ true

-- the places at which the header of the text has the names of the columns
abbrev pub HasPlaces : List Column → List ℕ → List ℕ → Type 0
HasPlaces columns text places = places ≡ map (λ column. field_place (header_of text) column.name) columns

-- the record with this number holds the row, which fits the columns
pub record HoldsRecord (columns : List Column) (text : List ℕ) (n : ℕ) (row : Row) : Type 0 where
  pub fields : List (List ℕ)
  pub read : IsRecord text n fields
  pub values : values_in columns (header_of text) fields ≡ map (λ v. Some v) row
  pub fits : fits_columns columns row ≡ true

-- a property of each text of which the reader has read n records, where the columns have these places in the header
abbrev pub WhereRead : List Column → ℕ → Reader (Bor (List ℕ)) → List ℕ → (List ℕ → Type 0) → Type 0
WhereRead columns n reader places P = (text : List ℕ) → HasRead text n reader → HasPlaces columns text places → P text

-- a property of each text of which the reader has read the header, which names each column once
abbrev pub WhereHeaded : List Column → Reader (Bor (List ℕ)) → List ℕ → (List ℕ → Type 0) → Type 0
WhereHeaded columns reader places P = WhereRead columns 1 reader places (λ text. HoldsFirst columns text 0 [] → P text)

-- a property of each header in which the columns have these places
abbrev pub WherePlaced : List Column → List ℕ → (List (List ℕ) → Type 0) → Type 0
WherePlaced columns places P = (header : List (List ℕ)) → places ≡ map (λ column. field_place header column.name) columns → P header
