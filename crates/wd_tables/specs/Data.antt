-- The rows of a table that a CSV text holds.
use Rattle.std.specs.Prelude.{◌≡◌, ℕ, ◌<◌, ◌≤◌, List, [], drop, map, length, Option, Some, All, slice_index_or}
use Rattle.std.specs.List.{position_or_len}
use Rattle.std.specs.Str.{bytes_eq}
use Rattle.csv.specs.Reading.{records, default_config, strip_bom}
use Rattle.csv.specs.Records.{AllText}
use Rattle.wd_value.specs.declared.value.Value.{Value}
use Rattle.wd_value.specs.Bags.{times}
use Rattle.wd_value.specs.Rows.{Row}
use Rattle.wd_schema.specs.declared.table.Column.{Column}
use Rattle.wd_schema.specs.Tables.{TableRule}
use Rattle.wd_tables.specs.Fields.{field_value}

-- the records that `csv` defines for the bytes with its default settings, without a leading byte order mark
abbrev pub records_of : List ℕ → List (List (List ℕ))
records_of text = records default_config (strip_bom text)

-- the record with a number: the header is 0 and the first after it 1
abbrev pub record_at : List ℕ → ℕ → List (List ℕ)
record_at text n = slice_index_or (records_of text) n []

abbrev pub header_of : List ℕ → List (List ℕ)
header_of text = record_at text 0

-- the records after the header
abbrev pub data_of : List ℕ → List (List (List ℕ))
data_of text = drop 1 (records_of text)

-- the most records that may follow the header
abbrev pub most_records : ℕ
most_records = 1000000

-- each column's name appears once in the header, and nothing else is there
pub record NamesEachOnce (columns : List Column) (header : List (List ℕ)) : Type 0 where
  pub each : All (λ column. times bytes_eq column.name header ≡ 1) columns
  pub others : length header ≡ length columns

-- the place of a name in the header, and the header's length where it isn't there
abbrev pub field_place : List (List ℕ) → List ℕ → ℕ
field_place header name = position_or_len (bytes_eq name) header

-- the field of a record under a name of the header, and the empty one where there is none
abbrev pub field_under : List (List ℕ) → List (List ℕ) → List ℕ → List ℕ
field_under header fields name = slice_index_or fields (field_place header name) []

-- the value of a record in a column, if the field under the column's name has one
abbrev pub value_in : List (List ℕ) → List (List ℕ) → Column → Option Value
value_in header fields column = field_value column (field_under header fields column.name)

-- the value of a record in each column
abbrev pub values_in : List Column → List (List ℕ) → List (List ℕ) → List (Option Value)
values_in columns header fields = map (value_in header fields) columns

-- the text is a header that names the table's columns, followed by records of these rows
pub record HoldsRows (table : TableRule) (text : List ℕ) (rows : List Row) : Type 0 where
  pub headed : 0 < length (records_of text)
  pub names : NamesEachOnce table.columns (header_of text)
  pub lengths : All (λ fields. length fields ≡ length (header_of text)) (records_of text)
  pub encoded : All AllText (records_of text)
  pub few : length (data_of text) ≤ most_records
  pub values : map (values_in table.columns (header_of text)) (data_of text) ≡ map (map Some) rows
