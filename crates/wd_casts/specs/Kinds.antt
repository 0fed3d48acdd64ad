-- The kinds of the values of expressions, by the types of PostgreSQL.
use Rattle.std.specs.Prelude.{ℕ, ◌||◌, ◌^◌, codes, nat_lt, Bool, true, false, if◌then◌else◌, List, Option, Some, None}
use Rattle.std.specs.Str.{bytes_eq}
use Rattle.wd_dialect_read.specs.declared.kind.ColumnKind.{ColumnKind}
use Rattle.wd_dialect_read.specs.declared.kind.ColumnKind.TheVariants as column
use Rattle.wd_casts.specs.declared.kind.Kind.{Kind}
use Rattle.wd_casts.specs.declared.kind.Kind.TheVariants as k

-- whether each value of the first kind is a value of the second, with the same meaning
abbrev pub is_within : Kind → Kind → Bool
is_within k.Small k.Small = true
is_within k.Small k.Whole = true
is_within k.Small k.Big = true
is_within k.Whole k.Whole = true
is_within k.Whole k.Big = true
is_within k.Big k.Big = true
is_within k.Boolean k.Boolean = true
is_within k.Text k.Text = true
is_within k.Date k.Date = true
is_within k.Timestamp k.Timestamp = true
is_within k.Interval k.Interval = true
is_within _ _ = false

-- whether a whole number that is not negative is a value of the kind
abbrev pub holds : Kind → ℕ → Bool
holds k.Small n = nat_lt n (2 ^ 15)
holds k.Whole n = nat_lt n (2 ^ 31)
holds k.Big n = nat_lt n (2 ^ 63)
holds _ n = false

-- the kind of a column's values
abbrev pub kind_of_column : ColumnKind → Option Kind
kind_of_column column.Small = Some k.Small
kind_of_column column.Whole = Some k.Whole
kind_of_column column.Big = Some k.Big
kind_of_column column.Boolean = Some k.Boolean
kind_of_column column.Text = Some k.Text
kind_of_column column.Date = Some k.Date
kind_of_column column.Timestamp = Some k.Timestamp
kind_of_column _ = None

-- the kind of a type whose name is one word, and that takes any value of the kind
unfoldable pub kind_of_word : List ℕ → Option Kind
kind_of_word word =
    if bytes_eq word (codes "smallint") || bytes_eq word (codes "int2") then Some k.Small
    else (if bytes_eq word (codes "integer") || bytes_eq word (codes "int") || bytes_eq word (codes "int4") then Some k.Whole
    else (if bytes_eq word (codes "bigint") || bytes_eq word (codes "int8") then Some k.Big
    else (if bytes_eq word (codes "boolean") || bytes_eq word (codes "bool") then Some k.Boolean
    else (if bytes_eq word (codes "text") || bytes_eq word (codes "varchar") then Some k.Text
    else (if bytes_eq word (codes "date") then Some k.Date
    else (if bytes_eq word (codes "timestamp") || bytes_eq word (codes "timestamptz") then Some k.Timestamp
    else (if bytes_eq word (codes "interval") then Some k.Interval else None)))))))
