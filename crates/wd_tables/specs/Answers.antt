-- The text of an answer.
use Rattle.std.specs.Prelude.{◌≡◌, ℕ, true, false, List, [], ◌∷◌, map, Some, codes}
use Rattle.std.specs.List.{flat_map}
use Rattle.std.specs.Fmt.{signed_decimal}
use Rattle.std.specs.declared.alloc.Global.{Global}
use Rattle.std.specs.declared.vec.Vec.{Vec}
use Rattle.csv.specs.declared.writer.Writer.{Writer}
use Rattle.csv.specs.Writing.{default_writer, fields_written, has_written, row_text, text_written, with_flexible, writer_setup}
use Rattle.wd_value.specs.declared.value.Value.{Value}
use Rattle.wd_value.specs.declared.value.Value.TheVariants.{Null, Int, Text, Bool as Truth}
use Rattle.wd_value.specs.Rows.{Row}

-- the field of a value: empty for NULL and for the empty text
abbrev pub value_text : Value → List ℕ
value_text Null = []
value_text (Int n) = signed_decimal n
value_text (Text bytes) = bytes
value_text (Truth true) = codes "true"
value_text (Truth false) = codes "false"

-- a header of the names and then the rows, as `csv` writes records by default, each ended by a line feed
abbrev pub answer_text : List (List ℕ) → List Row → List ℕ
answer_text names rows = flat_map (row_text default_writer) (names ∷ map (map value_text) rows)

-- a writer with the default settings, except that records may have any lengths, that has written this text and is between records
abbrev pub HasWritten : Writer (Vec ℕ Global) → List ℕ → Type 0
HasWritten writer text = (text_written (λ v. Some v.items) writer ≡ Some text) × (writer_setup writer ≡ with_flexible default_writer true)
    × (fields_written writer ≡ 0) × (has_written writer ≡ false)
