-- A flexible writer writes each record as the default writer does.
use Rattle.std.proofs.Common.{◌≡◌, ℕ, true, List, [], ◌∷◌, ◌++◌, Option, Some, None, map, refl, sym, append_assoc}
use Rattle.std.specs.List.{flat_map}
use Rattle.std.proofs.lemmas.List.{append-nil, map-append}
use Rattle.std.proofs.lemmas.List.Concat.{flat_map-append}
use Rattle.wd_value.specs.Rows.{Row}
use Rattle.wd_tables.specs.Answers.{answer_text, value_text}
use Rattle.std.specs.Io.KnownBytes.{Appends}
use Rattle.csv.specs.declared.writer.WriterBuilder.{WriterBuilder}
use Rattle.csv.specs.Writing.{default_writer, escaped, field_text, fields_text, is_blank, row_body, row_text, with_flexible}

abbrev pub flexible_writer : WriterBuilder
flexible_writer = with_flexible default_writer true

escaped-flexible : (field : List ℕ) → escaped flexible_writer field ≡ escaped default_writer field
unfolding escaped
escaped-flexible [] = refl
escaped-flexible (b ∷ rest) = rw (escaped-flexible rest) refl

field_text-flexible : (field : List ℕ) → field_text flexible_writer field ≡ field_text default_writer field
field_text-flexible field = rw (escaped-flexible field) refl

fields_text-flexible : (fields : List (List ℕ)) → fields_text flexible_writer fields ≡ fields_text default_writer fields
unfolding fields_text
fields_text-flexible [] = refl
fields_text-flexible (field ∷ rest) = rw (field_text-flexible field, fields_text-flexible rest) refl

is_blank-flexible : (fields : List (List ℕ)) → is_blank flexible_writer fields ≡ is_blank default_writer fields
unfolding is_blank
is_blank-flexible [] = refl
is_blank-flexible (field ∷ []) = rw (field_text-flexible field) refl
is_blank-flexible (field ∷ next ∷ rest) = refl

row_body-flexible : (fields : List (List ℕ)) → row_body flexible_writer fields ≡ row_body default_writer fields
row_body-flexible [] = refl
row_body-flexible (field ∷ rest) = rw (field_text-flexible field, fields_text-flexible rest) refl

pub row_text-flexible : (fields : List (List ℕ)) → row_text flexible_writer fields ≡ row_text default_writer fields
row_text-flexible fields = rw (row_body-flexible fields, is_blank-flexible fields) refl

-- what a write that appends to known bytes leaves
pub appended : (old new : Option (List ℕ)) (text more : List ℕ) → old ≡ Some text → Appends old new more → new ≡ Some (text ++ more)
appended None new text more e h = absurd (cc e)
appended (Some xs) None text more e h = absurd h
appended (Some xs) (Some ys) text more e h = cc

-- the text of an answer with one more row
pub answer_text-push : (names : List (List ℕ)) (rows : List Row) (row : Row) → answer_text names (rows ++ row ∷ []) ≡ answer_text names rows ++ row_text default_writer (map value_text row)
answer_text-push names rows row =
    rw (map-append (map value_text) rows (row ∷ []), flat_map-append (row_text default_writer) (map (map value_text) rows) (map value_text row ∷ []), append-nil (row_text default_writer (map value_text row)))
    (sym (append_assoc (row_text default_writer names) (flat_map (row_text default_writer) (map (map value_text) rows)) (row_text default_writer (map value_text row))))
