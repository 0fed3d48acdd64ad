-- The refusals of witnesses: their numbers and places, and what each means for a text.
use Rattle.std.specs.Prelude.{◌≡◌, ◌≢◌, ℕ, ◌<◌, List, length, All, Any, Option, Some, None, ⊤}
use Rattle.serde_json.specs.Data.{Data}
use Rattle.wd_json.specs.Json.{IsJsonOf}
use Rattle.wd_schema.specs.Schemas.{table_named}
use Rattle.wd_schema.specs.Tables.{TableRule}
use Rattle.wd_witness_text.specs.Witnesses.{TableRows, WitnessRecord, AllFit64}
use Rattle.wd_witness_text.specs.Json.{witness_json, Spells}
use Rattle.wd_witness_text.specs.declared.error.WitnessTextError.{WitnessTextError}
use Rattle.wd_witness_text.specs.declared.error.WitnessTextError.TheVariants.{NotJson, Shape, UnknownTable, TooManyRows, RowLength, OutOfMemory}

-- the number of a refusal; none where memory ran out
abbrev pub number_of : WitnessTextError → Option ℕ
number_of NotJson = Some 601
number_of Shape = Some 601
number_of UnknownTable = Some 601
number_of TooManyRows = Some 601
number_of RowLength = Some 601
number_of OutOfMemory = None

-- 601 has no place
abbrev pub place_of : WitnessTextError → Option ℕ
place_of e = None

-- why a table is refused: the schema has none of its name; it has more than 64 rows; some row does not have a value for each column
abbrev pub RefusesTable : List TableRule → WitnessTextError → TableRows → Type 0
RefusesTable schema UnknownTable t = table_named t.name schema ≡ None
RefusesTable schema TooManyRows t = 64 < length t.rows
RefusesTable schema RowLength t = (table : TableRule) × (table_named t.name schema ≡ Some table) × ¬ All (λ row. length row ≡ length table.columns) t.rows
RefusesTable schema _ t = ⊥

-- the text spells a witness of which a table is refused
abbrev pub SpellsRefused : List TableRule → WitnessTextError → List ℕ → Type 0
SpellsRefused schema e bytes = (w : WitnessRecord) × Spells w bytes × Any (RefusesTable schema e) w.tables

-- why a text is refused: it is not JSON; its JSON is not that of a witness; it spells a witness of which a table is refused
abbrev pub HasCause : List TableRule → WitnessTextError → List ℕ → Type 0
HasCause schema NotJson bytes = (d : Data) → ¬ IsJsonOf d bytes
HasCause schema Shape bytes = (d : Data) × IsJsonOf d bytes × ((w : WitnessRecord) → AllFit64 w → d ≢ witness_json w)
HasCause schema UnknownTable bytes = SpellsRefused schema UnknownTable bytes
HasCause schema TooManyRows bytes = SpellsRefused schema TooManyRows bytes
HasCause schema RowLength bytes = SpellsRefused schema RowLength bytes
HasCause schema OutOfMemory bytes = ⊤
