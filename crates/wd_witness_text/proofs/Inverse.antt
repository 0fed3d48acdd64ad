-- A JSON value spells one witness.
use Rattle.std.proofs.Common.{◌≡◌, ℕ, pos, negsuc, List, [], ◌∷◌, length, All, Any, Some, None, refl, sym, ap, ap₂, subst, ◌∙◌, arith}
use Rattle.wd_json.proofs.Inverse.{One, one_list, one_number, some_same}
use Rattle.wd_json.specs.Json.{number_json, list_json}
use Rattle.wd_schema.specs.Tables.{TableRule}
use Rattle.wd_value.specs.Rows.{Row}
use Rattle.wd_value.specs.declared.value.Value.TheVariants.{Null, Int, Text, Bool as Truth}
use Rattle.wd_witness_text.specs.Json.{value_json, row_json, rows_json, table_members, choice_json, witness_json, Spells}
use Rattle.wd_witness_text.specs.Laws.{SpellsOne, IsReadBack}
use Rattle.wd_witness_text.specs.Refusals.{RefusesTable, SpellsRefused}
use Rattle.wd_witness_text.specs.Witnesses.{TableRows, WitnessRecord, IsTableOf, IsOf}
use Rattle.wd_witness_text.specs.declared.error.WitnessTextError.{WitnessTextError}
use Rattle.wd_witness_text.specs.declared.error.WitnessTextError.TheVariants as error

one_value : One value_json
one_value Null Null e = refl
one_value Null (Int (pos n)) e = absurd (cc)
one_value Null (Int (negsuc n)) e = absurd (cc)
one_value Null (Text s) e = absurd (cc)
one_value Null (Truth b) e = absurd (cc)
one_value (Int (pos m)) Null e = absurd (cc)
one_value (Int (pos m)) (Int (pos n)) e = let h : m ≡ n = cc in ap (λ x. Int (pos x)) h
one_value (Int (pos m)) (Int (negsuc n)) e = absurd (cc)
one_value (Int (pos m)) (Text s) e = absurd (cc)
one_value (Int (pos m)) (Truth b) e = absurd (cc)
one_value (Int (negsuc m)) Null e = absurd (cc)
one_value (Int (negsuc m)) (Int (pos n)) e = absurd (cc)
one_value (Int (negsuc m)) (Int (negsuc n)) e = let h : negsuc m ≡ negsuc n = cc in ap Int h
one_value (Int (negsuc m)) (Text s) e = absurd (cc)
one_value (Int (negsuc m)) (Truth b) e = absurd (cc)
one_value (Text s) Null e = absurd (cc)
one_value (Text s) (Int (pos n)) e = absurd (cc)
one_value (Text s) (Int (negsuc n)) e = absurd (cc)
one_value (Text s) (Text t) e = let h : s ≡ t = cc in ap Text h
one_value (Text s) (Truth b) e = absurd (cc)
one_value (Truth a) Null e = absurd (cc)
one_value (Truth a) (Int (pos n)) e = absurd (cc)
one_value (Truth a) (Int (negsuc n)) e = absurd (cc)
one_value (Truth a) (Text s) e = absurd (cc)
one_value (Truth a) (Truth b) e = let h : a ≡ b = cc in ap Truth h

one_row : One row_json
one_row = one_list value_json one_value

one_rows : One rows_json
one_rows = one_list row_json one_row

abbrev named : List ℕ → List Row → TableRows
named name rows = record { name = name; rows = rows }

one_tables : (ts us : List TableRows) → table_members ts ≡ table_members us → ts ≡ us
one_tables [] [] e = refl
one_tables [] (u ∷ us) e = absurd (cc)
one_tables (t ∷ ts) [] e = absurd (cc)
one_tables (t ∷ ts) (u ∷ us) e =
    let name : t.name ≡ u.name = cc in
    let rows : rows_json t.rows ≡ rows_json u.rows = cc in
    let rest : table_members ts ≡ table_members us = cc in
    ap₂ (λ a b. a ∷ b) (ap₂ named name (one_rows t.rows u.rows rows)) (one_tables ts us rest)

one_choice : One choice_json
one_choice = one_list (λ positions. list_json number_json positions) (one_list number_json one_number)

abbrev made : List TableRows → List (List ℕ) → List (List ℕ) → WitnessRecord
made tables first second = record { tables = tables; first = first; second = second }

one_witness : One witness_json
one_witness v w e =
    let first : choice_json v.first ≡ choice_json w.first = cc in
    let second : choice_json v.second ≡ choice_json w.second = cc in
    let tables : table_members v.tables ≡ table_members w.tables = cc in
    ap (λ x. made x v.first v.second) (one_tables v.tables w.tables tables) ∙ ap (λ x. made w.tables x v.second) (one_choice v.first w.first first) ∙ ap (λ x. made w.tables w.first x) (one_choice v.second w.second second)

pub spells_one : SpellsOne
spells_one bytes v w first second = one_witness v w (some_same _ _ (sym first.1 ∙ second.1))

none_some : (table : TableRule) → None ≡ Some table → ⊥
none_some table e = absurd (cc)

some_table : (a b : TableRule) → Some a ≡ Some b → a ≡ b
some_table a b e = cc

-- a table of the schema is refused for nothing
table_accepted : (schema : List TableRule) (t : TableRows) → IsTableOf schema t → (e : WitnessTextError) → RefusesTable schema e t → ⊥
table_accepted schema t fits error.NotJson r = r
table_accepted schema t fits error.Shape r = r
table_accepted schema t fits error.UnknownTable r = none_some _ (sym r ∙ fits.known)
table_accepted schema t fits error.TooManyRows r = let few = fits.few in omega arith
table_accepted schema t fits error.RowLength r = r.2 (subst (λ table. All (λ row. length row ≡ length table.columns) t.rows) (some_table _ _ (sym fits.known ∙ r.1)) fits.values)
table_accepted schema t fits error.OutOfMemory r = r

all_accepted : (schema : List TableRule) (ts : List TableRows) → All (IsTableOf schema) ts → (e : WitnessTextError) → Any (RefusesTable schema e) ts → ⊥
all_accepted schema ts fits e r = table_accepted schema r.1 (subst (IsTableOf schema) r.3 (fits r.0 r.1 r.2)) e r.4

none_refused : (schema : List TableRule) (bytes : List ℕ) (w : WitnessRecord) → Spells w bytes → IsOf schema w → (e : WitnessTextError) → SpellsRefused schema e bytes → ⊥
none_refused schema bytes w spelled fits e r = all_accepted schema w.tables fits e (subst (λ x. Any (RefusesTable schema e) x.tables) (spells_one bytes r.0 w r.1 spelled) r.2)

pub is_read_back : IsReadBack
is_read_back schema bytes w spelled fits held error.NotJson r = absurd (r (witness_json w) spelled)
is_read_back schema bytes w spelled fits held error.Shape r = absurd (r.2 w held (some_same _ _ (sym r.1.1 ∙ spelled.1)))
is_read_back schema bytes w spelled fits held error.UnknownTable r = absurd (none_refused schema bytes w spelled fits error.UnknownTable r)
is_read_back schema bytes w spelled fits held error.TooManyRows r = absurd (none_refused schema bytes w spelled fits error.TooManyRows r)
is_read_back schema bytes w spelled fits held error.RowLength r = absurd (none_refused schema bytes w spelled fits error.RowLength r)
is_read_back schema bytes w spelled fits held error.OutOfMemory r = refl
