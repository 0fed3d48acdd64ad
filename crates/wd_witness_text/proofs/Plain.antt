-- A witness's JSON has no float and nests four deep.
use Rattle.std.proofs.Common.{◌≡◌, ℕ, ◌≤◌, List, [], ◌∷◌, false, pos, negsuc, refl, arith}
use Rattle.serde_json.specs.Data.{depth, members_depth}
use Rattle.serde_json.specs.Read.{max_depth}
use Rattle.serde_json.specs.Written.{has_float, members_have_float}
use Rattle.wd_json.proofs.Plain.{no_float, deep, plain_numbers}
use Rattle.wd_json.specs.Json.{number_json, list_json}
use Rattle.wd_value.specs.Rows.{Row}
use Rattle.wd_value.specs.declared.value.Value.{Value}
use Rattle.wd_value.specs.declared.value.Value.TheVariants.{Null, Int, Text, Bool as Truth}
use Rattle.wd_witness_text.specs.Json.{value_json, row_json, table_members, choice_json, witness_json}
use Rattle.wd_witness_text.specs.Witnesses.{TableRows, WitnessRecord}

plain_value : (v : Value) → has_float (value_json v) ≡ false
plain_value Null = refl
plain_value (Int (pos n)) = refl
plain_value (Int (negsuc n)) = refl
plain_value (Text bytes) = refl
plain_value (Truth b) = refl

plain_row : (row : Row) → has_float (row_json row) ≡ false
plain_row row = no_float value_json plain_value row

plain_tables : (tables : List TableRows) → members_have_float (table_members tables) ≡ false
plain_tables [] = refl
plain_tables (t ∷ tables) = rw (no_float row_json plain_row t.rows, plain_tables tables)

plain_choice : (orderings : List (List ℕ)) → has_float (choice_json orderings) ≡ false
plain_choice orderings = no_float (λ positions. list_json number_json positions) plain_numbers orderings

pub plain_witness : (w : WitnessRecord) → has_float (witness_json w) ≡ false
plain_witness w = rw (plain_choice w.first, plain_choice w.second, plain_tables w.tables)

deep_value : (v : Value) → depth (value_json v) ≤ 0
deep_value Null = omega arith
deep_value (Int n) = omega arith
deep_value (Text bytes) = omega arith
deep_value (Truth b) = omega arith

deep_row : (row : Row) → depth (row_json row) ≤ 1
deep_row row = omega (arith, deep value_json 0 deep_value row)

deep_tables : (tables : List TableRows) → members_depth (table_members tables) ≤ 2
deep_tables [] = omega arith
deep_tables (t ∷ tables) = omega (arith, deep row_json 1 deep_row t.rows, deep_tables tables)

deep_numbers : (positions : List ℕ) → depth (list_json number_json positions) ≤ 1
deep_numbers positions = omega (arith, deep number_json 0 (λ n. omega arith) positions)

deep_choice : (orderings : List (List ℕ)) → depth (choice_json orderings) ≤ 2
deep_choice orderings = omega (arith, deep (λ positions. list_json number_json positions) 1 deep_numbers orderings)

pub deep_witness : (w : WitnessRecord) → depth (witness_json w) ≤ max_depth
deep_witness w = omega (arith, deep_choice w.first, deep_choice w.second, deep_tables w.tables)
