-- The members of tables, beside the entries of maps.
use Rattle.std.proofs.Common.{◌≡◌, ℕ, Bool, true, false, cond, Option, Some, None, List, [], ◌∷◌, ◌++◌, map, String, Vec, Global, Less, Greater, string_bytes, string_cmp, nat_cmp, refl, ap, ◌∙◌}
use Rattle.std.proofs.lemmas.Cmp.{nat_list_cmp_total}
use Rattle.std.proofs.lemmas.Map.Text.{is_eq-slice_cmp}
use Rattle.std.specs.Cmp.Lexicographic.{slice_cmp}
use Rattle.std.specs.List.{AllByRecursion}
use Rattle.std.specs.List.Sorted.{IsStrictlySortedBy}
use Rattle.std.specs.Map.{keys_of, lookup}
use Rattle.std.specs.Ordering.{is_eq, ordering_reverse}
use Rattle.std.specs.Str.{bytes_eq}
use Rattle.serde_json.specs.Data.{Members, member, put}
use Rattle.wd_schema.specs.Tables.{TableRule, table_of}
use Rattle.wd_schema.specs.declared.table.Table.{Table}
use Rattle.wd_value.specs.Rows.{Row, rows_of}
use Rattle.wd_value.specs.declared.value.Value.{Value}
use Rattle.wd_witness_text.specs.Json.{rows_json, table_members}
use Rattle.wd_witness_text.specs.Witnesses.{TableRows, rows_in, rows_named, table_rows}

abbrev pub Entry : Type 0
Entry = String Global × Vec (Vec Value Global) Global

abbrev members_of_entries : List Entry → Members
members_of_entries es = table_members (map table_rows es)

below_middle : (first : Entry) (es : List Entry) (e : Entry) (more : List Entry) → AllByRecursion (λ y. string_cmp first.0 y ≡ Less) (keys_of (es ++ e ∷ more)) → string_cmp first.0 e.0 ≡ Less
below_middle first [] e more h = h.0
below_middle first (x ∷ es) e more h = below_middle first es e more h.1

-- a table whose name is above those before it goes last
pub put_last_table : (done : List Entry) (e : Entry) (more : List Entry) → IsStrictlySortedBy string_cmp (keys_of (done ++ e ∷ more))
    → put (string_bytes e.0) (rows_json (rows_of e.1.items)) (members_of_entries done) ≡ members_of_entries (done ++ e ∷ [])
unfolding IsStrictlySortedBy
put_last_table [] e more h = refl
put_last_table (first ∷ done) e more h =
    let above : slice_cmp nat_cmp (string_bytes e.0) (string_bytes first.0) ≡ Greater =
    nat_list_cmp_total.antisymm (string_bytes e.0) (string_bytes first.0) ∙ ap ordering_reverse (below_middle first done e more h.0) in
    rw above (ap (member (string_bytes first.0) (rows_json (rows_of first.1.items))) (put_last_table done e more h.1))

-- ---- the rows under a name

abbrev pub rows_at_key : Option (Vec (Vec Value Global) Global) → List Row
rows_at_key None = []
rows_at_key (Some v) = rows_of v.items

at_key : (b : Bool) (v : Vec (Vec Value Global) Global) (o : Option (Vec (Vec Value Global) Global)) (t : TableRows) (q : Option TableRows)
    → rows_of v.items ≡ t.rows → rows_at_key o ≡ rows_in q → rows_at_key (cond b (Some v) o) ≡ rows_in (cond b (Some t) q)
at_key true v o t q here later = here
at_key false v o t q here later = later

-- they are those of the entry that is found by the name
pub found_rows : (es : List Entry) (name : List ℕ) → rows_at_key (lookup (λ k. is_eq (slice_cmp nat_cmp name (string_bytes k))) es) ≡ rows_named name (map table_rows es)
found_rows [] name = refl
found_rows (e ∷ es) name =
    rw (is_eq-slice_cmp name (string_bytes e.0)) (at_key (bytes_eq name (string_bytes e.0)) e.1 _ (table_rows e) _ refl (found_rows es name))

-- the rows under the names of a schema's tables
pub under_names : (ts : List TableRows) (es : List (String Global × Table)) → map (λ table. rows_named table.name ts) (map (λ e. e.1) es) ≡ map (λ (table : TableRule). rows_named table.name ts) (map (λ e. table_of e.1) es)
under_names ts [] = refl
under_names ts (e ∷ es) = ap (λ rest. rows_named e.1.name ts ∷ rest) (under_names ts es)
