-- Tables that were read, beside the members of an object.
use Rattle.std.proofs.Common.{◌≡◌, ◌≢◌, List, [], ◌∷◌, ◌++◌, map, Option, Some, None, option_map, String, Vec, Global, Ordering, Less, Equal, Greater, string_bytes, string_cmp, refl, sym, ap, ap₂, ◌∙◌, subst}
use Rattle.std.proofs.lemmas.Cmp.{nat_list_cmp_total}
use Rattle.std.proofs.lemmas.List.Elements.{All-nil, All-cons, All-head, All-tail}
use Rattle.std.specs.BTreeMap.{insert_entry}
use Rattle.std.specs.List.{AllByRecursion}
use Rattle.std.specs.List.Sorted.{IsStrictlySortedBy}
use Rattle.std.specs.Map.{keys_of}
use Rattle.std.specs.Ordering.{match_ordering, ordering_reverse}
use Rattle.serde_json.specs.Data.{Data, object, Members, no_members, member, put}
use Rattle.wd_json_tokens.proofs.Held.{same_members}
use Rattle.wd_value.specs.Rows.{rows_of}
use Rattle.wd_value.specs.declared.value.Value.{Value}
use Rattle.wd_witness_text.specs.Json.{rows_json, table_members, tables_json}
use Rattle.wd_witness_text.specs.Reading.{IsFitting, RowsFit, TablesFit, FoundTable, HoldsTables}
use Rattle.wd_witness_text.specs.Witnesses.{TableRows, table_rows}
use Rattle.wd_witness_text.proofs.Tables.{Entry}

-- ---- what is seen of lists of the code

pub same_map : {A : Type 0} (xs : List A) → map (λ x. x) xs ≡ xs
same_map [] = refl
same_map (x ∷ xs) = ap (λ ys. x ∷ ys) (same_map xs)

pub same_lists : {A : Type 0} (xs : List (Vec A Global)) → map (λ v. map (λ x. x) v.items) xs ≡ map (λ v. v.items) xs
same_lists [] = refl
same_lists (v ∷ xs) = ap₂ (λ a b. a ∷ b) (same_map v.items) (same_lists xs)

pub rows_seen : (o : Option (Vec (Vec Value Global) Global)) (d : Data) → IsFitting rows_json RowsFit (option_map (λ v. map (λ r. map (λ x. x) r.items) v.items) o) d
    → IsFitting rows_json RowsFit (option_map (λ v. rows_of v.items) o) d
rows_seen None d h = h
rows_seen (Some v) d h = subst (λ rows. (d ≡ rows_json rows) × RowsFit rows) (same_lists v.items) h

-- ---- a member more

held_at : (o : Ordering) (a b c : List FoundTable) (x y z : Members) → HoldsTables a x → HoldsTables b y → HoldsTables c z → HoldsTables (match_ordering o a b c) (match_ordering o x y z)
held_at Less a b c x y z f g h = f
held_at Equal a b c x y z f g h = g
held_at Greater a b c x y z f g h = h

pub put_table : (ts : List FoundTable) (k : String Global) (o : Option (Vec (Vec Value Global) Global)) (d : Data) (ms : Members) → IsFitting rows_json RowsFit (option_map (λ v. rows_of v.items) o) d
    → HoldsTables ts ms → HoldsTables (insert_entry string_cmp ts k o) (put (string_bytes k) d ms)
put_table [] k o d no_members is h = (refl, is, tt)
put_table [] k o d (member l c ms) is h = absurd h
put_table (t ∷ ts) k o d no_members is h = absurd h
put_table (t ∷ ts) k o d (member l c ms) is h =
    subst (λ n. HoldsTables (insert_entry string_cmp (t ∷ ts) k o) (put (string_bytes k) d (member n c ms))) (sym h.0)
    (held_at (string_cmp k t.0) _ _ _ _ _ _ (refl, is, (refl, h.1, h.2)) (refl, is, h.2) (refl, h.1, put_table ts k o d ms is h.2))

-- ---- the tables, all or not

-- a table whose rows are of a form
abbrev pub given : Entry → FoundTable
given e = (e.0, Some e.1)

below_middle : (first : Entry) (es : List Entry) (e : FoundTable) (more : List FoundTable) → AllByRecursion (λ y. string_cmp first.0 y ≡ Less) (keys_of (map given es ++ e ∷ more)) → string_cmp first.0 e.0 ≡ Less
below_middle first [] e more h = h.0
below_middle first (x ∷ es) e more h = below_middle first es e more h.1

-- a table whose name is above those before it goes last
pub insert_last : (es : List Entry) (e : Entry) (more : List FoundTable) → IsStrictlySortedBy string_cmp (keys_of (map given es ++ given e ∷ more)) → insert_entry string_cmp es e.0 e.1 ≡ es ++ e ∷ []
unfolding IsStrictlySortedBy
insert_last [] e more h = refl
insert_last (first ∷ es) e more h =
    let above : string_cmp e.0 first.0 ≡ Greater = nat_list_cmp_total.antisymm (string_bytes e.0) (string_bytes first.0) ∙ ap ordering_reverse (below_middle first es (given e) more h.0) in
    rw above (ap (λ rest. first ∷ rest) (insert_last es e more h.1))

pub given_more : (es : List Entry) (e : Entry) (more : List FoundTable) → map given es ++ given e ∷ more ≡ map given (es ++ e ∷ []) ++ more
given_more [] e more = refl
given_more (x ∷ es) e more = ap (λ rest. given x ∷ rest) (given_more es e more)

pub are_tables : (es : List Entry) (ms : Members) → HoldsTables (map given es) ms → (ms ≡ table_members (map table_rows es)) × TablesFit (map table_rows es)
are_tables [] no_members h = (refl, All-nil (λ t. RowsFit t.rows))
are_tables [] (member l d ms) h = absurd h
are_tables (e ∷ es) no_members h = absurd h
are_tables (e ∷ es) (member l d ms) h =
    let rest = are_tables es ms h.2 in
    (ap (λ k. member k d ms) h.0 ∙ ap₂ (member (string_bytes e.0)) h.1.0 rest.0, All-cons (λ t. RowsFit t.rows) (table_rows e) (map table_rows es) h.1.1 rest.1)

no_members_of : (es : List Entry) (k : String Global) (more : List FoundTable) (ms : Members) → HoldsTables (map given es ++ (k, None) ∷ more) ms → (tables : List TableRows) → TablesFit tables → ms ≢ table_members tables
no_members_of [] k more no_members h tables fit e = absurd h
no_members_of [] k more (member l d ms) h [] fit e = absurd (cc)
no_members_of [] k more (member l d ms) h (t ∷ tables) fit e = h.1 t.rows (All-head (λ t. RowsFit t.rows) t tables fit) (let same : d ≡ rows_json t.rows = cc in same)
no_members_of (x ∷ es) k more no_members h tables fit e = absurd h
no_members_of (x ∷ es) k more (member l d ms) h [] fit e = absurd (cc)
no_members_of (x ∷ es) k more (member l d ms) h (t ∷ tables) fit e = no_members_of es k more ms h.2 tables (All-tail (λ t. RowsFit t.rows) t tables fit) (let same : ms ≡ table_members tables = cc in same)

pub are_no_tables : (es : List Entry) (k : String Global) (more : List FoundTable) (ms : Members) → HoldsTables (map given es ++ (k, None) ∷ more) ms → (tables : List TableRows) → TablesFit tables → object ms ≢ tables_json tables
are_no_tables es k more ms h tables fit e = no_members_of es k more ms h tables fit (same_members ms (table_members tables) e)
