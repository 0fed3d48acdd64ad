-- The tables of a schema, one after the other.
use Rattle.std.proofs.Common.{◌≡◌, ◌≢◌, ◌∙◌, ◌<◌, ℕ, sym, ap, List, [], ◌∷◌, ◌++◌, map, take, length, length-append, get_or, Bool, true, false, Global, String, Some, cond, refl, arith, is_some, ◌||◌}
use Rattle.std.proofs.lemmas.Bool.{true≢false, or_parts}
use Rattle.std.proofs.lemmas.List.{get_or-map, get_or-take, length-map, length-take, map_push}
use Rattle.std.proofs.lemmas.List.Elements.{All-cons, All-head, All-nil, All-push, All-tail}
use Rattle.std.proofs.lemmas.List.Quantifiers.{all_pairs_push}
use Rattle.std.proofs.lemmas.Map.Views.{Contains-from_any}
use Rattle.std.proofs.lemmas.Slice.Eq.{bytes_eq-Decides}
use Rattle.std.specs.List.{list_any, All, Contains}
use Rattle.std.specs.Option.{option_map}
use Rattle.std.specs.Map.{lookup}
use Rattle.std.specs.Str.{bytes_eq}
use Rattle.std.specs.String.{string_bytes, string_eq}
use Rattle.indexmap.specs.IndexMap.{insert_entry}
use Rattle.wd_schema.specs.declared.error.SchemaError.{SchemaError}
use Rattle.wd_schema.specs.declared.error.SchemaError.TheVariants.{Tokens, TableTwice, ColumnTwice, UnknownColumn, SecondPrimaryKey, KeyColumnTwice, TooMany, UnknownType, NullForbidden, Unexpected, OutOfMemory}
use Rattle.wd_schema.specs.Declares.{AllKeep, ColumnsDiffer, HasOnePrimary, IsAllowed, IsSmall, Keeps, KeyColumnsDiffer, KeysNameColumns, NullsAreAllowed, TablesDiffer, TypesAreKnown, table_declared}
use Rattle.wd_schema.specs.Schemas.{table_named}
use Rattle.wd_schema.specs.Tables.{TableRule, table_of}
use Rattle.wd_schema.specs.declared.table.Table.{Table}
use Rattle.wd_read_statements.specs.Written.{TableTree, name_text}
use Rattle.wd_schema.proofs.MeetsFacts.{none_from_test}

abbrev names : List TableTree → List (List ℕ)
names tables = map (λ table. name_text table.name) tables

pub keeps_at : (refusal : SchemaError) (tables : List TableTree) → AllKeep refusal tables → (i : ℕ) (d : TableTree) → i < length tables → Keeps refusal (get_or tables i d)
keeps_at ColumnTwice tables all i d lt = all i d lt
keeps_at UnknownColumn tables all i d lt = all i d lt
keeps_at SecondPrimaryKey tables all i d lt = all i d lt
keeps_at KeyColumnTwice tables all i d lt = all i d lt
keeps_at TooMany tables all i d lt = all.1 i d lt
keeps_at UnknownType tables all i d lt = all i d lt
keeps_at NullForbidden tables all i d lt = all i d lt
keeps_at TableTwice tables all i d lt = tt
keeps_at (Tokens error) tables all i d lt = tt
keeps_at (Unexpected place) tables all i d lt = tt
keeps_at OutOfMemory tables all i d lt = tt

tables_differ_more : (tables : List TableTree) (table : TableTree) → list_any (bytes_eq (name_text table.name)) (names tables) ≡ false → TablesDiffer tables → TablesDiffer (tables ++ table ∷ [])
tables_differ_more tables table none differ =
    let name : List ℕ = name_text table.name in
    all_pairs_push (λ a b. name_text a.name ≢ name_text b.name) tables table differ
    (λ k d lt same. true≢false
    (sym ((bytes_eq-Decides name (name_text (get_or tables k d).name)).1 (sym same))
    ∙ ap (bytes_eq name) (sym (get_or-map (λ t. name_text t.name) tables k d name lt))
    ∙ none_from_test (bytes_eq name) (names tables) none k name (rw length-map lt)))

pub keeps_more : (tables : List TableTree) (table : TableTree) → length tables < 64 → list_any (bytes_eq (name_text table.name)) (names tables) ≡ false → IsAllowed table → (refusal : SchemaError) → AllKeep refusal tables → AllKeep refusal (tables ++ table ∷ [])
keeps_more tables table few none is ColumnTwice all = All-push ColumnsDiffer tables table all (is ColumnTwice)
keeps_more tables table few none is UnknownColumn all = All-push KeysNameColumns tables table all (is UnknownColumn)
keeps_more tables table few none is SecondPrimaryKey all = All-push HasOnePrimary tables table all (is SecondPrimaryKey)
keeps_more tables table few none is KeyColumnTwice all = All-push KeyColumnsDiffer tables table all (is KeyColumnTwice)
keeps_more tables table few none is TooMany all = (omega (arith, length-append tables (table ∷ [])), All-push IsSmall tables table all.1 (is TooMany))
keeps_more tables table few none is UnknownType all = All-push TypesAreKnown tables table all (is UnknownType)
keeps_more tables table few none is NullForbidden all = All-push NullsAreAllowed tables table all (is NullForbidden)
keeps_more tables table few none is TableTwice all = tables_differ_more tables table none all
keeps_more tables table few none is (Tokens error) all = tt
keeps_more tables table few none is (Unexpected place) all = tt
keeps_more tables table few none is OutOfMemory all = tt

pub table_repeats : (tables : List TableTree) (i : ℕ) (table : TableTree) → i < length tables → get_or tables i table ≡ table → list_any (bytes_eq (name_text table.name)) (names (take i tables)) ≡ true → TablesDiffer tables → ⊥
table_repeats tables i table within is some differ =
    let name : List ℕ = name_text table.name in
    let found : Contains (names (take i tables)) name = Contains-from_any (λ a b. (bytes_eq-Decides a b).0) name (names (take i tables)) some in
    let lt : found.0 < length (take i tables) = rw length-map at found.1 in
    let below : found.0 < i = omega (arith, length-take i tables) in
    let at : name_text (get_or tables found.0 table).name ≡ name =
    ap (λ (t : TableTree). name_text t.name) (sym (get_or-take i tables found.0 table below))
    ∙ sym (get_or-map (λ t. name_text t.name) (take i tables) found.0 table name lt) ∙ found.2 in
    differ found.0 i table below within (at ∙ ap (λ (t : TableTree). name_text t.name) (sym is))

-- the entries of a map with these names

module _ {Y X : Type 0} where
  pub found_name : (es : List (String Y × X)) (name : List ℕ) → is_some (lookup (λ k. bytes_eq name (string_bytes k)) es) ≡ list_any (bytes_eq name) (map (λ e. string_bytes e.0) es)
  found_name [] name = refl
  found_name (e ∷ es) name = by (bytes_eq name (string_bytes e.0)) refl (found_name es name)
    where
      by : (b : Bool) → bytes_eq name (string_bytes e.0) ≡ b → is_some (lookup (λ k. bytes_eq name (string_bytes k)) es) ≡ list_any (bytes_eq name) (map (λ e. string_bytes e.0) es) → is_some (lookup (λ k. bytes_eq name (string_bytes k)) (e ∷ es)) ≡ (bytes_eq name (string_bytes e.0) || list_any (bytes_eq name) (map (λ e. string_bytes e.0) es))
      by true h rest = rw h refl
      by false h rest = rw h rest

  pub insert_new : (es : List (String Y × X)) (k : String Y) (v : X) (name : List ℕ) → string_bytes k ≡ name → list_any (bytes_eq name) (map (λ e. string_bytes e.0) es) ≡ false → insert_entry string_eq es k v ≡ es ++ (k, v) ∷ []
  insert_new [] k v name is none = refl
  insert_new (e ∷ es) k v name is none =
      let parts = or_parts (bytes_eq name (string_bytes e.0)) (list_any (bytes_eq name) (map (λ e. string_bytes e.0) es)) none in
      let other : string_eq k e.0 ≡ false = ap (λ n. bytes_eq n (string_bytes e.0)) is ∙ parts.0 in
      rw other (ap (λ r. e ∷ r) (insert_new es k v name is parts.1))

pub map_push_both : {A B C : Type 0} (f : A → C) (g : B → C) (xs : List A) (x : A) (ys : List B) (y : B) → map f xs ≡ map g ys → f x ≡ g y → map f (xs ++ x ∷ []) ≡ map g (ys ++ y ∷ [])
map_push_both f g xs x ys y many one = map_push f xs x ∙ ap (λ zs. zs ++ f x ∷ []) many ∙ ap (λ z. map g ys ++ z ∷ []) one ∙ sym (map_push g ys y)

-- each entry stands under its table's name, where their keys are the names of tables as written, and they are what these declare
pub named_by : (es : List (String Global × Table)) (tables : List TableTree) → map (λ e. string_bytes e.0) es ≡ names tables → map (λ e. table_of e.1) es ≡ map table_declared tables → All (λ e. string_bytes e.0 ≡ e.1.name) es
named_by [] tables keys are = All-nil (λ e. string_bytes e.0 ≡ e.1.name)
named_by (e ∷ es) [] keys are = absurd cc
named_by (e ∷ es) (table ∷ tables) keys are =
    let key : string_bytes e.0 ≡ name_text table.name = cc in
    let others : map (λ e. string_bytes e.0) es ≡ names tables = cc in
    let is : table_of e.1 ≡ table_declared table = cc in
    let more : map (λ e. table_of e.1) es ≡ map table_declared tables = cc in
    All-cons (λ e. string_bytes e.0 ≡ e.1.name) e es (key ∙ sym (ap (λ (t : TableRule). t.name) is)) (named_by es tables others more)

-- a table is found by its name
pub found_by_name : (es : List (String Global × Table)) (name : List ℕ) → All (λ e. string_bytes e.0 ≡ e.1.name) es → option_map table_of (lookup (λ k. bytes_eq name (string_bytes k)) es) ≡ table_named name (map (λ e. table_of e.1) es)
found_by_name [] name named = refl
found_by_name (e ∷ es) name named =
    by (bytes_eq name (string_bytes e.0)) refl (bytes_eq name e.1.name) (ap (bytes_eq name) (All-head (λ e. string_bytes e.0 ≡ e.1.name) e es named)) (found_by_name es name (All-tail (λ e. string_bytes e.0 ≡ e.1.name) e es named))
  where
    by : (b : Bool) → bytes_eq name (string_bytes e.0) ≡ b → (t : Bool) → bytes_eq name (string_bytes e.0) ≡ t → option_map table_of (lookup (λ k. bytes_eq name (string_bytes k)) es) ≡ table_named name (map (λ e. table_of e.1) es)
        → option_map table_of (cond b (Some e.1) (lookup (λ k. bytes_eq name (string_bytes k)) es)) ≡ cond t (Some (table_of e.1)) (table_named name (map (λ e. table_of e.1) es))
    by true h true g rest = refl
    by false h false g rest = rest
    by true h false g rest = absurd (true≢false (sym h ∙ g))
    by false h true g rest = absurd (true≢false (sym g ∙ h))
