-- The tables that a text declares are well formed.
use Rattle.std.proofs.Common.{◌≡◌, ◌≢◌, ◌∙◌, ◌<◌, ◌+◌, ◌&&◌, ◌||◌, ℕ, suc, sym, ap, ap₂, subst, List, [], ◌∷◌, map, length, get_or, Bool, true, false, not, cond, refl, arith}
use Rattle.std.proofs.lemmas.Bool.{false≢true, true≢false}
use Rattle.std.proofs.lemmas.List.{get_or-map, length-map}
use Rattle.std.proofs.lemmas.List.Elements.{All-map}
use Rattle.std.proofs.lemmas.List.Folds.{fold-map, list_any_at}
use Rattle.std.proofs.lemmas.List.Sums.{prefix_len_stops}
use Rattle.std.proofs.lemmas.Option.{get_or_from_slice_get}
use Rattle.std.proofs.lemmas.Slice.Eq.{bytes_eq-Decides}
use Rattle.std.specs.List.{list_any, position_or_len, All, AllPairs, Contains}
use Rattle.std.specs.Str.{bytes_eq}
use Rattle.wd_schema.specs.declared.error.SchemaError.{SchemaError}
use Rattle.wd_schema.specs.declared.error.SchemaError.TheVariants.{TableTwice, ColumnTwice, UnknownColumn, SecondPrimaryKey, KeyColumnTwice, TooMany}
use Rattle.wd_schema.specs.declared.table.Column.{Column as TableColumn}
use Rattle.wd_schema.specs.Declares.{AllKeep, ColumnsDiffer, HasOnePrimary, IsSmall, KeyColumnsDiffer, KeysNameColumns, SaidKey, column_declared, column_names, column_number, columns_of, is_in_primary, is_primary, key_declared, keys_of, says_not_null, table_declared}
use Rattle.wd_schema.specs.WellFormed.{IsKeyOf, IsNotNull, IsWellFormed, IsWellFormedTable}
use Rattle.wd_read_cursor.specs.declared.name.Name.{Name}
use Rattle.wd_read_statements.specs.Written.{ColumnTree, TableTree, name_text}
use Rattle.wd_schema.proofs.RefusalFacts.{is_found}

-- what holds of the images of each two holds of each two images
pairs_image : {X Y : Type 0} (R : Y → Y → Type 0) (f : X → Y) (xs : List X) → AllPairs (λ a b. R (f a) (f b)) xs → AllPairs R (map f xs)
pairs_image R f [] pairs = λ i j d lt within. absurd (omega arith)
pairs_image R f (x ∷ xs) pairs = λ i j d lt within.
    let long : j < length (x ∷ xs) = rw length-map at within in
    rw (get_or-map f (x ∷ xs) i x d (omega arith), get_or-map f (x ∷ xs) j x d long) (pairs i j x lt long)

pairs_of_image : {X Y : Type 0} (R : Y → Y → Type 0) (f : X → Y) (xs : List X) → AllPairs R (map f xs) → AllPairs (λ a b. R (f a) (f b)) xs
pairs_of_image R f xs pairs = λ i j d lt within.
    rw (← get_or-map f xs i d (f d) (omega arith), ← get_or-map f xs j d (f d) within) (pairs i j (f d) lt (rw length-map within))

-- ---- the number of a name

position_by : (b found : Bool) (n m : ℕ) → (b || found) ≡ true → (found ≡ true → n < m) → cond (not b) (1 + n) 0 < suc m
position_by true found n m e h = omega arith
position_by false found n m e h = omega (arith, h e)

position_within : {X : Type 0} (p : X → Bool) (xs : List X) → list_any p xs ≡ true → position_or_len p xs < length xs
position_within p [] e = absurd (false≢true e)
position_within p (x ∷ xs) e = position_by (p x) (list_any p xs) (position_or_len p xs) (length xs) e (position_within p xs)

from_not : (b : Bool) → not b ≡ false → b ≡ true
from_not true h = refl
from_not false h = absurd (true≢false h)

number_within : (names : List (List ℕ)) (name : List ℕ) → Contains names name → column_number names name < length names
number_within names name at = position_within (bytes_eq name) names (is_found names name at)

number_is : (names : List (List ℕ)) (name : List ℕ) → Contains names name → get_or names (column_number names name) [] ≡ name
number_is names name at =
    sym ((bytes_eq-Decides name (get_or names (column_number names name) [])).0 (from_not _ (prefix_len_stops (λ x. not (bytes_eq name x)) names [] (number_within names name at))))

-- ---- the keys of a table

no_column : ColumnTree
no_column = let none : Name = record { text = []; quoted = false } in record { name = none; kind = none; rules = [] }

module _ (cols : List ColumnTree) (keys : List SaidKey) where
  abbrev names : List (List ℕ)
  names = map (λ column. name_text column.name) cols

  abbrev columns : List TableColumn
  columns = map (column_declared keys) cols

  -- a column whose name stands in the primary key
  primary_column : (name : List ℕ) → Contains names name → is_in_primary keys name ≡ true → IsNotNull columns (column_number names name)
  primary_column name at primary column found =
      let n = column_number names name in
      let within : n < length cols = rw length-map at (number_within names name at) in
      let is : column ≡ column_declared keys (get_or cols n no_column) = sym (get_or_from_slice_get columns n column column found) ∙ get_or-map (column_declared keys) cols n no_column column within in
      let named : name_text (get_or cols n no_column).name ≡ name = sym (get_or-map (λ c. name_text c.name) cols n no_column [] within) ∙ number_is names name at in
      ap (λ (c : TableColumn). c.not_null) is ∙ ap (λ x. list_any (λ r. says_not_null r.rule) (get_or cols n no_column).rules || is_in_primary keys x) named
      ∙ ap (λ b. list_any (λ r. says_not_null r.rule) (get_or cols n no_column).rules || b) primary ∙ or_true (list_any (λ r. says_not_null r.rule) (get_or cols n no_column).rules)
    where
      or_true : (b : Bool) → (b || true) ≡ true
      or_true true = refl
      or_true false = refl

  key_of_table : (k : ℕ) (e : SaidKey) → k < length keys → All (Contains names) (get_or keys k e).columns → AllPairs (λ a b. a ≢ b) (get_or keys k e).columns → IsKeyOf columns (key_declared names (get_or keys k e))
  key_of_table k e lt known differ =
      let key = get_or keys k e in
      let number = column_number names in
      let as_many : length names ≡ length columns = length-map cols (λ column. name_text column.name) ∙ sym (length-map cols (column_declared keys)) in
      record {
        within = All-map (λ n. n < length columns) number key.columns (λ i d within. subst (λ m. number (get_or key.columns i d) < m) as_many (number_within names (get_or key.columns i d) (known i d within)));
        once = pairs_image (λ a b. a ≢ b) number key.columns (λ i j d less within same.
            differ i j d less within (sym (number_is names (get_or key.columns i d) (known i d (omega arith))) ∙ ap (λ n. get_or names n []) same ∙ number_is names (get_or key.columns j d) (known j d within)));
        not_null = λ primary. All-map (IsNotNull columns) number key.columns (λ i d within.
            let name = get_or key.columns i d in
            let among : list_any (bytes_eq name) key.columns ≡ true = list_any_at (bytes_eq name) key.columns i d within ((bytes_eq-Decides name name).1 refl) in
            primary_column name (known i d within)
            (list_any_at (λ key. is_primary key.words && list_any (bytes_eq name) key.columns) keys k e lt (ap₂ (λ a b. a && b) primary among)));
      }

-- ---- tables

well_formed_table : (table : TableTree) → ColumnsDiffer table → KeysNameColumns table → HasOnePrimary table → KeyColumnsDiffer table → IsSmall table → IsWellFormedTable (table_declared table)
well_formed_table table differ known one once small =
    let cols = columns_of table.elements in
    let keys = keys_of table.elements in
    record {
      few_columns = rw length-map small.0;
      few_keys = rw length-map small.1;
      names = pairs_image (λ a b. a.name ≢ b.name) (column_declared keys) cols (pairs_of_image (λ a b. a ≢ b) (λ column. name_text column.name) cols differ);
      keys = All-map (IsKeyOf (map (column_declared keys) cols)) (key_declared (column_names table)) keys (λ k e lt. key_of_table cols keys k e lt (known k e lt) (once k e lt));
      one_primary = rw fold-map one;
    }

pub well_formed : (trees : List TableTree) → ((refusal : SchemaError) → AllKeep refusal trees) → IsWellFormed (map table_declared trees)
well_formed trees kept = record {
  few = rw length-map (kept TooMany).0;
  names = pairs_image (λ a b. a.name ≢ b.name) table_declared trees (kept TableTwice);
  each = All-map IsWellFormedTable table_declared trees
      (λ i e lt. well_formed_table (get_or trees i e) (kept ColumnTwice i e lt) (kept UnknownColumn i e lt) (kept SecondPrimaryKey i e lt) (kept KeyColumnTwice i e lt) ((kept TooMany).1 i e lt));
}
