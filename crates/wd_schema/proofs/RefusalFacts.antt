-- Why a table is refused, from the checks of its declaration.
use Rattle.std.proofs.Common.{◌≡◌, ◌≢◌, ◌∙◌, ◌⊎◌, inl, inr, sym, subst, ℕ, get_or, List, Bool, true, Option, Some, None, refl}
use Rattle.std.proofs.lemmas.Bool.{true≢false}
use Rattle.std.proofs.lemmas.List.Folds.{list_any_at}
use Rattle.std.proofs.lemmas.Map.Views.{Contains-from_any}
use Rattle.std.proofs.lemmas.Slice.Eq.{bytes_eq-Decides}
use Rattle.std.specs.List.{list_any, list_all, All, Contains}
use Rattle.std.specs.Option.{IfNone, IfSome, MatchOption, is_none}
use Rattle.std.specs.Str.{bytes_eq}
use Rattle.wd_schema.specs.declared.declare.ElementPlace.{ElementPlace}
use Rattle.wd_schema.specs.declared.declare.PlacedError.{PlacedError}
use Rattle.wd_schema.specs.declared.error.SchemaError.{SchemaError}
use Rattle.wd_schema.specs.declared.error.SchemaError.TheVariants.{Tokens, TableTwice, ColumnTwice, UnknownColumn, SecondPrimaryKey, KeyColumnTwice, TooMany, UnknownType, NullForbidden, Unexpected, OutOfMemory}
use Rattle.wd_schema.specs.Declares.{ColumnsDiffer, HasOnePrimary, IsAllowed, IsSmall, Keeps, KeyColumnsDiffer, KeysNameColumns, NullsAreAllowed, SaidKey, TypesAreKnown}
use Rattle.wd_read_statements.specs.Written.{TableTree}
use Rattle.wd_schema.proofs.MeetsFacts.{all_from_test, test_from_all}

-- without a refusal a fact holds, and with one what it is about is not kept
abbrev pub Judges : TableTree → Type 0 → Option PlacedError → Type 0
Judges table F found = MatchOption found F (λ r. Keeps r.error table → ⊥)

pub judge_at : (table : TableTree) (F : Type 0) (error : SchemaError) (place : Option ElementPlace) (found : Option PlacedError) → (found ≡ None → place ≡ None) → IfSome found (λ r. (place ≢ None) × (r.error ≡ error)) → IfNone place F → IfSome place (λ _. Keeps error table → ⊥) → Judges table F found
judge_at table F error place None none some is isnt = subst (λ p. IfNone p F) (none refl) is
judge_at table F error None (Some r) none some is isnt = absurd (some.0 refl)
judge_at table F error (Some p) (Some r) none some is isnt = λ keeps. isnt (subst (λ e. Keeps e table) some.1 keeps)

pub judge_both : (table : TableTree) (F G : Type 0) (one other found : Option PlacedError) → Judges table F one → Judges table G other → MatchOption found ((one ≡ None) × (other ≡ None)) (λ r. (one ≡ Some r) ⊎ (other ≡ Some r)) → Judges table (F × G) found
judge_both table F G one other None first second is = (subst (Judges table F) is.0 first, subst (Judges table G) is.1 second)
judge_both table F G one other (Some r) first second (inl e) = subst (Judges table F) e first
judge_both table F G one other (Some r) first second (inr e) = subst (Judges table G) e second

pub judged : (table : TableTree) (F : Type 0) (found : Option PlacedError) → (F → IsAllowed table) → Judges table F found → IfNone found (IsAllowed table) × IfSome found (λ r. Keeps r.error table → ⊥)
judged table F None all is = (all is, tt)
judged table F (Some r) all is = (tt, is)

pub all_kept : (table : TableTree) → ColumnsDiffer table → KeysNameColumns table → HasOnePrimary table → KeyColumnsDiffer table → IsSmall table → TypesAreKnown table → NullsAreAllowed table → IsAllowed table
all_kept table a b c d e f g ColumnTwice = a
all_kept table a b c d e f g UnknownColumn = b
all_kept table a b c d e f g SecondPrimaryKey = c
all_kept table a b c d e f g KeyColumnTwice = d
all_kept table a b c d e f g TooMany = e
all_kept table a b c d e f g UnknownType = f
all_kept table a b c d e f g NullForbidden = g
all_kept table a b c d e f g TableTwice = tt
all_kept table a b c d e f g (Tokens error) = tt
all_kept table a b c d e f g (Unexpected place) = tt
all_kept table a b c d e f g OutOfMemory = tt

-- a test that decides a fact
pub by_test : (place : Option ElementPlace) (b : Bool) (F : Type 0) → is_none place ≡ b → (b ≡ true → F) → (F → b ≡ true) → IfNone place F × IfSome place (λ _. F → ⊥)
by_test None b F e from to = (from (sym e), tt)
by_test (Some p) b F e from to = (tt, λ f. true≢false (sym (to f) ∙ sym e))

-- 303

pub known_from_test : (names : List (List ℕ)) (keys : List SaidKey) → list_all (λ key. list_all (λ name. list_any (bytes_eq name) names) key.columns) keys ≡ true → All (λ key. All (Contains names) key.columns) keys
known_from_test names keys h = λ k d lt i e within.
    Contains-from_any (λ a b. (bytes_eq-Decides a b).0) (get_or (get_or keys k d).columns i e) names
    (all_from_test (λ name. list_any (bytes_eq name) names) (get_or keys k d).columns (all_from_test (λ key. list_all (λ name. list_any (bytes_eq name) names) key.columns) keys h k d lt) i e within)

pub is_found : (names : List (List ℕ)) (name : List ℕ) → Contains names name → list_any (bytes_eq name) names ≡ true
is_found names name at = list_any_at (bytes_eq name) names at.0 name at.1 ((bytes_eq-Decides name (get_or names at.0 name)).1 (sym at.2))

pub test_from_known : (names : List (List ℕ)) (keys : List SaidKey) → All (λ key. All (Contains names) key.columns) keys → list_all (λ key. list_all (λ name. list_any (bytes_eq name) names) key.columns) keys ≡ true
test_from_known names keys h =
    test_from_all (λ key. list_all (λ name. list_any (bytes_eq name) names) key.columns) keys
    (λ k d lt. test_from_all (λ name. list_any (bytes_eq name) names) (get_or keys k d).columns (λ i e within. is_found names (get_or (get_or keys k d).columns i e) (h k d lt i e within)))
