-- The rows of tables, as one text more is given.
use Rattle.std.proofs.Common.{◌≡◌, ◌≢◌, ◌∙◌, ◌⊎◌, ℕ, ◌+◌, ◌<◌, ◌≤◌, Bool, true, false, List, [], ◌∷◌, ◌++◌, set, get_or, length, nat_eq, Some, take, drop, ◌||◌, zero, suc, refl, sym, ap, subst, arith, inl, inr}
use Rattle.std.specs.Prelude.{All, Any, slice_get}
use Rattle.std.specs.Borrow.{Bor}
use Rattle.std.specs.List.{AllByRecursion, list_any}
use Rattle.std.specs.Str.{bytes_eq}
use Rattle.std.proofs.lemmas.Bool.{cases_lt, eqb-true, eqb-false, false≢true}
use Rattle.std.proofs.lemmas.List.{at_drop_more, get_or_append_left, get_or_at, get_or-set_other, get_or-set_same, length-append, length-set, map-append, map_push, take_more, take-append-drop}
use Rattle.std.proofs.lemmas.List.Elements.{All-from_recursion, All-push}
use Rattle.std.proofs.lemmas.List.Quantifiers.{all_pairs_push}
use Rattle.std.proofs.lemmas.Slice.Eq.{bytes_eq-Decides}
use Rattle.std.proofs.lemmas.Option.{get_or_from_slice_get, slice_get_within}
use Rattle.wd_value.specs.Rows.{Row, Instance, table_at}
use Rattle.wd_schema.specs.Meets.{Meets, MeetsTable}
use Rattle.wd_schema.specs.Tables.{TableRule}
use Rattle.wd_tables.specs.Data.{HoldsRows}
use Rattle.wd_plan.specs.Plans.{PlanTree}
use Rattle.wd_run.specs.Causes.{HasDataCause, IsGivenTwice, IsNoTable, LacksData}
use Rattle.wd_run.specs.Loads.{RefusesData, RefusesName, RefusesPlan, RefusesRows, RefusesText}
use Rattle.wd_run.specs.Runs.{HoldsData, HoldsTable, IsGiven, IsNamed, NamesDiffer, ReadsTable, data_of}
use Rattle.wd_run.specs.declared.error.RunError.{RunError}
use Rattle.wd_run.specs.declared.error.RunError.TheVariants as run

-- ---- names

pub some_same : {X : Type 0} (a b : X) → Some a ≡ Some b → a ≡ b
some_same a b e = cc

-- texts whose bytes differ
pub other_bytes : (a b : List ℕ) → bytes_eq a b ≡ false → a ≢ b
other_bytes a b differs = λ same. absurd (false≢true (sym differs ∙ (bytes_eq-Decides a b).1 same))

-- tables of different numbers have different names
apart : (tables : List TableRule) → NamesDiffer tables → (m n : ℕ) (a b : TableRule) → slice_get tables m ≡ Some a → slice_get tables n ≡ Some b → m ≢ n → a.name ≢ b.name
apart tables differ m n a b at_m at_n other = λ same. by same (cases_lt m n)
  where
    by : a.name ≡ b.name → (m < n) ⊎ (n ≤ m) → ⊥
    by same (inl less) =
        differ m n a less (slice_get_within tables n b at_n)
        (ap (λ (t : TableRule). t.name) (get_or_from_slice_get tables m a a at_m) ∙ same ∙ ap (λ (t : TableRule). t.name) (sym (get_or_from_slice_get tables n b a at_n)))
    by same (inr more) =
        differ n m a (omega (arith, other)) (slice_get_within tables m a at_m)
        (ap (λ (t : TableRule). t.name) (get_or_from_slice_get tables n b a at_n) ∙ sym same ∙ ap (λ (t : TableRule). t.name) (sym (get_or_from_slice_get tables m a a at_m)))

-- ---- names among the data

any_step : (name : List ℕ) (g : List ℕ × List ℕ) (others : List (List ℕ × List ℕ)) → Any (λ h. h.0 ≡ name) others → Any (λ h. h.0 ≡ name) (g ∷ others)
any_step name g others (k, x, within, is, p) = (suc k, x, omega arith, is, p)

any_given_by : (name : List ℕ) (g : Bor (List ℕ) × Bor (List ℕ)) (given : List (Bor (List ℕ) × Bor (List ℕ))) (b : Bool) → bytes_eq g.0.now name ≡ b
    → (b || list_any (λ h. bytes_eq h.0.now name) given) ≡ true → (list_any (λ h. bytes_eq h.0.now name) given ≡ true → Any (λ h. h.0 ≡ name) (data_of given)) → Any (λ h. h.0 ≡ name) (data_of (g ∷ given))
any_given_by name g given true e all more = (0, (g.0.now, g.1.now), omega arith, refl, (bytes_eq-Decides g.0.now name).0 e)
any_given_by name g given false e all more = any_step name (g.0.now, g.1.now) (data_of given) (more all)

-- a name that stands among the data
pub any_given : (name : List ℕ) (given : List (Bor (List ℕ) × Bor (List ℕ))) → list_any (λ g. bytes_eq g.0.now name) given ≡ true → Any (λ g. g.0 ≡ name) (data_of given)
any_given name [] e = absurd (cc e)
any_given name (g ∷ given) e = any_given_by name g given (bytes_eq g.0.now name) refl e (any_given name given)

none_by : (name : List ℕ) (g : Bor (List ℕ) × Bor (List ℕ)) (rest : Bool) (b : Bool) → bytes_eq g.0.now name ≡ b → (b || rest) ≡ false → (g.0.now ≢ name) × (rest ≡ false)
none_by name g rest true e none = absurd (cc none)
none_by name g rest false e none = ((λ same. absurd (false≢true (sym e ∙ (bytes_eq-Decides g.0.now name).1 same))), none)

none_given_each : (name : List ℕ) (given : List (Bor (List ℕ) × Bor (List ℕ))) → list_any (λ g. bytes_eq g.0.now name) given ≡ false → AllByRecursion (λ g. g.0 ≢ name) (data_of given)
none_given_each name [] e = tt
none_given_each name (g ∷ given) e =
    let parts = none_by name g (list_any (λ h. bytes_eq h.0.now name) given) (bytes_eq g.0.now name) refl e in
    (parts.0, none_given_each name given parts.1)

-- one that stands nowhere there
pub none_given : (name : List ℕ) (given : List (Bor (List ℕ) × Bor (List ℕ))) → list_any (λ g. bytes_eq g.0.now name) given ≡ false → All (λ g. g.0 ≢ name) (data_of given)
none_given name given e = All-from_recursion (λ g. g.0 ≢ name) (data_of given) (none_given_each name given e)

pub data_of-more : (given : List (Bor (List ℕ) × Bor (List ℕ))) (i : ℕ) (g : Bor (List ℕ) × Bor (List ℕ)) → i < length given → g ≡ get_or given i g → data_of (take (i + 1) given) ≡ data_of (take i given) ++ (g.0.now, g.1.now) ∷ []
data_of-more given i g within is = ap data_of (take_more given i g within ∙ ap (λ x. take i given ++ x ∷ []) (sym is)) ∙ map_push (λ (h : Bor (List ℕ) × Bor (List ℕ)). (h.0.now, h.1.now)) (take i given) g

-- ---- one text more

no_rows_meet : (table : TableRule) → MeetsTable table []
no_rows_meet table = record { values = λ k d l. absurd (omega arith); keys = λ k d l. (λ i j e less m. absurd (omega arith)) }

-- data whose rows meet each table meet the schema
pub data_meets : (tables : List TableRule) (given : List (List ℕ × List ℕ)) (instance : Instance) → HoldsData tables given instance → Meets tables instance
data_meets tables given instance h = record { lists = h.lists; tables = λ n table found. (h.each n table found).meets }

module _ (tables : List TableRule) (differ : NamesDiffer tables) where
  -- without data there are no rows
  pub HoldsData-none : (instance : Instance) → length instance ≡ length tables → All (λ rows. rows ≡ []) instance → HoldsData tables [] instance
  HoldsData-none instance long none = record {
    lists = long;
    named = λ k d l. absurd (omega arith);
    once = λ i j d less l. absurd (omega arith);
    each = λ n table found. record {
      meets = (let l : n < length instance = (let w = slice_get_within tables n table found in omega arith) in subst (MeetsTable table) (sym (none n [] l)) (no_rows_meet table));
      held = λ k d l. absurd (omega arith);
      empty = λ all. (let l : n < length instance = (let w = slice_get_within tables n table found in omega arith) in none n [] l);
    };
  }

  module _ (given : List (List ℕ × List ℕ)) (instance : Instance) (n : ℕ) (table : TableRule) (g : List ℕ × List ℕ) (rows : List Row)
      (found : slice_get tables n ≡ Some table) (name_is : table.name ≡ g.0) (first : All (λ h. h.0 ≢ g.0) given) (holds : HoldsRows table g.1 rows) (met : MeetsTable table rows) (before : HoldsData tables given instance) where
    this_table : HoldsTable table (given ++ g ∷ []) rows
    this_table = record {
      meets = met;
      held = All-push (λ h. h.0 ≡ table.name → HoldsRows table h.1 rows) given g (λ k d l e. absurd (first k d l (e ∙ name_is))) (λ e. holds);
      empty = λ none. absurd (none (length given) g (omega (arith, length-append given (g ∷ []))) (ap (λ (h : List ℕ × List ℕ). h.0) (get_or_at given g [] g (length given) refl) ∙ sym name_is));
    }

    other_table : (other : TableRule) (others : List Row) → other.name ≢ table.name → HoldsTable other given others → HoldsTable other (given ++ g ∷ []) others
    other_table other others differs h = record {
      meets = h.meets;
      held = All-push (λ h. h.0 ≡ other.name → HoldsRows other h.1 others) given g h.held (λ e. absurd (differs (sym e ∙ sym name_is)));
      empty = λ none. h.empty (λ k d l. subst (λ (h : List ℕ × List ℕ). h.0 ≢ other.name) (get_or_append_left given (g ∷ []) d k l) (none k d (omega (arith, length-append given (g ∷ [])))));
    }

    at_each : (m : ℕ) (other : TableRule) → slice_get tables m ≡ Some other → (b : Bool) → nat_eq m n ≡ b → HoldsTable other (given ++ g ∷ []) (table_at (set instance n rows) m)
    at_each m other there true e =
        let same : m ≡ n = eqb-true m n e in
        let is : table ≡ other = some_same table other (sym found ∙ ap (slice_get tables) (sym same) ∙ there) in
        let l : n < length instance = (let w = slice_get_within tables n table found in let long = before.lists in omega arith) in
        let rows_are : rows ≡ table_at (set instance n rows) m = sym (get_or-set_same instance n rows [] l) ∙ ap (table_at (set instance n rows)) (sym same) in
        subst (λ (t : TableRule). HoldsTable t (given ++ g ∷ []) (table_at (set instance n rows) m)) is (subst (HoldsTable table (given ++ g ∷ [])) rows_are this_table)
    at_each m other there false e =
        let elsewhere : m ≢ n = eqb-false m n e in
        subst (HoldsTable other (given ++ g ∷ [])) (sym (get_or-set_other instance n m rows [] elsewhere)) (other_table other (table_at instance m) (apart tables differ m n other table there found elsewhere) (before.each m other there))

    pub HoldsData-more : HoldsData tables (given ++ g ∷ []) (set instance n rows)
    HoldsData-more = record {
      lists = length-set instance n rows ∙ before.lists;
      named = All-push (λ h. (k : ℕ) × IsNamed tables h.0 k) given g before.named (n, record { table = table; found = found; name_is = name_is });
      once = all_pairs_push (λ a b. a.0 ≢ b.0) given g before.once (λ k d l. first k d l);
      each = λ m other there. at_each m other there (nat_eq m n) refl;
    }

-- ---- causes of refusals

any_more : {X : Type 0} (P : X → Type 0) (xs ys : List X) → Any P xs → Any P (xs ++ ys)
any_more P xs ys (k, x, within, is, p) = (k, x, omega (arith, length-append xs ys), get_or_append_left xs ys x k within ∙ is, p)

any_here : {X : Type 0} (P : X → Type 0) (xs : List X) (y : X) (ys : List X) → P y → Any P (xs ++ y ∷ ys)
any_here P xs y ys p = (length xs, y, omega (arith, length-append xs (y ∷ ys)), get_or_at xs y ys y (length xs) refl, p)

-- the texts that are given before one, that one, and those after it
pub data_parts : (given : List (Bor (List ℕ) × Bor (List ℕ))) (i : ℕ) (g : Bor (List ℕ) × Bor (List ℕ)) → i < length given → g ≡ get_or given i g
    → data_of given ≡ data_of (take i given) ++ (g.0.now, g.1.now) ∷ data_of (drop (i + 1) given)
data_parts given i g within is =
    let rest : drop i given ≡ g ∷ drop (i + 1) given = at_drop_more (λ r. r) given i g within ∙ ap (λ x. x ∷ drop (i + 1) given) (sym is) in
    sym (ap data_of (take-append-drop i given))
    ∙ ap (λ r. data_of (take i given ++ r)) rest
    ∙ map-append (λ (h : Bor (List ℕ) × Bor (List ℕ)). (h.0.now, h.1.now)) (take i given) (g ∷ drop (i + 1) given)

-- what refuses a text refuses the data that it stands in
module _ (tables : List TableRule) (earlier after : List (List ℕ × List ℕ)) (name text : List ℕ) where
  whole : List (List ℕ × List ℕ)
  whole = earlier ++ (name, text) ∷ after

  no_table : ((n : ℕ) → IsNamed tables name n → ⊥) → IsNoTable tables whole name
  unfolding whole
  no_table unnamed = record { there = any_here (λ g. g.0 ≡ name) earlier (name, text) after refl; unnamed = unnamed }

  given_twice : IsGiven earlier name → IsGivenTwice whole name
  unfolding whole
  given_twice there = record { before = earlier; again = text; after = after; parts = refl; earlier = there }

  pub RefusesData-from_text : (e : RunError) → RefusesText tables earlier name text e → RefusesData tables (earlier ++ (name, text) ∷ after) e
  unfolding whole
  RefusesData-from_text (run.Given refused) (same, inl unnamed) = inl (subst (IsNoTable tables whole) (sym same) (no_table unnamed))
  RefusesData-from_text (run.Given refused) (same, inr there) = inr (subst (IsGivenTwice whole) (sym same) (given_twice there))
  RefusesData-from_text (run.Data refused error) (same, found) =
      subst (λ n. HasDataCause tables whole n error) (sym same)
      (record { number = found.0; named = found.1; text = text; there = any_here (λ g. g ≡ (name, text)) earlier (name, text) after refl; cause = found.2 })
  RefusesData-from_text run.OutOfMemory h = tt
  RefusesData-from_text _ h = absurd h

get_or_any : {X : Type 0} (xs : List X) (i : ℕ) (d e : X) → i < length xs → get_or xs i d ≡ get_or xs i e
get_or_any [] i d e within = absurd (omega (arith, within))
get_or_any (x ∷ xs) zero d e within = refl
get_or_any (x ∷ xs) (suc i) d e within = get_or_any xs i d e (omega (arith, within))

-- what refuses the text of a number refuses the data
pub RefusesData-from_number : (tables : List TableRule) (given : List (Bor (List ℕ) × Bor (List ℕ))) (i : ℕ) (d : Bor (List ℕ) × Bor (List ℕ)) (e : RunError) → i < length given
    → RefusesText tables (data_of (take i given)) (get_or given i d).0.now (get_or given i d).1.now e → RefusesData tables (data_of given) e
RefusesData-from_number tables given i d e within refused =
    let g = get_or given i d in
    subst (λ whole. RefusesData tables whole e) (sym (data_parts given i g within (get_or_any given i d g within)))
    (RefusesData-from_text tables (data_of (take i given)) (data_of (drop (i + 1) given)) g.0.now g.1.now e refused)

-- where a name is refused and this holds, the text of the name is refused
pub RefusesText-from_name : (tables : List TableRule) (earlier : List (List ℕ × List ℕ)) (name text : List ℕ) (e : RunError)
    → ((n : ℕ) → IsNamed tables name n → ⊥) ⊎ IsGiven earlier name → RefusesName name (Unit {0}) e → RefusesText tables earlier name text e
RefusesText-from_name tables earlier name text (run.Given refused) why h = (h.0, why)
RefusesText-from_name tables earlier name text run.OutOfMemory why h = tt
RefusesText-from_name tables earlier name text _ why h = absurd h

-- where the rows of the name's table are refused, its text is
pub RefusesText-from_rows : (tables : List TableRule) (earlier : List (List ℕ × List ℕ)) (name text : List ℕ) (n : ℕ) (table : TableRule) (e : RunError)
    → slice_get tables n ≡ Some table → table.name ≡ name → RefusesRows table text e → RefusesText tables earlier name text e
RefusesText-from_rows tables earlier name text n table (run.Data refused error) found same h =
    (h.0 ∙ same, (n, record { table = table; found = found; name_is = same }, h.1))
RefusesText-from_rows tables earlier name text n table run.OutOfMemory found same h = tt
RefusesText-from_rows tables earlier name text n table _ found same h = absurd h

-- where the name of a scanned table without data is refused, the plan is
pub RefusesPlan-from_name : (tables : List TableRule) (given : List (List ℕ × List ℕ)) (plan : PlanTree) (n : ℕ) (table : TableRule) (e : RunError)
    → slice_get tables n ≡ Some table → ReadsTable plan n → All (λ g. g.0 ≢ table.name) given → RefusesName table.name (Unit {0}) e → RefusesPlan tables given plan e
RefusesPlan-from_name tables given plan n table (run.Given refused) found scanned none h =
    subst (LacksData tables given plan) (sym h.0)
    (record { number = n; named = record { table = table; found = found; name_is = refl }; scanned = scanned; none = none })
RefusesPlan-from_name tables given plan n table run.OutOfMemory found scanned none h = tt
RefusesPlan-from_name tables given plan n table _ found scanned none h = absurd h
