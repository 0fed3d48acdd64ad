-- Plans that fit, and the kinds of their columns, step by step.
use Rattle.std.proofs.Common.{◌≡◌, ◌∙◌, sym, ap, refl, subst, ℕ, zero, suc, ◌+◌, ◌-◌, ◌<◌, ◌≤◌, Bool, true, false, not, ◌||◌, List, [], ◌∷◌, ◌++◌, map, length, nat_lt, add-zero, Option, Some, is_some, slice_get, arith}
use Rattle.std.specs.List.{AllByRecursion, list_all}
use Rattle.std.proofs.lemmas.Bool.{ltb-true, ltb-false, le-leb}
use Rattle.std.proofs.lemmas.List.{length-append}
use Rattle.std.proofs.lemmas.Option.{slice_get-map}
use Rattle.wd_plan.specs.declared.expression.ValueKind.{ValueKind}
use Rattle.wd_plan.specs.declared.expression.ValueKind.TheVariants.{Truth}
use Rattle.wd_value.specs.declared.order.SortColumn.{SortColumn}
use Rattle.wd_plan.specs.Expressions.{Expression}
use Rattle.wd_plan.specs.Fits.{Kinds, fits, has_keys, is_typed, kinds_of, may_join, width}
use Rattle.wd_plan.specs.Plans.{LimitRule, PlanTree, Join, Over, Filter, Map, Distinct, Limit}
use Rattle.wd_schema.specs.Tables.{TableRule}
use Rattle.wd_resolve_scope.specs.declared.scope.ScopeColumn.{ScopeColumn}
use Rattle.wd_resolve_scope.specs.Scopes.{ScopeRule}
use Rattle.wd_resolve_scope.specs.Typed.{IsOfKind, kinds_in}
use Rattle.wd_resolve_scope.proofs.Typing.{and_both, column_is, kept}
use Rattle.wd_resolve_list.specs.declared.output.OutputColumn.{OutputColumn}
use Rattle.wd_resolve_select.specs.Steps.{columns_from}

-- a plan that fits, and gives columns of these kinds, at most 1,024
pub record HasKinds (tables : List TableRule) (plan : PlanTree) (kinds : List ValueKind) : Type 0 where
  pub fits_is : fits tables plan ≡ true
  pub wide : width plan ≡ length kinds
  pub narrow : length kinds ≤ 1024
  pub each : (c : ℕ) → kinds_of tables plan c ≡ slice_get kinds c

abbrev pub scope_kinds : ScopeRule → List ValueKind
scope_kinds scope = map (λ (column : ScopeColumn). column.kind) scope.columns

abbrev pub output_kinds : List OutputColumn → List ValueKind
output_kinds columns = map (λ (column : OutputColumn). column.kind) columns

-- ---- expressions over a plan

-- the kinds of the columns in scope are those that definitions read
pub scope_is : (scope : ScopeRule) (c : ℕ) → kinds_in scope c ≡ slice_get (scope_kinds scope) c
scope_is scope c = sym (slice_get-map (λ (column : ScopeColumn). column.kind) scope.columns c)

-- an expression over a plan's columns is typed there
pub over_plan : (tables : List TableRule) (plan : PlanTree) (scope : ScopeRule) (e : Expression) (kind : ValueKind) → HasKinds tables plan (scope_kinds scope) → IsOfKind (kinds_in scope) e kind → IsOfKind (kinds_of tables plan) e kind
over_plan tables plan scope e kind h is = kept (kinds_in scope) (kinds_of tables plan) (λ c k g. h.each c ∙ sym (scope_is scope c) ∙ g) is

-- expressions, one of each kind
abbrev pub AreOfKinds : Kinds → List Expression → List ValueKind → Type 0
AreOfKinds kinds [] [] = Unit {0}
AreOfKinds kinds (e ∷ es) (k ∷ ks) = IsOfKind kinds e k × AreOfKinds kinds es ks
AreOfKinds kinds [] (k ∷ ks) = ⊥
AreOfKinds kinds (e ∷ es) [] = ⊥

pub as_many : (kinds : Kinds) (es : List Expression) (ks : List ValueKind) → AreOfKinds kinds es ks → length es ≡ length ks
as_many kinds [] [] h = refl
as_many kinds (e ∷ es) (k ∷ ks) h = ap suc (as_many kinds es ks h.1)
as_many kinds [] (k ∷ ks) h = absurd h
as_many kinds (e ∷ es) [] h = absurd h

all_typed : (kinds : Kinds) (es : List Expression) (ks : List ValueKind) → AreOfKinds kinds es ks → list_all (is_typed kinds) es ≡ true
all_typed kinds [] [] h = refl
all_typed kinds (e ∷ es) (k ∷ ks) h = and_both _ _ h.0.is (all_typed kinds es ks h.1)
all_typed kinds [] (k ∷ ks) h = absurd h
all_typed kinds (e ∷ es) [] h = absurd h

pub are_append : (kinds : Kinds) (es fs : List Expression) (ks ls : List ValueKind) → AreOfKinds kinds es ks → AreOfKinds kinds fs ls → AreOfKinds kinds (es ++ fs) (ks ++ ls)
are_append kinds [] fs [] ls h g = g
are_append kinds (e ∷ es) fs (k ∷ ks) ls h g = (h.0, are_append kinds es fs ks ls h.1 g)
are_append kinds [] fs (k ∷ ks) ls h g = absurd h
are_append kinds (e ∷ es) fs [] ls h g = absurd h

-- ---- joins and filters

pub get_left : {A : Type 0} (xs ys : List A) (c : ℕ) → c < length xs → slice_get (xs ++ ys) c ≡ slice_get xs c
get_left [] ys c h = absurd (omega arith)
get_left (x ∷ xs) ys zero h = refl
get_left (x ∷ xs) ys (suc c) h = get_left xs ys c (omega arith)

get_right : {A : Type 0} (xs ys : List A) (c : ℕ) → length xs ≤ c → slice_get (xs ++ ys) c ≡ slice_get ys (c - length xs)
get_right [] ys c h = ap (slice_get ys) (let same : c ≡ c - 0 = omega arith in same)
get_right (x ∷ xs) ys zero h = absurd (omega arith)
get_right (x ∷ xs) ys (suc c) h = get_right xs ys c (omega arith) ∙ ap (slice_get ys) (let same : c - length xs ≡ suc c - suc (length xs) = omega arith in same)

-- a join of plans gives the columns of both
join_kinds : (tables : List TableRule) (condition : Option Expression) (left right : PlanTree) (ls rs : List ValueKind) → HasKinds tables left ls → HasKinds tables right rs
    → (c : ℕ) → kinds_of tables (Join condition left right) c ≡ slice_get (ls ++ rs) c
join_kinds tables condition left right ls rs l r c = by (nat_lt c (width left)) refl
  where
    by : (b : Bool) → nat_lt c (width left) ≡ b → kinds_of tables (Join condition left right) c ≡ slice_get (ls ++ rs) c
    by true e = rw e (l.each c ∙ sym (get_left ls rs c (let w = l.wide in let h = ltb-true c (width left) e in omega arith)))
    by false e =
        let w = l.wide in
        let h = ltb-false c (width left) e in
        let same : c - width left ≡ c - length ls = omega arith in
        rw e (r.each (c - width left) ∙ ap (slice_get rs) same ∙ sym (get_right ls rs c (omega arith)))

pub join_is : (tables : List TableRule) (condition : Option Expression) (left right : PlanTree) (ls rs : List ValueKind) → HasKinds tables left ls → HasKinds tables right rs → length ls + length rs ≤ 1024
    → may_join (kinds_of tables (Join condition left right)) condition ≡ true → HasKinds tables (Join condition left right) (ls ++ rs)
join_is tables condition left right ls rs l r few may =
    let lw = l.wide in
    let rw' = r.wide in
    record {
      fits_is = and_both _ _ (and_both _ _ l.fits_is r.fits_is) (and_both _ _ (le-leb (width left + width right) 1024 (omega arith)) may);
      wide = let long = length-append ls rs in omega arith;
      narrow = let long = length-append ls rs in omega arith;
      each = join_kinds tables condition left right ls rs l r;
    }

pub filter_is : (tables : List TableRule) (e : Expression) (plan : PlanTree) (ks : List ValueKind) → HasKinds tables plan ks → IsOfKind (kinds_of tables plan) e Truth → HasKinds tables (Over (Filter e) plan) ks
filter_is tables e plan ks h is = record { fits_is = and_both _ _ h.fits_is (and_both _ _ is.is (rw is.has refl)); wide = h.wide; narrow = h.narrow; each = h.each }

-- ---- maps

map_kinds : (tables : List TableRule) (plan : PlanTree) (es : List Expression) (ks : List ValueKind) → AreOfKinds (kinds_of tables plan) es ks → (c : ℕ) → kinds_of tables (Over (Map es) plan) c ≡ slice_get ks c
map_kinds tables plan [] [] h c = refl
map_kinds tables plan (e ∷ es) (k ∷ ks) h zero = h.0.has
map_kinds tables plan (e ∷ es) (k ∷ ks) h (suc c) = map_kinds tables plan es ks h.1 c
map_kinds tables plan [] (k ∷ ks) h c = absurd h
map_kinds tables plan (e ∷ es) [] h c = absurd h

pub map_is : (tables : List TableRule) (plan : PlanTree) (es : List Expression) (ks : List ValueKind) → fits tables plan ≡ true → length ks ≤ 1024 → AreOfKinds (kinds_of tables plan) es ks → HasKinds tables (Over (Map es) plan) ks
map_is tables plan es ks h few are =
    let many = as_many (kinds_of tables plan) es ks are in
    record {
      fits_is = and_both _ _ h (and_both _ _ (le-leb (length es) 1024 (omega arith)) (all_typed (kinds_of tables plan) es ks are));
      wide = many;
      narrow = few;
      each = map_kinds tables plan es ks are;
    }

-- the columns from a number on
pub columns_are : (kinds : Kinds) (first : ℕ) (ks : List ValueKind) → ((c : ℕ) (k : ValueKind) → slice_get ks c ≡ Some k → kinds (first + c) ≡ Some k) → AreOfKinds kinds (columns_from first (length ks)) ks
columns_are kinds first [] h = tt
columns_are kinds first (k ∷ ks) h = (
  column_is kinds first k (subst (λ n. kinds n ≡ Some k) (add-zero first) (h 0 k refl)),
  columns_are kinds (first + 1) ks (λ c j g. let same : first + suc c ≡ (first + 1) + c = omega arith in subst (λ n. kinds n ≡ Some j) same (h (suc c) j g)),
)

pub get_first : {A : Type 0} (xs ys : List A) (c : ℕ) (x : A) → slice_get xs c ≡ Some x → slice_get (xs ++ ys) c ≡ Some x
get_first [] ys c x h = cc
get_first (y ∷ xs) ys zero x h = h
get_first (y ∷ xs) ys (suc c) x h = get_first xs ys c x h

-- a Map of the first columns
pub first_columns_is : (tables : List TableRule) (plan : PlanTree) (ks ls : List ValueKind) → HasKinds tables plan (ks ++ ls) → HasKinds tables (Over (Map (columns_from 0 (length ks))) plan) ks
first_columns_is tables plan ks ls h =
    map_is tables plan (columns_from 0 (length ks)) ks h.fits_is (let long = length-append ks ls in let few = h.narrow in omega arith)
    (columns_are (kinds_of tables plan) 0 ks (λ c k g. let same : c ≡ 0 + c = omega arith in subst (λ n. kinds_of tables plan n ≡ Some k) same (h.each c ∙ get_first ks ls c k g)))

-- ---- what keeps the columns

pub distinct_is : (tables : List TableRule) (plan : PlanTree) (ks : List ValueKind) → HasKinds tables plan ks → HasKinds tables (Over Distinct plan) ks
distinct_is tables plan ks h = record { fits_is = and_both _ _ h.fits_is refl; wide = h.wide; narrow = h.narrow; each = h.each }

get_within : {A : Type 0} (xs : List A) (n : ℕ) → n < length xs → is_some (slice_get xs n) ≡ true
get_within [] n h = absurd (omega arith)
get_within (x ∷ xs) zero h = refl
get_within (x ∷ xs) (suc n) h = get_within xs n (omega arith)

-- sort keys that name some of so many columns
abbrev pub AreWithin : ℕ → List SortColumn → Type 0
AreWithin n items = AllByRecursion (λ (item : SortColumn). item.column < n) items

keys_are : (kinds : Kinds) (ks : List ValueKind) (items : List SortColumn) → ((c : ℕ) → kinds c ≡ slice_get ks c) → AreWithin (length ks) items → has_keys kinds items ≡ true
keys_are kinds ks [] each h = refl
keys_are kinds ks (item ∷ items) each h = and_both _ _ (rw (each item.column) (get_within ks item.column h.0)) (keys_are kinds ks items each h.1)

pub limit_is : (tables : List TableRule) (limit : LimitRule) (plan : PlanTree) (ks : List ValueKind) → HasKinds tables plan ks → AreWithin (length ks) limit.keys → (not limit.ties || nat_lt 0 (length limit.keys)) ≡ true → HasKinds tables (Over (Limit limit) plan) ks
limit_is tables limit plan ks h keys ties = record { fits_is = and_both _ _ h.fits_is (and_both _ _ (keys_are (kinds_of tables plan) ks limit.keys h.each keys) ties); wide = h.wide; narrow = h.narrow; each = h.each }
