-- The Group over the Map of its columns and arguments fits, and what is read of its rows stands at columns of its kind.
use Rattle.std.proofs.Common.{◌≡◌, ◌∙◌, sym, ap, refl, subst, ℕ, zero, suc, ◌+◌, ◌-◌, ◌<◌, ◌≤◌, Bool, true, false, cond, ◌&&◌, ◌||◌, List, [], ◌∷◌, ◌++◌, map, length, nat_eq, nat_lt, nat_le, Some, is_some, option_map, slice_get, arith, eq-eqb}
use Rattle.std.specs.Prelude.{flat_map}
use Rattle.std.specs.List.{AllByRecursion, list_any, list_all, range_with_len}
use Rattle.std.proofs.lemmas.Bool.{false≢true, eqb-true, lt-ltb, le-ltb, le-leb, or_left, or_right}
use Rattle.std.proofs.lemmas.List.{length-map, length_push}
use Rattle.std.proofs.lemmas.Option.{slice_get-map, slice_get_within}
use Rattle.wd_schema.specs.Tables.{TableRule}
use Rattle.wd_plan.specs.declared.expression.ValueKind.{ValueKind}
use Rattle.wd_plan.specs.Equality.{same_expression}
use Rattle.wd_plan.specs.Expressions.{Expression, Column}
use Rattle.wd_plan.specs.Fits.{Kinds, are_sets, fits, is_group_call, is_typed, kind_of, kinds_of}
use Rattle.wd_plan.specs.Fits as fits_spec
use Rattle.wd_plan.specs.Plans.{PlanTree, Over, Map, has}
use Rattle.wd_resolve_call.specs.Rows.{BoundAggregate, count_rows, count_of, sum_of, least_of, greatest_of, GroupCall, of_rows, grouping, RowReference, column, of_group, aggregated, kind_of_group_call, same_group_call}
use Rattle.wd_resolve_scope.specs.Scopes.{ScopeRule}
use Rattle.wd_resolve_scope.specs.Typed.{IsAggregate, IsGroupCall, IsOfKind, IsRowReference, Readable, kinds_in, readable, row_kind_at}
use Rattle.wd_resolve_scope.proofs.Equal.{group_call_kind, same_expression-is}
use Rattle.wd_resolve_scope.proofs.Lists.{all_get}
use Rattle.wd_resolve_scope.proofs.Typing.{Extends, and_both, kept, some_is, typed_kept}
use Rattle.wd_resolve_list.specs.Grouping.{grouped_rule, numbers_from, set_rebased}
use Rattle.wd_resolve_list.specs.SelectLists.{GroupedBy, group_argument_of, group_inputs, group_place, is_group_wide, number_in, with_new}
use Rattle.wd_resolve_select.specs.Steps.{group_call_over, group_on}
use Rattle.wd_resolve_select.proofs.Aggregates.{gives_aggregate, takes_aggregate}
use Rattle.wd_resolve_list.proofs.Among.{all_append, all_split, all_there, all_with_new, first_is, first_there}
use Rattle.wd_resolve_list.proofs.GroupedColumns.{IsGrouped}
use Rattle.wd_resolve_list.proofs.Narrow.{few_arguments, few_groups}
use Rattle.wd_resolve_select.proofs.PlanKinds.{HasKinds, get_first, scope_is, scope_kinds}
use Rattle.wd_resolve_list.proofs.ReadBy.{same_expression-itself}

-- ---- elements before those that are met

with_new_first : {A : Type 0} (same : A → A → Bool) (seen xs : List A) (n : ℕ) (x : A) → slice_get seen n ≡ Some x → slice_get (with_new same seen xs) n ≡ Some x
with_new_first same seen [] n x h = h
with_new_first same seen (y ∷ ys) n x h = with_new_first same (cond (list_any (same y) seen) seen (seen ++ y ∷ [])) ys n x (by (list_any (same y) seen))
  where
    by : (b : Bool) → slice_get (cond b seen (seen ++ y ∷ [])) n ≡ Some x
    by true = h
    by false = get_first seen (y ∷ []) n x h

with_new_longer : {A : Type 0} (same : A → A → Bool) (seen xs : List A) → length seen ≤ length (with_new same seen xs)
with_new_longer same seen [] = omega arith
with_new_longer same seen (y ∷ ys) =
    let later = with_new_longer same (cond (list_any (same y) seen) seen (seen ++ y ∷ [])) ys in
    let here = by (list_any (same y) seen) in
    omega (arith, later, here)
  where
    by : (b : Bool) → length seen ≤ length (cond b seen (seen ++ y ∷ []))
    by true = omega arith
    by false = let long = length_push seen y in omega (arith, long)

-- ---- sets by the numbers of their columns

numbers_within : (n top : ℕ) (columns set : List ℕ) → n + length columns ≡ top → list_all (λ c. nat_lt c top) (numbers_from n columns set) ≡ true
numbers_within n top [] set h = refl
numbers_within n top (c ∷ columns) set h = by (has set c) (numbers_within (n + 1) top columns set (omega arith))
  where
    by : (b : Bool) → list_all (λ k. nat_lt k top) (numbers_from (n + 1) columns set) ≡ true → list_all (λ k. nat_lt k top) (cond b (n ∷ numbers_from (n + 1) columns set) (numbers_from (n + 1) columns set)) ≡ true
    by true later = and_both _ _ (lt-ltb n top (omega arith)) later
    by false later = later

number_there : (n i c : ℕ) (columns set : List ℕ) → slice_get columns i ≡ Some c → has set c ≡ true → has (numbers_from n columns set) (n + i) ≡ true
number_there n i c [] set h there = cc
number_there n zero c (d ∷ columns) set h there =
    let same : d ≡ c = some_is d c h in
    subst (λ b. has (cond b (n ∷ numbers_from (n + 1) columns set) (numbers_from (n + 1) columns set)) (n + 0) ≡ true) (sym (ap (has set) same ∙ there)) (or_left _ _ (lemma n))
  where
    lemma : (k : ℕ) → nat_eq (k + 0) k ≡ true
    lemma k = eq-eqb (k + 0) k (omega arith)
number_there n (suc i) c (d ∷ columns) set h there = by (has set d) (subst (λ k. has (numbers_from (n + 1) columns set) k ≡ true) (let same : (n + 1) + i ≡ n + suc i = omega arith in same) (number_there (n + 1) i c columns set h there))
  where
    by : (b : Bool) → has (numbers_from (n + 1) columns set) (n + suc i) ≡ true → has (cond b (n ∷ numbers_from (n + 1) columns set) (numbers_from (n + 1) columns set)) (n + suc i) ≡ true
    by true later = or_right _ _ later
    by false later = later

all_sets_within : (columns : List ℕ) (sets : List (List ℕ)) → list_all (list_all (λ c. nat_lt c (length columns))) (map (set_rebased columns) sets) ≡ true
all_sets_within columns [] = refl
all_sets_within columns (set ∷ sets) = and_both _ _ (numbers_within 0 (length columns) columns set (omega arith)) (all_sets_within columns sets)

some_rebased : (columns : List ℕ) (i c : ℕ) (sets : List (List ℕ)) → slice_get columns i ≡ Some c → list_any (λ set. has set c) sets ≡ true → list_any (λ set. has set i) (map (set_rebased columns) sets) ≡ true
some_rebased columns i c [] e h = absurd (false≢true h)
some_rebased columns i c (set ∷ sets) e h = by (has set c) refl h (some_rebased columns i c sets e)
  where
    by : (b : Bool) → has set c ≡ b → (b || list_any (λ s. has s c) sets) ≡ true → (list_any (λ s. has s c) sets ≡ true → list_any (λ s. has s i) (map (set_rebased columns) sets) ≡ true)
        → (has (set_rebased columns set) i || list_any (λ s. has s i) (map (set_rebased columns) sets)) ≡ true
    by true there h later = or_left _ _ (subst (λ k. has (set_rebased columns set) k ≡ true) (let same : 0 + i ≡ i = omega arith in same) (number_there 0 i c columns set e there))
    by false there h later = or_right _ _ (later h)

-- a test that each number from one on passes
all_numbers : (t : ℕ → Bool) (first count : ℕ) → ((n : ℕ) → first ≤ n → n < first + count → t n ≡ true) → list_all t (range_with_len first count) ≡ true
all_numbers t first zero h = refl
all_numbers t first (suc count) h = and_both _ _ (h first (omega arith) (omega arith)) (all_numbers t (first + 1) count (λ n low high. h n (omega arith) (omega arith)))

get_there : {A : Type 0} (xs : List A) (n : ℕ) → n < length xs → (x : A) × (slice_get xs n ≡ Some x)
get_there [] n h = absurd (omega arith)
get_there (x ∷ xs) zero h = (x, refl)
get_there (x ∷ xs) (suc n) h = get_there xs n (omega arith)

sets_fit : (columns : List ℕ) (sets : List (List ℕ)) → AllByRecursion (λ n. list_any (λ set. has set n) sets ≡ true) columns → are_sets (length columns) (map (set_rebased columns) sets) ≡ true
sets_fit columns sets h = and_both _ _ (all_sets_within columns sets) (all_numbers (λ c. list_any (λ set. has set c) (map (set_rebased columns) sets)) 0 (length columns) (λ n low high.
    let there = get_there columns n (omega arith) in
    some_rebased columns n there.0 sets there.1 (all_get (λ c. list_any (λ set. has set c) sets ≡ true) columns n there.0 h there.1)))

-- ---- the Group over a plan of FROM

module _ (tables : List TableRule) (plan : PlanTree) (scope : ScopeRule) (plan_is : HasKinds tables plan (scope_kinds scope)) (g : GroupedBy) (grouped : IsGrouped scope g)
    (calls : List GroupCall) (calls_are : AllByRecursion (IsGroupCall (readable scope (Some (grouped_rule g)))) calls) (narrow : is_group_wide (Some g) calls ≡ false) where
  abbrev r : Readable
  r = readable scope (Some (grouped_rule g))

  abbrev Read : Kinds
  Read = kinds_in scope

  abbrev Below : Kinds
  Below = kinds_of tables plan

  abbrev inputs : List Expression
  inputs = group_inputs g.columns calls

  abbrev Inner : Kinds
  Inner = kinds_of tables (Over (Map inputs) plan)

  abbrev Above : Kinds
  Above = kinds_of tables (group_on g calls plan)

  extended : Extends Read Below
  extended c k e = plan_is.each c ∙ sym (scope_is scope c) ∙ e

  -- ---- the Map

  abbrev IsTyped : Expression → Type 0
  IsTyped e = is_typed Read e ≡ true

  columns_typed : (columns : List ℕ) → AllByRecursion (λ n. is_some (Read n) ≡ true) columns → AllByRecursion IsTyped (map Column columns)
  columns_typed [] h = tt
  columns_typed (n ∷ columns) h = (h.0, columns_typed columns h.1)

  aggregated_typed : (a : BoundAggregate Expression) → IsAggregate (IsOfKind Read) a → AllByRecursion IsTyped (aggregated a)
  aggregated_typed count_rows h = tt
  aggregated_typed (count_of a) h = (h.is, tt)
  aggregated_typed (sum_of a) h = (h.0.is, tt)
  aggregated_typed (least_of a) h = (h.0.is, tt)
  aggregated_typed (greatest_of a) h = (h.0.is, tt)

  argument_typed : (c : GroupCall) → IsGroupCall r c → AllByRecursion IsTyped (group_argument_of c)
  argument_typed (of_rows a) h = aggregated_typed a h
  argument_typed (grouping columns) h = tt

  arguments_typed : (cs : List GroupCall) → AllByRecursion (IsGroupCall r) cs → AllByRecursion IsTyped (flat_map group_argument_of cs)
  arguments_typed [] h = tt
  arguments_typed (c ∷ cs) h = all_append IsTyped (group_argument_of c) (flat_map group_argument_of cs) (argument_typed c h.0) (arguments_typed cs h.1)

  inputs_are : AllByRecursion IsTyped inputs
  inputs_are = all_with_new same_expression IsTyped (map Column g.columns) (flat_map group_argument_of calls) (columns_typed g.columns grouped.columns_are) (arguments_typed calls calls_are)

  typed_below : (es : List Expression) → AllByRecursion IsTyped es → list_all (is_typed Below) es ≡ true
  typed_below [] h = refl
  typed_below (e ∷ es) h = and_both _ _ (typed_kept Read Below extended e h.0) (typed_below es h.1)

  map_fits : fits tables (Over (Map inputs) plan) ≡ true
  map_fits = and_both _ _ plan_is.fits_is (and_both _ _ (le-leb (length inputs) 1024 (few_arguments g calls narrow)) (typed_below inputs inputs_are))

  -- ---- what the Map shows

  abbrev IsThere : Expression → Type 0
  IsThere e = list_any (same_expression e) inputs ≡ true

  -- an argument stands at a column of its kind
  stands : (e : Expression) (k : ValueKind) → IsOfKind Read e k → IsThere e → Inner (number_in same_expression inputs e) ≡ Some k
  stands e k is there = let f = first_is same_expression same_expression-is e inputs there in rw f (kept Read Below extended is).has

  abbrev HasArgument : GroupCall → Type 0
  HasArgument c = AllByRecursion IsThere (group_argument_of c)

  each_there : (cs : List GroupCall) → AllByRecursion IsThere (flat_map group_argument_of cs) → AllByRecursion HasArgument cs
  each_there [] h = tt
  each_there (c ∷ cs) h = let p = all_split IsThere (group_argument_of c) (flat_map group_argument_of cs) h in (p.0, each_there cs p.1)

  arguments_there : AllByRecursion HasArgument calls
  arguments_there = each_there calls (all_there same_expression same_expression-itself (map Column g.columns) (flat_map group_argument_of calls))

  -- a column that is grouped by stands at its number among these
  column_at : (n : ℕ) → has g.columns n ≡ true → slice_get g.columns (number_in nat_eq g.columns n) ≡ Some n
  column_at n h = first_is nat_eq eqb-true n g.columns h

  column_within : (n : ℕ) → has g.columns n ≡ true → number_in nat_eq g.columns n < length g.columns
  column_within n h = slice_get_within g.columns (number_in nat_eq g.columns n) n (column_at n h)

  column_kind : (n : ℕ) → has g.columns n ≡ true → Inner (number_in nat_eq g.columns n) ≡ Read n
  column_kind n h =
      let first : slice_get (map Column g.columns) (number_in nat_eq g.columns n) ≡ Some (Column n) = slice_get-map Column g.columns (number_in nat_eq g.columns n) ∙ ap (option_map Column) (column_at n h) in
      let there = with_new_first same_expression (map Column g.columns) (flat_map group_argument_of calls) (number_in nat_eq g.columns n) (Column n) first in
      rw there (plan_is.each n ∙ sym (scope_is scope n))

  -- ---- the Group

  numbers_below : (cs : List ℕ) → AllByRecursion (λ n. has g.columns n ≡ true) cs → list_all (λ c. nat_lt c (length g.columns)) (map (number_in nat_eq g.columns) cs) ≡ true
  numbers_below [] h = refl
  numbers_below (c ∷ cs) h = and_both _ _ (lt-ltb (number_in nat_eq g.columns c) (length g.columns) (column_within c h.0)) (numbers_below cs h.1)

  call_fits : (c : GroupCall) → IsGroupCall r c → HasArgument c → is_group_call Inner (length g.columns) (group_call_over g.columns inputs c) ≡ true
  call_fits (of_rows a) h there = takes_aggregate (IsOfKind Read) IsThere (number_in same_expression inputs) Inner stands a h there
  call_fits (grouping cs) h there = and_both _ _ (subst (λ n. (nat_lt 0 n && nat_le n 31) ≡ true) (sym (length-map cs (number_in nat_eq g.columns))) h.1) (numbers_below cs h.0)

  calls_fit : (cs : List GroupCall) → AllByRecursion (IsGroupCall r) cs → AllByRecursion HasArgument cs → list_all (is_group_call Inner (length g.columns)) (map (group_call_over g.columns inputs) cs) ≡ true
  calls_fit [] h there = refl
  calls_fit (c ∷ cs) h there = and_both _ _ (call_fits c h.0 there.0) (calls_fit cs h.1 there.1)

  pub group_fits : fits tables (group_on g calls plan) ≡ true
  group_fits =
      let few = few_groups g calls narrow in
      let long = length-map calls (group_call_over g.columns inputs) in
      let columns = length-map g.columns Column in
      let longer = with_new_longer same_expression (map Column g.columns) (flat_map group_argument_of calls) in
      and_both _ _ map_fits
      (and_both _ _ (le-leb (length g.columns + length (map (group_call_over g.columns inputs) calls)) 1024 (omega (arith, few, long)))
      (and_both _ _ (le-leb (length g.columns) (length inputs) (omega (arith, columns, longer)))
      (and_both _ _ (sets_fit g.columns g.sets grouped.in_sets) (calls_fit calls calls_are arguments_there))))

  -- ---- above the Group

  call_gives : (c : GroupCall) → IsGroupCall r c → HasArgument c → fits_spec.kind_of_group_call Inner (group_call_over g.columns inputs c) ≡ Some (kind_of_group_call c)
  call_gives (of_rows a) h there = gives_aggregate (IsOfKind Read) IsThere (number_in same_expression inputs) Inner stands a h there
  call_gives (grouping cs) h there = refl

  call_over : (n : ℕ) (c : GroupCall) → slice_get calls n ≡ Some c → Above (length g.columns + n) ≡ Some (kind_of_group_call c)
  call_over n c e =
      let is = all_get (IsGroupCall r) calls n c calls_are e in
      let there = all_get HasArgument calls n c arguments_there e in
      let after = le-ltb (length g.columns + n) (length g.columns) (omega arith) in
      let number : (length g.columns + n) - length g.columns ≡ n = omega arith in
      let shown : slice_get (map (group_call_over g.columns inputs) calls) n ≡ Some (group_call_over g.columns inputs c) = slice_get-map (group_call_over g.columns inputs) calls n ∙ ap (option_map (group_call_over g.columns inputs)) e in
      rw after (rw number (rw shown (call_gives c is there)))

  -- the calls of a reference are among those of the Group
  abbrev pub IsShown : RowReference → Type 0
  IsShown (column n) = Unit {0}
  IsShown (of_group c) = list_any (same_group_call c) calls ≡ true

  pub reference_over : (l : RowReference) → IsRowReference r l → IsShown l → Above (group_place g.columns calls l) ≡ row_kind_at Read l
  reference_over (column n) h there = rw (lt-ltb (number_in nat_eq g.columns n) (length g.columns) (column_within n h.1)) (column_kind n h.1)
  reference_over (of_group c) h there =
      let found = first_there (same_group_call c) calls there in
      let other = all_get (IsGroupCall r) calls (number_in same_group_call calls c) found.0 calls_are found.1 in
      call_over (number_in same_group_call calls c) found.0 found.1 ∙ ap Some (sym (group_call_kind r c found.0 found.2 h.1 other))
