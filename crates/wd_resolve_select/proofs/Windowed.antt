-- The Window over the Map of the inputs fits, and what stands above it is typed.
use Rattle.std.proofs.Common.{◌≡◌, ◌∙◌, sym, ap, refl, subst, ℕ, ◌+◌, ◌-◌, ◌<◌, ◌≤◌, Bool, true, false, not, ◌||◌, List, [], ◌∷◌, map, length, nat_lt, nat_eq, Some, is_some, option_map, slice_get, arith, eq-eqb}
use Rattle.std.specs.List.{AllByRecursion, list_any, list_all, position_or_len}
use Rattle.std.proofs.lemmas.Bool.{false≢true, eqb-true, lt-ltb, le-ltb, le-leb, ltb-false}
use Rattle.std.proofs.lemmas.List.{length-map}
use Rattle.std.proofs.lemmas.Option.{slice_get-map, slice_get_within}
use Rattle.std.specs.Cmp.{booleans_Decides}
use lib.Pointwise.{pointwise, pointwise_decides}
use Rattle.wd_schema.specs.Tables.{TableRule}
use Rattle.wd_plan.specs.declared.expression.ValueKind.{ValueKind}
use Rattle.wd_value.specs.declared.order.SortColumn.{SortColumn}
use Rattle.wd_plan.specs.declared.window.Bound.{Bound}
use Rattle.wd_plan.specs.declared.window.Call.{Call}
use Rattle.wd_plan.specs.declared.window.Exclusion.{Exclusion}
use Rattle.wd_plan.specs.declared.window.FrameMode.{FrameMode}
use Rattle.wd_plan.specs.declared.window.FrameMode.TheVariants as mode
use Rattle.wd_plan.specs.Fits.{Kinds, are_alike, are_bounds, fits, has_class, has_columns, has_keys, has_keys_for, has_offset, is_call, is_kind, is_typed, kind_of, kinds_of, takes}
use Rattle.wd_plan.specs.Fits as fits_spec
use Rattle.wd_plan.specs.Plans.{ClassRule, PlanTree, Over, Map, Window}
use Rattle.wd_plan.specs.declared.function.Direction.TheVariants as way
use Rattle.wd_plan.specs.declared.function.FrameRow.TheVariants.{First, Last, Nth}
use Rattle.wd_plan.specs.declared.function.Ranking.TheVariants as rank
use Rattle.wd_resolve_operand.specs.BoundExpressions.{BoundExpression, Reference, rebased}
use Rattle.wd_resolve_call.specs.Rows.{RowExpression, RowReference, same_row_expression}
use Rattle.wd_resolve_call.specs.Calls.{BoundFunction, ranking, away, value_at, aggregate, BoundCall, kind_of_function, same_call}
use Rattle.wd_resolve_call.specs.References.{SelectReference, of_row, call}
use Rattle.wd_resolve_call.specs.Windows.{BoundKey, is_empty, is_one_number}
use Rattle.wd_resolve_scope.specs.Typed.{AreKeys, AreTyped, IsCall, IsFunction, IsReference, IsRowExpression, IsTypedRow, Readable, is_framed, kind_at, row_kind_at}
use Rattle.wd_resolve_scope.proofs.Rebased.{AreRebased, IsRebased, rebased_kind, rebased_typed}
use Rattle.wd_resolve_scope.proofs.Typing.{and_both, both}
use Rattle.wd_resolve_scope.proofs.Lists.{all_get, all_on}
use Rattle.wd_resolve_scope.proofs.Equal.{one_row_kind, same_call-kind}
use Rattle.wd_resolve_list.specs.SelectLists.{all_references, argument_of, calls_among, input_number, is_window_wide, projected_of, place_above, place_in, read_by, read_by_all, sorted_by, with_new}
use Rattle.wd_resolve_select.specs.Steps.{call_over, class_over, classes_over, function_over, mapped_over, order_item, same_class, same_item, window_over, windowed}
use Rattle.wd_resolve_select.proofs.Aggregates.{gives_aggregate, takes_aggregate}
use Rattle.wd_resolve_list.proofs.Among.{all_there, all_true, all_with_new, all_zip, first_is, first_there}
use Rattle.wd_resolve_select.proofs.PlanKinds.{HasKinds, map_is}
use Rattle.wd_resolve_list.proofs.ReadBy.{AreAmong, AreReferences, IsAmong, IsFed, all_read_typed, each_among, fed, of_calls, of_references, row_reference_typed, same_call-itself, same_row_expression-itself}
use Rattle.wd_resolve_list.proofs.TypedBoundExpressions.{AreBoundExpressions, bound_expressions_references, bound_expressions_many}
use Rattle.wd_resolve_select.proofs.RebasedExpressions.{all_rebased}

-- ---- classes that are the same are equal

same_item-is : (a b : SortColumn) → same_item a b ≡ true → a ≡ b
same_item-is a b h =
    let p = both _ _ h in
    let q = both _ _ p.1 in
    let column : a.column ≡ b.column = eqb-true a.column b.column p.0 in
    let desc = (booleans_Decides a.key.desc b.key.desc).0 q.0 in
    let first = (booleans_Decides a.key.nulls_first b.key.nulls_first).0 q.1 in
    λ i. record { column = column i; key = record { desc = desc i; nulls_first = first i } }

same_item-itself : (a : SortColumn) → same_item a a ≡ true
same_item-itself a = and_both _ _ (eq-eqb a.column a.column refl) (and_both _ _ ((booleans_Decides a.key.desc a.key.desc).1 refl) ((booleans_Decides a.key.nulls_first a.key.nulls_first).1 refl))

numbers_decide : (xs ys : List ℕ) → (pointwise nat_eq xs ys ≡ true → xs ≡ ys) × (xs ≡ ys → pointwise nat_eq xs ys ≡ true)
numbers_decide = pointwise_decides (λ x y. (eqb-true x y, eq-eqb x y))

items_decide : (xs ys : List SortColumn) → (pointwise same_item xs ys ≡ true → xs ≡ ys) × (xs ≡ ys → pointwise same_item xs ys ≡ true)
items_decide = pointwise_decides (λ x y. (same_item-is x y, λ e. subst (λ z. same_item x z ≡ true) e (same_item-itself x)))

same_class-is : (a b : ClassRule) → same_class a b ≡ true → a ≡ b
same_class-is a b h =
    let p = both _ _ h in
    let partition = (numbers_decide a.partition b.partition).0 p.1 in
    let order = (items_decide a.order b.order).0 p.0 in
    λ i. record { partition = partition i; order = order i }

same_class-itself : (a : ClassRule) → same_class a a ≡ true
same_class-itself a = and_both _ _ ((items_decide a.order a.order).1 refl) ((numbers_decide a.partition a.partition).1 refl)

-- ---- small facts

or_else_is : (a b c : Bool) → (a || b) ≡ true → (b ≡ true → c ≡ true) → (a || c) ≡ true
or_else_is true b c h f = refl
or_else_is false b c h f = f h

call_at : (kinds : Kinds) (classes : List ClassRule) (c : Call) (class : ClassRule) → slice_get classes c.class ≡ Some class → takes kinds c.function ≡ true → are_bounds c.frame.start c.frame.end ≡ true → has_keys_for kinds class.order c.frame ≡ true → is_call kinds classes c ≡ true
call_at kinds classes c class e t b k = rw e (and_both _ _ t (and_both _ _ b k))

-- ---- the Window over a plan

-- what the steps of a plan above its rows rest on: rows that fit, expressions whose references are there, what these read at columns of
-- its kind, and a Window that is not too wide
pub record IsGround (tables : List TableRule) (plan : PlanTree) (r : Readable) (place : RowReference → ℕ) (expressions : List (BoundExpression SelectReference)) : Type 0 where
  pub fits_is : fits tables plan ≡ true
  pub references_are : AreReferences r (all_references expressions)
  pub rebased_are : AllByRecursion (AreRebased (row_kind_at r.kinds) place (kinds_of tables plan)) (read_by_all (all_references expressions))
  pub few : length (projected_of expressions).inputs + length (projected_of expressions).calls ≤ 1024

module _ (tables : List TableRule) (plan : PlanTree) (r : Readable) (place : RowReference → ℕ) (expressions : List (BoundExpression SelectReference)) (ground : IsGround tables plan r place expressions) where
  abbrev met : List SelectReference
  met = all_references expressions

  abbrev inputs : List RowExpression
  inputs = (projected_of expressions).inputs

  abbrev calls : List BoundCall
  calls = (projected_of expressions).calls

  abbrev shown : PlanTree
  shown = Over (Map (map (rebased place) inputs)) plan

  abbrev Below : Kinds
  Below = kinds_of tables plan

  abbrev Shown : Kinds
  Shown = kinds_of tables shown

  abbrev classes : List ClassRule
  classes = classes_over inputs calls

  abbrev window : PlanTree
  window = Over (Window (window_over inputs calls)) shown

  abbrev Above : Kinds
  Above = kinds_of tables window

  -- what each reference reads is among the inputs, and each call among the calls
  fed_references : AllByRecursion (λ reference. AreAmong inputs (read_by reference)) met
  fed_references = each_among inputs met (all_there same_row_expression same_row_expression-itself [] (read_by_all met))

  fed_calls : AllByRecursion (λ c. AreAmong inputs (read_by (call c))) calls
  fed_calls = all_with_new same_call (λ c. AreAmong inputs (read_by (call c))) [] (calls_among met) tt (of_calls (λ reference. AreAmong inputs (read_by reference)) met fed_references)

  calls_are : AllByRecursion (IsCall r) calls
  calls_are = all_with_new same_call (IsCall r) [] (calls_among met) tt (of_calls (IsReference r) met ground.references_are)

  inputs_are : AreTyped r inputs
  inputs_are = all_with_new same_row_expression (IsTypedRow r) [] (read_by_all met) tt (all_read_typed r met ground.references_are)

  inputs_rebased : AllByRecursion (AreRebased (row_kind_at r.kinds) place Below) inputs
  inputs_rebased = all_with_new same_row_expression (AreRebased (row_kind_at r.kinds) place Below) [] (read_by_all met) tt ground.rebased_are

  -- an input of a Map over the rows
  input_there : (n : ℕ) (g : RowExpression) (k : ValueKind) → slice_get inputs n ≡ Some g → IsRowExpression r g k → Shown n ≡ Some k
  input_there n g k e is =
      let there : slice_get (map (rebased place) inputs) n ≡ Some (rebased place g) = slice_get-map (rebased place) inputs n ∙ ap (option_map (rebased place)) e in
      rw there (rebased_kind (row_kind_at r.kinds) place Below g (all_get (AreRebased (row_kind_at r.kinds) place Below) inputs n g inputs_rebased e) ∙ is.has)

  -- the input of an expression: of one that is the same, which has its kind
  input_place : (f : RowExpression) (k : ValueKind) → IsRowExpression r f k → IsAmong inputs f → (input_number inputs f < length inputs) × (Shown (input_number inputs f) ≡ Some k)
  input_place f k is among =
      let found = first_there (same_row_expression f) inputs among in
      let other = all_get (IsTypedRow r) inputs (input_number inputs f) found.0 inputs_are found.1 in (
        slice_get_within inputs (input_number inputs f) found.0 found.1,
        input_there (input_number inputs f) found.0 other.kind found.1 other.expression ∙ ap Some (sym (one_row_kind r f found.0 k other.kind found.2 is other.expression)),
      )

  input_kind : (f : RowExpression) (k : ValueKind) → IsRowExpression r f k → IsAmong inputs f → Shown (input_number inputs f) ≡ Some k
  input_kind f k is among = (input_place f k is among).1

  input_some : (f : RowExpression) → IsTypedRow r f → IsAmong inputs f → is_some (Shown (input_number inputs f)) ≡ true
  input_some f t among = rw (input_kind f t.kind t.expression among) refl

  columns_are : (es : List RowExpression) → AreTyped r es → AreAmong inputs es → has_columns Shown (map (input_number inputs) es) ≡ true
  columns_are [] h g = refl
  columns_are (e ∷ es) h g = and_both _ _ (input_some e h.0 g.0) (columns_are es h.1 g.1)

  keys_are : (keys : List BoundKey) → AreKeys r keys → AreAmong inputs (map sorted_by keys) → has_keys Shown (map (order_item inputs) keys) ≡ true
  keys_are [] h g = refl
  keys_are (key ∷ keys) h g = and_both _ _ (rw (input_kind key.expression key.kind h.0 g.0) refl) (keys_are keys h.1 g.1)

  class_is : (c : BoundCall) → IsCall r c → IsFed inputs c → has_class Shown (class_over inputs c) ≡ true
  class_is c h g = and_both _ _ (columns_are c.window.partition h.window.partition g.partition) (keys_are c.window.order h.window.order g.order)

  takes_is : (f : BoundFunction) → IsFunction r f → AreAmong inputs (argument_of f) → takes Shown (function_over inputs f) ≡ true
  takes_is (ranking rank.RowNumber) h g = refl
  takes_is (ranking rank.Rank) h g = refl
  takes_is (ranking rank.DenseRank) h g = refl
  takes_is (ranking (rank.Ntile n)) h g = h
  takes_is (away way.Lag a n default) h g = rw (input_kind a.expression a.kind h.0 g.0) h.1
  takes_is (away way.Lead a n default) h g = rw (input_kind a.expression a.kind h.0 g.0) h.1
  takes_is (value_at First a) h g = rw (input_kind a.expression a.kind h.0 g.0) refl
  takes_is (value_at Last a) h g = rw (input_kind a.expression a.kind h.0 g.0) refl
  takes_is (value_at (Nth n) a) h g = and_both _ _ (rw (input_kind a.expression a.kind h.0 g.0) refl) h.1
  takes_is (aggregate a) h g = takes_aggregate (IsRowExpression r) (IsAmong inputs) (input_number inputs) Shown input_kind a h g

  gives : (f : BoundFunction) → IsFunction r f → AreAmong inputs (argument_of f) → fits_spec.kind_of_function Shown (function_over inputs f) ≡ Some (kind_of_function f)
  gives (ranking rank.RowNumber) h g = refl
  gives (ranking rank.Rank) h g = refl
  gives (ranking rank.DenseRank) h g = refl
  gives (ranking (rank.Ntile n)) h g = refl
  gives (away way.Lag a n default) h g = input_kind a.expression a.kind h.0 g.0
  gives (away way.Lead a n default) h g = input_kind a.expression a.kind h.0 g.0
  gives (value_at First a) h g = input_kind a.expression a.kind h.0 g.0
  gives (value_at Last a) h g = input_kind a.expression a.kind h.0 g.0
  gives (value_at (Nth n) a) h g = input_kind a.expression a.kind h.0 g.0
  gives (aggregate a) h g = gives_aggregate (IsRowExpression r) (IsAmong inputs) (input_number inputs) Shown input_kind a h g

  one_number : (order : List BoundKey) → AreKeys r order → AreAmong inputs (map sorted_by order) → is_one_number order ≡ true → fits_spec.is_one_number Shown (map (order_item inputs) order) ≡ true
  one_number [] h g one = absurd (false≢true one)
  one_number (key ∷ []) h g one = rw (input_kind key.expression key.kind h.0 g.0) one
  one_number (key ∷ other ∷ keys) h g one = absurd (false≢true one)

  some_keys : (order : List BoundKey) → not (is_empty order) ≡ true → nat_lt 0 (length (map (order_item inputs) order)) ≡ true
  some_keys [] h = absurd (false≢true h)
  some_keys (key ∷ keys) h = lt-ltb 0 (length (map (order_item inputs) (key ∷ keys))) (omega arith)

  framed : (m : FrameMode) (start end : Bound) (exclusion : Exclusion) (order : List BoundKey) → AreKeys r order → AreAmong inputs (map sorted_by order) → is_framed m order (record { mode = m; start = start; end = end; exclusion = exclusion }) ≡ true
      → has_keys_for Shown (map (order_item inputs) order) (record { mode = m; start = start; end = end; exclusion = exclusion }) ≡ true
  framed mode.Rows start end exclusion order h g f = refl
  framed mode.Range start end exclusion order h g f = or_else_is (not (has_offset start || has_offset end)) (is_one_number order) (fits_spec.is_one_number Shown (map (order_item inputs) order)) f (one_number order h g)
  framed mode.Groups start end exclusion order h g f = some_keys order f

  call_is : (c : BoundCall) → IsCall r c → IsFed inputs c → list_any (same_class (class_over inputs c)) classes ≡ true → is_call Shown classes (call_over inputs classes c) ≡ true
  call_is c h g among =
      call_at Shown classes (call_over inputs classes c) (class_over inputs c) (first_is same_class same_class-is (class_over inputs c) classes among)
      (takes_is c.function h.function g.argument)
      h.window.bounds
      (framed c.window.frame.mode c.window.frame.start c.window.frame.end c.window.frame.exclusion c.window.order h.window.order g.order h.window.frame)

  all_classes : (cs : List BoundCall) → AllByRecursion (IsCall r) cs → AllByRecursion (λ c. AreAmong inputs (read_by (call c))) cs → AllByRecursion (λ class. has_class Shown class ≡ true) (map (class_over inputs) cs)
  all_classes [] h g = tt
  all_classes (c ∷ cs) h g = (class_is c h.0 (fed inputs c g.0), all_classes cs h.1 g.1)

  all_calls : (cs : List BoundCall) → AllByRecursion (IsCall r) cs → AllByRecursion (λ c. AreAmong inputs (read_by (call c))) cs → AllByRecursion (λ class. list_any (same_class class) classes ≡ true) (map (class_over inputs) cs)
      → list_all (is_call Shown classes) (map (call_over inputs classes) cs) ≡ true
  all_calls [] h g there = refl
  all_calls (c ∷ cs) h g there = and_both _ _ (call_is c h.0 (fed inputs c g.0) there.0) (all_calls cs h.1 g.1 there.1)

  inputs_typed : (fs : List RowExpression) → AreTyped r fs → AllByRecursion (AreRebased (row_kind_at r.kinds) place Below) fs → list_all (is_typed Below) (map (rebased place) fs) ≡ true
  inputs_typed [] h g = refl
  inputs_typed (f ∷ fs) h g = and_both _ _ (rebased_typed (row_kind_at r.kinds) place Below f g.0 ∙ h.0.expression.is) (inputs_typed fs h.1 g.1)

  pub window_fits : fits tables window ≡ true
  window_fits =
      let few = ground.few in
      let long = length-map calls (call_over inputs classes) in
      let wide = length-map inputs (rebased place) in
      and_both _ _
      (and_both _ _ ground.fits_is (and_both _ _ (le-leb (length (map (rebased place) inputs)) 1024 (omega arith)) (inputs_typed inputs inputs_are inputs_rebased)))
      (and_both _ _ (le-leb (length (map (rebased place) inputs) + length (map (call_over inputs classes) calls)) 1024 (omega arith))
      (and_both _ _
      (all_true (has_class Shown) classes (all_with_new same_class (λ class. has_class Shown class ≡ true) [] (map (class_over inputs) calls) tt (all_classes calls calls_are fed_calls)))
      (all_calls calls calls_are fed_calls (all_there same_class same_class-itself [] (map (class_over inputs) calls)))))

  -- ---- above the Window

  input_above : (f : RowExpression) (k : ValueKind) → IsRowExpression r f k → IsAmong inputs f → Above (input_number inputs f) ≡ Some k
  input_above f k is among =
      let p = input_place f k is among in
      let wide = length-map inputs (rebased place) in
      rw (lt-ltb (input_number inputs f) (length (map (rebased place) inputs)) (omega (arith, p.0))) p.1

  call_above : (n : ℕ) (c : BoundCall) → slice_get calls n ≡ Some c → Above (length inputs + n) ≡ Some (kind_of_function c.function)
  call_above n c e =
      let is = all_get (IsCall r) calls n c calls_are e in
      let among = fed inputs c (all_get (λ d. AreAmong inputs (read_by (call d))) calls n c fed_calls e) in
      let wide = length-map inputs (rebased place) in
      let after = le-ltb (length inputs + n) (length (map (rebased place) inputs)) (omega arith) in
      let number : (length inputs + n) - length (map (rebased place) inputs) ≡ n = omega arith in
      let there : slice_get (map (call_over inputs classes) calls) n ≡ Some (call_over inputs classes c) = slice_get-map (call_over inputs classes) calls n ∙ ap (option_map (call_over inputs classes)) e in
      rw after (rw number (rw there (gives c.function is.function among.argument)))

  -- a call stands at the column of one that is the same, which has its kind
  met_above : (c : BoundCall) → IsCall r c → list_any (same_call c) calls ≡ true → Above (length inputs + position_or_len (same_call c) calls) ≡ Some (kind_of_function c.function)
  met_above c is there =
      let found = first_there (same_call c) calls there in
      let other = all_get (IsCall r) calls (position_or_len (same_call c) calls) found.0 calls_are found.1 in
      call_above (position_or_len (same_call c) calls) found.0 found.1 ∙ ap Some (sym (same_call-kind r c found.0 found.2 is.function other.function))

  abbrev IsThere : SelectReference → Type 0
  IsThere (of_row l) = Unit {0}
  IsThere (call c) = list_any (same_call c) calls ≡ true

  reference_above : (reference : SelectReference) → (IsReference r reference × AreAmong inputs (read_by reference)) × IsThere reference → IsRebased (kind_at r) (place_above inputs calls) Above reference
  reference_above (of_row l) h = let t = row_reference_typed r l h.0.0 in input_above (Reference l) t.kind t.expression h.0.1.0 ∙ sym t.expression.has
  reference_above (call c) h = met_above c h.0.0 h.1

  all_above : AllByRecursion (IsRebased (kind_at r) (place_above inputs calls) Above) met
  all_above =
      let there = of_references IsThere met (λ l. tt) (all_there same_call same_call-itself [] (calls_among met)) in
      all_on met
      (all_zip (λ reference. IsReference r reference × AreAmong inputs (read_by reference)) IsThere met (all_zip (IsReference r) (λ reference. AreAmong inputs (read_by reference)) met ground.references_are fed_references) there)
      reference_above

-- ---- the Map of what is shown

-- without calls each reference stands where its rows have it
references_alone : (r : Readable) (place : RowReference → ℕ) (others : Kinds) (references : List SelectReference) → with_new same_call [] (calls_among references) ≡ []
    → AllByRecursion (AreRebased (row_kind_at r.kinds) place others) (read_by_all references) → AllByRecursion (IsRebased (kind_at r) (place_in place [] []) others) references
references_alone r place others references none rebased_are =
    let there = subst (λ cs. AllByRecursion (λ c. list_any (same_call c) cs ≡ true) (calls_among references)) none (all_there same_call same_call-itself [] (calls_among references)) in
    by references there rebased_are
  where
    by : (references : List SelectReference) → AllByRecursion (λ c. list_any (same_call c) [] ≡ true) (calls_among references) → AllByRecursion (AreRebased (row_kind_at r.kinds) place others) (read_by_all references) → AllByRecursion (IsRebased (kind_at r) (place_in place [] []) others) references
    by [] h g = tt
    by (of_row l ∷ references) h g = (g.0.0, by references h g.1)
    by (call c ∷ references) h g = absurd (false≢true h.0)

-- rows that fit, with a Map of expressions over them
pub mapped_over_is : (tables : List TableRule) (plan : PlanTree) (r : Readable) (place : RowReference → ℕ) (expressions : List (BoundExpression SelectReference)) (ks : List ValueKind) → fits tables plan ≡ true
    → AreBoundExpressions r expressions ks → AllByRecursion (AreRebased (row_kind_at r.kinds) place (kinds_of tables plan)) (read_by_all (all_references expressions)) → length expressions ≤ 1024 → is_window_wide (projected_of expressions) ≡ false
    → HasKinds tables (mapped_over place (projected_of expressions) expressions plan) ks
mapped_over_is tables plan r place expressions ks h are rebased_are few narrow = by (projected_of expressions).calls refl narrow
  where
    inputs : List RowExpression
    inputs = (projected_of expressions).inputs

    many : length expressions ≡ length ks
    many = bound_expressions_many r expressions ks are

    by : (calls : List BoundCall) → (projected_of expressions).calls ≡ calls → is_window_wide (record { calls = calls; inputs = inputs; groups = (projected_of expressions).groups }) ≡ false
        → HasKinds tables (Over (Map (map (rebased (place_in place inputs calls)) expressions)) (windowed place inputs calls plan)) ks
    by [] e wide = map_is tables plan (map (rebased (place_in place [] [])) expressions) ks h (omega (arith, few, many)) (all_rebased r (place_in place [] []) (kinds_of tables plan) expressions ks are (references_alone r place (kinds_of tables plan) (all_references expressions) e rebased_are))
    by (c ∷ calls) e wide =
        let few_columns = ltb-false 1024 (length inputs + length (c ∷ calls)) wide in
        let ground : IsGround tables plan r place expressions = record { fits_is = h; references_are = bound_expressions_references r expressions ks are; rebased_are = rebased_are; few = subst (λ cs. length inputs + length cs ≤ 1024) (sym e) few_columns } in
        let window = Over (Window (window_over inputs (projected_of expressions).calls)) (Over (Map (map (rebased place) inputs)) plan) in
        let whole = map_is tables window (map (rebased (place_above inputs (projected_of expressions).calls)) expressions) ks (window_fits tables plan r place expressions ground) (omega (arith, few, many))
        (all_rebased r (place_above inputs (projected_of expressions).calls) (kinds_of tables window) expressions ks are (all_above tables plan r place expressions ground)) in
        subst (λ cs. HasKinds tables (Over (Map (map (rebased (place_above inputs cs)) expressions)) (Over (Window (window_over inputs cs)) (Over (Map (map (rebased place) inputs)) plan))) ks) e whole
