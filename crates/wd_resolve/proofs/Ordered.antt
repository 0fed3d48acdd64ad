-- The plan of a query whose outermost select has ORDER BY ends in a Limit.
use Rattle.std.proofs.Common.{◌≡◌, refl, subst, ◌+◌, Bool, true, false, cond, List, [], ◌∷◌, ◌++◌, length, map, nat_eq, Option, Some, None, option_map, Ok, Err, arith, inl, inr}
use Rattle.std.proofs.lemmas.Bool.{false≢true, lt-ltb}
use Rattle.std.proofs.lemmas.List.{length_push}
use Rattle.wd_value.specs.declared.order.SortKey.{SortKey}
use Rattle.wd_value.specs.declared.order.SortColumn.{SortColumn}
use Rattle.wd_schema.specs.Tables.{TableRule}
use Rattle.wd_syntax.specs.declared.query.Limits.{Limits}
use Rattle.wd_syntax.specs.Tree.{Keys, no_keys, more_keys, Parts, SelectTree, select, QueryTree, query}
use Rattle.wd_plan.specs.Expressions.{Expression}
use Rattle.wd_plan.specs.Plans.{LimitRule, PlanTree, Over, Limit, Map}
use Rattle.wd_resolve_operand.specs.declared.cause.Cause.TheVariants.{ForeignSortKey, TooMany}
use Rattle.wd_resolve_operand.specs.Causes.{◌>>=◌}
use Rattle.wd_resolve_operand.specs.BoundExpressions.{BoundExpression}
use Rattle.wd_resolve_call.specs.References.{SelectReference}
use Rattle.wd_resolve_scope.specs.Resolving.{all_defined}
use Rattle.wd_resolve_scope.specs.Scopes.{ScopeRule}
use Rattle.wd_resolve_call.specs.Windows.{NamedBoundWindow, sort_key}
use Rattle.wd_resolve_scope.specs.declared.context.Place.TheVariants as place
use Rattle.wd_resolve_call.proofs.Meanings.{bound, ok_is}
use Rattle.wd_resolve_list.specs.Grouping.{below_meant, grouped_meant, grouped_rule}
use Rattle.wd_resolve_list.specs.SelectLists.{Below, GroupedBy, are_wide}
use Rattle.wd_resolve_list.specs.Outputs.{BoundOutput, list_meant, expressions_of}
use Rattle.wd_resolve_select.specs.Sorting.{RowLimit, KeyPlace, Shown, Sorted, row_limit_meant, hidden, key_place, key_sorted, keys_sorted, narrow_keys, output, unsorted, with_column, with_key}
use Rattle.wd_resolve_select.specs.Steps.{Lowered, columns_from, deduplicated, filtered, limited, lowered_shown, mapped}
use Rattle.wd_resolve.specs.Selected.{JoinedTables, first_admitted, together}
use Rattle.wd_resolve.specs.Lowering.{after_from, is_distinct, is_sorted, joins_meant, lowered, lowering, selected, shown_by, shown_sorted, table_meant}
use Rattle.wd_resolve.specs.Answers.{Answer, has_order, is_ordered, name_in}
use Rattle.wd_resolve.specs.Laws.{EndsInLimit, OrderedEndInLimit}
use Rattle.wd_resolve.proofs.SortedShown.{HasSome}

-- ---- sort keys give columns to sort by

one_more : (items : List SortColumn) (item : SortColumn) → HasSome (items ++ item ∷ [])
one_more items item = let long = length_push items item in lt-ltb 0 (length (items ++ item ∷ [])) (omega arith)

column_more : (s : Shown) (f : BoundExpression SelectReference) (key : SortKey) (so_far r : Sorted) → cond s.distinct (Err ForeignSortKey) (narrow_keys s (with_column s f key so_far)) ≡ Ok r → HasSome r.items
column_more s f key so_far r g = by s.distinct g
  where
    wide : (b : Bool) → cond b (Err TooMany) (Ok (with_column s f key so_far)) ≡ Ok r → HasSome r.items
    wide true g = cc
    wide false g = subst (λ (z : Sorted). HasSome z.items) (ok_is _ _ g) (one_more so_far.items (record { column = length s.outputs + length so_far.hidden; key = key }))

    by : (b : Bool) → cond b (Err ForeignSortKey) (narrow_keys s (with_column s f key so_far)) ≡ Ok r → HasSome r.items
    by true g = cc
    by false g = wide (are_wide s.below (expressions_of s.outputs) (with_column s f key so_far).hidden) g

key_more : (s : Shown) (p : KeyPlace) (key : SortKey) (so_far r : Sorted) → with_key s p key so_far ≡ Ok r → HasSome r.items
key_more s (output n) key so_far r e = subst (λ (z : Sorted). HasSome z.items) (ok_is _ _ e) (one_more so_far.items (record { column = n; key = key }))
key_more s (hidden f) key so_far r e = column_more s f key so_far r e

keys_more : (s : Shown) (keys : Keys) (so_far r : Sorted) → keys_sorted s keys so_far ≡ Ok r → (HasSome so_far.items → HasSome r.items) × (is_sorted keys ≡ true → HasSome r.items)
keys_more s no_keys so_far r e = subst (λ (z : Sorted). (HasSome so_far.items → HasSome z.items) × (is_sorted no_keys ≡ true → HasSome z.items)) (ok_is _ _ e) (λ x. x, λ x. absurd (false≢true x))
keys_more s (more_keys a direction nulls keys) so_far r e =
    let next = bound (key_sorted s a (sort_key direction nulls) so_far) (λ (z : Sorted). keys_sorted s keys z) r e in
    let p = bound (key_place s a) (λ (q : KeyPlace). with_key s q (sort_key direction nulls) so_far) next.0 next.1 in
    let one = key_more s p.0 (sort_key direction nulls) so_far next.0 p.2 in
    let rest = keys_more s keys next.0 r next.2 in
    (λ x. rest.0 one, λ x. rest.0 one)

-- ---- the Limit and the Map above it

abbrev IsLimit : PlanTree → Type 0
IsLimit plan = (limit : LimitRule) × (input : PlanTree) × (plan ≡ Over (Limit limit) input)

limited_ends : (items : List SortColumn) (row_limit : Option RowLimit) (plan : PlanTree) → HasSome items → IsLimit (limited items row_limit plan)
limited_ends [] row_limit plan h = absurd (false≢true h)
limited_ends (item ∷ items) None plan h = (_, plan, refl)
limited_ends (item ∷ items) (Some row_limit) plan h = (_, plan, refl)

hidden_ends : (b : Bool) (outputs : List Expression) (plan : PlanTree) → IsLimit plan → EndsInLimit (cond b plan (Over (Map outputs) plan))
hidden_ends true outputs plan (limit, input, is) = (limit, input, inl is)
hidden_ends false outputs plan (limit, input, is) = (limit, input, inr (outputs, λ i. Over (Map outputs) (is i)))

shown_ends : (s : Shown) (order : Keys) (limits : Option Limits) (plan : PlanTree) (l : Lowered) → is_sorted order ≡ true → shown_sorted s order limits plan ≡ Ok l → EndsInLimit l.plan
shown_ends s order limits plan l o e =
    let sorted = bound (keys_sorted s order unsorted) (λ x. row_limit_meant (is_sorted order) limits >>= λ row_limit. Ok (lowered_shown s x row_limit plan)) l e in
    let row_limit = bound (row_limit_meant (is_sorted order) limits) (λ x. Ok (lowered_shown s sorted.0 x plan)) l sorted.2 in
    let below = deduplicated s.distinct (mapped s.below (expressions_of s.outputs) sorted.0.hidden plan) in
    subst (λ (x : Lowered). EndsInLimit x.plan) (ok_is _ _ row_limit.2)
    (hidden_ends (nat_eq (length sorted.0.hidden) 0) (columns_from 0 (length s.outputs)) (limited sorted.0.items row_limit.0 below) (limited_ends sorted.0.items row_limit.0 below ((keys_more s order unsorted sorted.0 sorted.1).1 o)))

-- ---- selects

selected_ends : (scope : ScopeRule) (below : Below) (plan : PlanTree) (windows : List NamedBoundWindow) (parts : Parts) (l : Lowered) → is_sorted parts.tail.order ≡ true → selected scope below plan windows parts ≡ Ok l → EndsInLimit l.plan
selected_ends scope below plan windows parts l o e =
    let shown = λ (outputs : List BoundOutput). shown_by scope below (is_distinct parts.quantifier) outputs in
    let list = bound (list_meant below (record { scope = scope; groups = option_map grouped_rule below.grouped; windows = windows; place = place.SelectList }) parts.items) (λ (x : List BoundOutput). shown_sorted (shown x) parts.tail.order parts.tail.limits plan) l e in
    shown_ends (shown list.0) parts.tail.order parts.tail.limits plan l o list.2

after_ends : (from : JoinedTables) (parts : Parts) (l : Lowered) → is_sorted parts.tail.order ≡ true → after_from from parts ≡ Ok l → EndsInLimit l.plan
after_ends from parts l o e =
    let rest = λ (plan : PlanTree) (grouped : Option GroupedBy) (below : Below). all_defined from.scope (option_map grouped_rule grouped) [] parts.tail.windows >>= λ known. selected from.scope below plan known parts in
    let p = bound (filtered from.scope parts.tail.filter from.plan) (λ plan. grouped_meant from.scope parts >>= λ grouped. below_meant from.scope grouped parts.tail.grouping.having >>= λ below. rest plan grouped below) l e in
    let g = bound (grouped_meant from.scope parts) (λ grouped. below_meant from.scope grouped parts.tail.grouping.having >>= λ below. rest p.0 grouped below) l p.2 in
    let b = bound (below_meant from.scope g.0 parts.tail.grouping.having) (λ below. rest p.0 g.0 below) l g.2 in
    let k = bound (all_defined from.scope (option_map grouped_rule g.0) [] parts.tail.windows) (λ known. selected from.scope b.0 p.0 known parts) l b.2 in
    selected_ends from.scope b.0 p.0 k.0 parts l o k.2

select_ends : (tables : List TableRule) (s : SelectTree) (l : Lowered) → has_order s ≡ true → lowered tables s ≡ Ok l → EndsInLimit l.plan
select_ends tables (select parts first joins) l o e =
    let part = bound (table_meant tables first) (λ p. first_admitted p >>= λ start. joins_meant tables joins start >>= λ from. after_from (together from.before from.current) parts) l e in
    let start = bound (first_admitted part.0) (λ s. joins_meant tables joins s >>= λ from. after_from (together from.before from.current) parts) l part.2 in
    let from = bound (joins_meant tables joins start.0) (λ f. after_from (together f.before f.current) parts) l start.2 in
    after_ends (together from.0.before from.0.current) parts l o from.2

query_ends : (tables : List TableRule) (tree : QueryTree) (l : Lowered) → is_ordered tree ≡ true → lowering tables tree ≡ Ok l → EndsInLimit l.plan
query_ends tables (query s semicolon) l o e = select_ends tables s l o e

pub ordered_end_in_limit : OrderedEndInLimit
ordered_end_in_limit tables tree a e =
    let l = bound (lowering tables tree) (λ (x : Lowered). Ok (record { plan = x.plan; names = map name_in x.columns; ordered = is_ordered tree })) a e in
    subst (λ (x : Answer). x.ordered ≡ true → EndsInLimit x.plan) (ok_is _ _ l.2) (λ o. query_ends tables tree l.0 o l.1)
