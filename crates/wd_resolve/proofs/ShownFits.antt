-- The plan of what a select shows, sorts by and cuts fits, and gives the columns that it says.
use Rattle.std.proofs.Common.{◌≡◌, ◌∙◌, sym, ap, refl, subst, ℕ, ◌+◌, Bool, true, false, cond, not, ◌||◌, List, [], ◌∷◌, ◌++◌, map, length, nat_lt, nat_eq, Option, Some, None, option_map, Ok, arith}
use Rattle.std.proofs.lemmas.Bool.{eqb-true, or_right}
use Rattle.std.proofs.lemmas.List.{append-nil, length-append, length-map, nil_from_length}
use Rattle.wd_schema.specs.Tables.{TableRule}
use Rattle.wd_plan.specs.declared.expression.ValueKind.{ValueKind}
use Rattle.wd_plan.specs.declared.expression.ValueKind.TheVariants.{Truth}
use Rattle.wd_value.specs.declared.order.SortColumn.{SortColumn}
use Rattle.wd_plan.specs.Plans.{PlanTree, Over, Filter, Map}
use Rattle.wd_syntax.specs.declared.query.Count.{Count}
use Rattle.wd_syntax.specs.declared.query.Count.TheVariants as written
use Rattle.wd_syntax.specs.declared.query.Limits.{Limits}
use Rattle.wd_syntax.specs.declared.query.Limits.TheVariants.{OffsetFirst, CountFirst}
use Rattle.wd_syntax.specs.Tree.{Tree, Keys, Parts}
use Rattle.wd_resolve_operand.specs.Causes.{◌>>=◌}
use Rattle.wd_resolve_operand.specs.Operands.{number}
use Rattle.wd_resolve_scope.specs.Resolving.{ContextRule, all_defined, condition}
use Rattle.wd_resolve_scope.specs.Scopes.{ScopeRule}
use Rattle.wd_resolve_call.specs.Windows.{NamedBoundWindow}
use Rattle.wd_resolve_scope.specs.Grouped.{GroupedRule}
use Rattle.wd_resolve_scope.specs.Typed.{AreKnown, readable}
use Rattle.wd_resolve_call.proofs.Meanings.{bound, ok_is}
use Rattle.wd_resolve_scope.specs.declared.context.Place.TheVariants as place
use Rattle.wd_resolve_scope.proofs.TypedPlain.{all_defined_is, condition_is}
use Rattle.wd_resolve.specs.Selected.{JoinedTables}
use Rattle.wd_resolve_list.specs.Grouping.{below_meant, grouped_meant, grouped_rule}
use Rattle.wd_resolve_list.specs.SelectLists.{Below, GroupedBy}
use Rattle.wd_resolve_list.specs.Outputs.{BoundOutput, expressions_of, list_meant}
use Rattle.wd_resolve_select.specs.Sorting.{RowLimit, Shown, Sorted, count_meant, row_limit_meant, fetched, keys_sorted, offset_meant, tied, unsorted}
use Rattle.wd_resolve_select.specs.Steps.{Lowered, columns_from, column_shown, deduplicated, filtered, limited, lowered_shown, mapped, without_hidden}
use Rattle.wd_resolve.specs.Lowering.{after_from, is_distinct, is_sorted, selected, shown_by, shown_sorted}
use Rattle.wd_resolve_select.proofs.PlanKinds.{AreWithin, HasKinds, distinct_is, filter_is, first_columns_is, limit_is, output_kinds, over_plan, scope_kinds}
use Rattle.wd_resolve_list.proofs.TypedBoundExpressions.{AreBoundExpressions, bound_expressions_append, bound_expressions_many}
use Rattle.wd_resolve_list.proofs.GroupedColumns.{AreGrouped, grouped_meant_is}
use Rattle.wd_resolve_select.proofs.StepsFit.{IsBelow, IsCondition, below_is, mapped_is, read_above}
use Rattle.wd_resolve_list.proofs.ListedOutputs.{AreOutputs, IsListed, kinds_shown, list_is, outputs_bound_expressions}
use Rattle.wd_resolve.proofs.SortedShown.{HasSome, IsSorted, keys_sorted_is, read}

-- ---- DISTINCT, limits and hidden sort keys

deduplicated_is : (tables : List TableRule) (distinct : Bool) (plan : PlanTree) (ks : List ValueKind) → HasKinds tables plan ks → HasKinds tables (deduplicated distinct plan) ks
deduplicated_is tables false plan ks h = h
deduplicated_is tables true plan ks h = distinct_is tables plan ks h

-- WITH TIES stands only where there is an order
abbrev IsCut : Bool → Option RowLimit → Type 0
IsCut sorted None = Unit {0}
IsCut sorted (Some row_limit) = (not row_limit.ties || sorted) ≡ true

tied_is : (sorted with_ties : Bool) (n : ℕ) (x : Option ℕ × Bool) → tied sorted with_ties n ≡ Ok x → (not x.1 || sorted) ≡ true
tied_is true with_ties n x h = or_right _ _ refl
tied_is false true n x h = cc
tied_is false false n x h = subst (λ (y : Option ℕ × Bool). (not y.1 || false) ≡ true) (ok_is _ _ h) refl

count_is : (sorted : Bool) (count : Option Count) (x : Option ℕ × Bool) → count_meant sorted count ≡ Ok x → (not x.1 || sorted) ≡ true
count_is sorted None x h = subst (λ (y : Option ℕ × Bool). (not y.1 || sorted) ≡ true) (ok_is _ _ h) refl
count_is sorted (Some (written.Limit n)) x h =
    let m = bound (number n) (λ k. Ok (Some k, false)) x h in
    subst (λ (y : Option ℕ × Bool). (not y.1 || sorted) ≡ true) (ok_is _ _ m.2) refl
count_is sorted (Some (written.Fetch word n row with_ties)) x h =
    let m = bound (number (fetched n)) (λ k. tied sorted with_ties k) x h in
    tied_is sorted with_ties m.0 x m.2

row_limit_is : (sorted : Bool) (limits : Option Limits) (row_limit : Option RowLimit) → row_limit_meant sorted limits ≡ Ok row_limit → IsCut sorted row_limit
row_limit_is sorted None row_limit h = subst (IsCut sorted) (ok_is _ _ h) tt
row_limit_is sorted (Some (OffsetFirst o c)) row_limit h =
    let made = λ (offset : ℕ) (x : Option ℕ × Bool). Ok (Some (record { offset = offset; count = x.0; ties = x.1 })) in
    let n = bound (number o.number) (λ offset. count_meant sorted c >>= λ x. made offset x) row_limit h in
    let x = bound (count_meant sorted c) (λ y. made n.0 y) row_limit n.2 in
    subst (IsCut sorted) (ok_is _ _ x.2) (count_is sorted c x.0 x.1)
row_limit_is sorted (Some (CountFirst c o)) row_limit h =
    let made = λ (offset : ℕ) (x : Option ℕ × Bool). Ok (Some (record { offset = offset; count = x.0; ties = x.1 })) in
    let x = bound (count_meant sorted (Some c)) (λ y. offset_meant o >>= λ offset. made offset y) row_limit h in
    let n = bound (offset_meant o) (λ offset. made offset x.0) row_limit x.2 in
    subst (IsCut sorted) (ok_is _ _ n.2) (count_is sorted (Some c) x.0 x.1)

ties_with : (ties sorted : Bool) (items : List SortColumn) → (not ties || sorted) ≡ true → (sorted ≡ true → HasSome items) → (not ties || nat_lt 0 (length items)) ≡ true
ties_with false sorted items h f = refl
ties_with true sorted items h f = f h

limited_is : (tables : List TableRule) (sorted : Bool) (items : List SortColumn) (row_limit : Option RowLimit) (plan : PlanTree) (ks : List ValueKind) → HasKinds tables plan ks → AreWithin (length ks) items → IsCut sorted row_limit → (sorted ≡ true → HasSome items) → HasKinds tables (limited items row_limit plan) ks
limited_is tables sorted [] None plan ks h within is some = h
limited_is tables sorted (item ∷ items) None plan ks h within is some = limit_is tables (record { keys = item ∷ items; offset = 0; count = None; ties = false }) plan ks h within refl
limited_is tables sorted [] (Some row_limit) plan ks h within is some = limit_is tables (record { keys = []; offset = row_limit.offset; count = row_limit.count; ties = row_limit.ties }) plan ks h within (ties_with row_limit.ties sorted [] is some)
limited_is tables sorted (item ∷ items) (Some row_limit) plan ks h within is some = limit_is tables (record { keys = item ∷ items; offset = row_limit.offset; count = row_limit.count; ties = row_limit.ties }) plan ks h within (ties_with row_limit.ties sorted (item ∷ items) is some)

without_hidden_is : (tables : List TableRule) (outputs hidden : ℕ) (plan : PlanTree) (ks ls : List ValueKind) → HasKinds tables plan (ks ++ ls) → outputs ≡ length ks → hidden ≡ length ls → HasKinds tables (without_hidden outputs hidden plan) ks
without_hidden_is tables outputs hidden plan ks ls h same many = by (nat_eq hidden 0) refl
  where
    by : (b : Bool) → nat_eq hidden 0 ≡ b → HasKinds tables (cond b plan (Over (Map (columns_from 0 outputs)) plan)) ks
    by true e =
        let none = eqb-true hidden 0 e in
        let nil : ls ≡ [] = nil_from_length ls (omega arith) in
        subst (HasKinds tables plan) (ap (λ xs. ks ++ xs) nil ∙ append-nil ks) h
    by false e = subst (λ n. HasKinds tables (Over (Map (columns_from 0 n)) plan) ks) (sym same) (first_columns_is tables plan ks ls h)

-- ---- the whole

-- a plan that fits, and gives the columns that it says
abbrev pub IsLowered : List TableRule → Lowered → Type 0
IsLowered tables l = HasKinds tables l.plan (output_kinds l.columns)

columns_shown_are : (outputs : List BoundOutput) → kinds_shown outputs ≡ output_kinds (map column_shown outputs)
columns_shown_are [] = refl
columns_shown_are (o ∷ outputs) = ap (λ ks. o.kind ∷ ks) (columns_shown_are outputs)

-- what is shown stands over what is meant to stand below its windows
pub record IsShownOver (s : Shown) : Type 0 where
  pub groups : s.groups ≡ option_map grouped_rule s.below.grouped
  pub grouped : AreGrouped s.scope s.below.grouped
  pub condition : IsCondition (read_above s.scope s.below) s.below.having

lowered_shown_is : (tables : List TableRule) (plan : PlanTree) (s : Shown) (sorted : Sorted) (order : Bool) (row_limit : Option RowLimit) → HasKinds tables plan (scope_kinds s.scope) → IsShownOver s → AreOutputs (read s) s.outputs
    → IsSorted s sorted → IsCut order row_limit → (order ≡ true → HasSome sorted.items) → IsLowered tables (lowered_shown s sorted row_limit plan)
lowered_shown_is tables plan s sorted order row_limit h over outputs is cuts some =
    let ks = kinds_shown s.outputs in
    let hs = is.kinds in
    let shown = expressions_of s.outputs in
    let mapping = mapped s.below shown sorted.hidden plan in
    let are = bound_expressions_append (read s) shown sorted.hidden ks hs (outputs_bound_expressions (read s) s.outputs outputs) is.hidden_are in
    let kinds_long : length ks ≡ length s.outputs = length-map s.outputs (λ (o : BoundOutput). o.kind) in
    let hidden_long = bound_expressions_many (read s) sorted.hidden hs is.hidden_are in
    let all_long = length-append ks hs in
    let whole : length s.outputs + length sorted.hidden ≡ length (ks ++ hs) = omega arith in
    let map_step = mapped_is tables plan s.scope h shown sorted.hidden (ks ++ hs) s.below over.grouped over.condition (subst (λ (g : Option GroupedRule). AreBoundExpressions (readable s.scope g) (shown ++ sorted.hidden) (ks ++ hs)) over.groups are) is.narrow in
    let distinct_step = deduplicated_is tables s.distinct mapping (ks ++ hs) map_step in
    let limit_step = limited_is tables order sorted.items row_limit (deduplicated s.distinct mapping) (ks ++ hs) distinct_step (subst (λ n. AreWithin n sorted.items) whole is.items_are) cuts some in
    subst (HasKinds tables (lowered_shown s sorted row_limit plan).plan) (columns_shown_are s.outputs)
    (without_hidden_is tables (length s.outputs) (length sorted.hidden) (limited sorted.items row_limit (deduplicated s.distinct mapping)) ks hs limit_step (sym kinds_long) hidden_long)

-- no sort keys yet
unsorted_is : (s : Shown) → IsListed s.below (read s) s.outputs → IsSorted s unsorted
unsorted_is s h = record { items_are = tt; kinds = []; hidden_are = tt; narrow = h.narrow }

shown_sorted_is : (tables : List TableRule) (plan : PlanTree) (s : Shown) (order : Keys) (limits : Option Limits) (l : Lowered) → HasKinds tables plan (scope_kinds s.scope) → IsShownOver s → IsListed s.below (read s) s.outputs
    → shown_sorted s order limits plan ≡ Ok l → IsLowered tables l
shown_sorted_is tables plan s order limits l h over is e =
    let sorted = bound (keys_sorted s order unsorted) (λ x. row_limit_meant (is_sorted order) limits >>= λ row_limit. Ok (lowered_shown s x row_limit plan)) l e in
    let row_limit = bound (row_limit_meant (is_sorted order) limits) (λ x. Ok (lowered_shown s sorted.0 x plan)) l sorted.2 in
    let keys = keys_sorted_is s order unsorted sorted.0 (unsorted_is s is) sorted.1 in
    subst (IsLowered tables) (ok_is _ _ row_limit.2) (lowered_shown_is tables plan s sorted.0 (is_sorted order) row_limit.0 h over is.outputs_are keys.0 (row_limit_is (is_sorted order) limits row_limit.0 row_limit.1) keys.2)

selected_is : (tables : List TableRule) (scope : ScopeRule) (below : Below) (plan : PlanTree) (windows : List NamedBoundWindow) (parts : Parts) (l : Lowered) → HasKinds tables plan (scope_kinds scope)
    → AreGrouped scope below.grouped → IsBelow scope below → AreKnown (read_above scope below) windows → selected scope below plan windows parts ≡ Ok l → IsLowered tables l
selected_is tables scope below plan windows parts l h grouped is known e =
    let c : ContextRule = record { scope = scope; groups = option_map grouped_rule below.grouped; windows = windows; place = place.SelectList } in
    let shown = λ (outputs : List BoundOutput). shown_by scope below (is_distinct parts.quantifier) outputs in
    let list = bound (list_meant below c parts.items) (λ (x : List BoundOutput). shown_sorted (shown x) parts.tail.order parts.tail.limits plan) l e in
    shown_sorted_is tables plan (shown list.0) parts.tail.order parts.tail.limits l h (record { groups = refl; grouped = grouped; condition = is.condition }) (list_is below c parts.items list.0 known is.narrow list.1) list.2

filtered_is : (tables : List TableRule) (scope : ScopeRule) (filter : Option Tree) (plan next : PlanTree) → HasKinds tables plan (scope_kinds scope) → filtered scope filter plan ≡ Ok next → HasKinds tables next (scope_kinds scope)
filtered_is tables scope None plan next h e = subst (λ p. HasKinds tables p (scope_kinds scope)) (ok_is _ _ e) h
filtered_is tables scope (Some a) plan next h e =
    let x = bound (condition place.Where scope a) (λ y. Ok (Over (Filter y) plan)) next e in
    subst (λ p. HasKinds tables p (scope_kinds scope)) (ok_is _ _ x.2) (filter_is tables x.0 plan (scope_kinds scope) h (over_plan tables plan scope x.0 Truth h (condition_is place.Where scope a x.0 x.1)))

pub after_from_is : (tables : List TableRule) (from : JoinedTables) (parts : Parts) (l : Lowered) → HasKinds tables from.plan (scope_kinds from.scope)
    → after_from from parts ≡ Ok l → IsLowered tables l
after_from_is tables from parts l h e =
    let rest = λ (plan : PlanTree) (grouped : Option GroupedBy) (below : Below). all_defined from.scope (option_map grouped_rule grouped) [] parts.tail.windows >>= λ known. selected from.scope below plan known parts in
    let p = bound (filtered from.scope parts.tail.filter from.plan) (λ plan. grouped_meant from.scope parts >>= λ grouped. below_meant from.scope grouped parts.tail.grouping.having >>= λ below. rest plan grouped below) l e in
    let g = bound (grouped_meant from.scope parts) (λ grouped. below_meant from.scope grouped parts.tail.grouping.having >>= λ below. rest p.0 grouped below) l p.2 in
    let b = bound (below_meant from.scope g.0 parts.tail.grouping.having) (λ below. rest p.0 g.0 below) l g.2 in
    let k = bound (all_defined from.scope (option_map grouped_rule g.0) [] parts.tail.windows) (λ known. selected from.scope b.0 p.0 known parts) l b.2 in
    let is = below_is from.scope g.0 parts.tail.grouping.having b.0 b.1 in
    let known = all_defined_is from.scope (option_map grouped_rule g.0) [] parts.tail.windows k.0 tt k.1 in
    selected_is tables from.scope b.0 p.0 k.0 parts l (filtered_is tables from.scope parts.tail.filter from.plan p.0 h p.1)
    (subst (AreGrouped from.scope) is.0 (grouped_meant_is from.scope parts g.0 g.1)) is.1
    (subst (λ (x : Option GroupedBy). AreKnown (readable from.scope (option_map grouped_rule x)) k.0) is.0 known) k.2
