-- A query of the plain class has a plain plan.
use Rattle.std.proofs.Common.{◌≡◌, ◌≢◌, ◌⊎◌, inl, inr, ℕ, zero, suc, ◌+◌, ◌<◌, Bool, true, false, cond, ◌&&◌, ◌||◌, AllPairs, List, [], ◌∷◌, ◌++◌, append_assoc, filter, get_or, length, map, nat_eq, option_map, refl, sym, ◌∙◌, ap, subst, arith, true≢false, Option, None, Some, Ok, Err, slice_get}
use Rattle.std.specs.List.{AllByRecursion, Contains, list_any, position_or_len}
use Rattle.std.specs.Cmp.{booleans_Decides}
use Rattle.std.proofs.lemmas.Bool.{eq-eqb, eqb-true}
use Rattle.std.proofs.lemmas.List.{append-nil, length-map, map-append}
use Rattle.std.proofs.lemmas.Option.{slice_get_within}
use lib.Pointwise.{pointwise}
use Rattle.wd_read_cursor.specs.declared.name.Name.{Name}
use Rattle.wd_syntax.specs.declared.query.Alias.{Alias}
use Rattle.wd_syntax.specs.declared.query.Quantifier.{Quantifier}
use Rattle.wd_syntax.specs.Tree as tree
use Rattle.wd_syntax.specs.Tree.{ItemTree, OverTree, WindowTree, all_columns, all_of, no_keys, no_over, no_trees, over_name, over_window, shown}
use Rattle.wd_value.specs.declared.order.SortColumn.{SortColumn}
use Rattle.wd_value.specs.Keys.{key_columns}
use Rattle.wd_schema.specs.Tables.{TableRule}
use Rattle.wd_plan.specs.Expressions.{Column}
use Rattle.wd_plan.specs.Plans.{Over, ClassRule, Scan, Map, Window}
use Rattle.wd_plan.specs.Sorting.{class_columns, order_columns}
use Rattle.wd_plan.specs.declared.function.Function.TheVariants.{Ranking as Ranked}
use Rattle.wd_plan.specs.declared.function.FunctionName.TheVariants.{RowNumber}
use Rattle.wd_plan.specs.declared.function.Ranking.TheVariants as rank
use Rattle.wd_resolve_operand.specs.declared.cause.Cause.TheVariants.{TooMany, UnknownTable}
use Rattle.wd_resolve_operand.specs.Causes.{Meant, ◌>>=◌}
use Rattle.wd_resolve_operand.specs.BoundExpressions.{BoundExpression, Reference, Literal, Negate, Arithmetic, Compare, Not, And, Or, IsNull, IsNotNull, Case, rebased}
use Rattle.wd_resolve_operand.specs.Operands.{Operand, settled}
use Rattle.wd_resolve_call.specs.Calls.{BoundCall, ranking, same_call}
use Rattle.wd_resolve_call.specs.Functions.{GroupFunction, function_named, group_function_named}
use Rattle.wd_resolve_scope.specs.Grouped.{is_grouped}
use Rattle.wd_resolve_call.specs.References.{SelectReference, call, of_row}
use Rattle.wd_resolve_scope.specs.Names.{the_only}
use Rattle.wd_resolve_scope.specs.Resolving.{ContextRule, call_over, called, group_called, resolved, window_resolved}
use Rattle.wd_resolve_call.specs.Rows.{RowExpression, column, of_group, same_group_call, same_row_expression}
use Rattle.wd_resolve_scope.specs.Grouped.{column_meant}
use Rattle.wd_resolve_scope.specs.Scopes.{ScopeRule, carries, has_table, numbered}
use Rattle.wd_resolve_call.specs.Windows.{BoundKey, NamedBoundWindow, BoundWindow, window_named}
use Rattle.wd_resolve_scope.specs.declared.scope.ScopeColumn.{ScopeColumn}
use Rattle.wd_resolve_call.proofs.Meanings.{bound, ok_is}
use Rattle.wd_resolve_list.specs.Grouping.{below_meant, grouped_rule, no_groups}
use Rattle.wd_resolve_list.specs.SelectLists.{Below, GroupedBy, ProjectedInputs, all_references, all_row_references, are_wide, calls_among, column_of, group_calls_among, input_number, projected_of, over, place_in, read_by, read_by_all, sorted_by, with_new}
use Rattle.wd_resolve_list.specs.Outputs.{BoundOutput, column_output, columns_of, columns_shown, expressions_of, is_of, item_listed, item_meant, listed, narrow, output_meant, name_shown, table_shown}
use Rattle.wd_resolve_select.specs.Steps.{class_over, mapped, mapped_over, order_item, same_class, same_item, window_over}
use Rattle.wd_resolve_list.proofs.Among.{all_with_new, first_there}
use Rattle.wd_resolve_list.proofs.ReadBy.{same_call-itself}
use Rattle.wd_resolve_operand.specs.declared.cause.Cause.TheVariants.{Ambiguous}
use Rattle.wd_resolve_scope.specs.Resolving.{all_defined}
use Rattle.wd_resolve_scope.specs.Scopes.{beside}
use Rattle.wd_resolve_list.specs.Outputs.{list_meant}
use Rattle.wd_resolve_select.specs.Steps.{Lowered, deduplicated}
use Rattle.wd_resolve.specs.Answers.{Answer, answer, name_in}
use Rattle.wd_resolve.specs.Lowering.{after_from, is_distinct, lowered, selected, shown_by, shown_sorted}
use Rattle.wd_resolve.specs.Selected.{FromSoFar, JoinedTables, admitted, called as called_by, first_admitted, is_too_large, named_table, scan, scan_at, table_number, together}
use Rattle.wd_syntax.specs.Tree.{Parts, named, no_joins, select}
use Rattle.wd_complete.specs.QueryLaws.{QueriesArePlain}
use Rattle.wd_complete.specs.Plain.{IsPlain, PlainPlan, plan_by, window_rule}
use Rattle.wd_complete.specs.Queries.{IsColumn, IsPlainItem, IsPlainWindow, in_list, over_meant, plain_parts}
use Rattle.wd_complete.proofs.Lists.{Among, all_at, all_from, among_back, among_front, among_get, among_map, contains_from}
use Rattle.wd_complete.proofs.Reached.{one_place}
use Rattle.wd_complete.proofs.Tried.{among_parts}

-- ---- the outputs

-- columns of FROM by these numbers
abbrev read_of : ℕ → SelectReference
read_of n = of_row (column n)

abbrev reference_of : ℕ → BoundExpression SelectReference
reference_of n = Reference (read_of n)

-- what stands below the windows of a select that is not grouped
abbrev not_grouped : Below
not_grouped = record { grouped = None; having = None }

record AreColumns (outputs : List BoundOutput) : Type 0 where
  numbers : List ℕ
  are : expressions_of outputs ≡ map reference_of numbers

both_columns : (xs ys : List BoundOutput) → AreColumns xs → AreColumns ys → AreColumns (xs ++ ys)
both_columns xs ys a b = record {
  numbers = a.numbers ++ b.numbers;
  are = map-append (λ (o : BoundOutput). o.expression) xs ys ∙ (λ i. a.are i ++ b.are i) ∙ sym (map-append reference_of a.numbers b.numbers);
}

of_scope : (xs : List (ℕ × ScopeColumn)) (more : List BoundOutput) → columns_shown None xs ≡ Ok more → AreColumns more
of_scope [] more h = subst AreColumns (ok_is _ _ h) (record { numbers = []; are = refl })
of_scope (x ∷ xs) more h =
    let later = bound (columns_shown None xs) (λ outputs. Ok (column_output x ∷ outputs)) more h in
    let r = of_scope xs later.0 later.1 in
    subst AreColumns (ok_is _ _ later.2) (record { numbers = x.0 ∷ r.numbers; are = ap (λ l. reference_of x.0 ∷ l) r.are })

module _ (scope : ScopeRule) (known : List NamedBoundWindow) where
  abbrev c : ContextRule
  c = in_list scope known

  by_only : (xs : List (ℕ × ScopeColumn)) (name : List ℕ) (more : List BoundOutput) → ((the_only xs >>= λ x. column_meant None x) >>= λ x. Ok (output_meant name x ∷ [])) ≡ Ok more → AreColumns more
  by_only [] name more h = absurd cc
  by_only (x ∷ []) name more h = subst AreColumns (ok_is _ _ h) (record { numbers = x.0 ∷ []; are = refl })
  by_only (x ∷ y ∷ xs) name more h = absurd cc

  by_table : (table : List ℕ) (more : List BoundOutput) → table_shown None scope table ≡ Ok more → AreColumns more
  by_table table more h = by (has_table scope table) h
    where
      by : (b : Bool) → cond b (columns_of None scope (Some table)) (Err UnknownTable) ≡ Ok more → AreColumns more
      by true e = of_scope (filter (λ x. is_of (Some table) x.1) (numbered scope.columns)) more e
      by false e = absurd cc

  plain_item : (item : ItemTree) (more : List BoundOutput) → IsPlainItem item → item_meant c item ≡ Ok more → AreColumns more
  plain_item all_columns more is h = of_scope (filter (λ x. is_of None x.1) (numbered scope.columns)) more h
  plain_item (all_of table) more is h = by_table table.text more h
  plain_item (shown (tree.Column name) alias) more is h = by_only (filter (λ x. carries None name.text x.1) (numbered scope.columns)) (name_shown (tree.Column name) alias) more h
  plain_item (shown (tree.Qualified table name) alias) more is h = by_only (filter (λ x. carries (Some table.text) name.text x.1) (numbered scope.columns)) (name_shown (tree.Qualified table name) alias) more h
  plain_item (shown a alias) more is h = absurd is

  narrow_is : (outputs all : List BoundOutput) → narrow not_grouped outputs ≡ Ok all → all ≡ outputs
  narrow_is outputs all h = by (are_wide not_grouped (expressions_of outputs) []) h
    where
      by : (b : Bool) → cond b (Err TooMany) (Ok outputs) ≡ Ok all → all ≡ outputs
      by true e = absurd cc
      by false e = sym (ok_is _ _ e)

  record IsListed (items : List ItemTree) (outputs all : List BoundOutput) : Type 0 where
    more : List BoundOutput
    is : all ≡ outputs ++ more
    columns : AreColumns more

  plain_items : (items : List ItemTree) (outputs all : List BoundOutput) → AllByRecursion IsPlainItem items → listed not_grouped c items outputs ≡ Ok all → IsListed items outputs all
  plain_items [] outputs all is h = record { more = []; is = sym (ok_is _ _ h) ∙ sym (append-nil outputs); columns = record { numbers = []; are = refl } }
  plain_items (item ∷ items) outputs all is h =
      let first = bound (item_listed not_grouped c item outputs) (λ next. listed not_grouped c items next) all h in
      let one = bound (item_meant c item) (λ more. narrow not_grouped (outputs ++ more)) first.0 first.1 in
      let next : first.0 ≡ outputs ++ one.0 = narrow_is (outputs ++ one.0) first.0 one.2 in
      let rest = plain_items items first.0 all is.1 first.2 in
      record {
        more = one.0 ++ rest.more;
        is = rest.is ∙ ap (λ l. l ++ rest.more) next ∙ append_assoc outputs one.0 rest.more;
        columns = both_columns one.0 rest.more (plain_item item one.0 is.0 one.1) rest.columns;
      }

  listed_parts : (xs ys : List ItemTree) (outputs all : List BoundOutput) → listed not_grouped c (xs ++ ys) outputs ≡ Ok all → (mid : List BoundOutput) × (listed not_grouped c xs outputs ≡ Ok mid) × (listed not_grouped c ys mid ≡ Ok all)
  listed_parts [] ys outputs all h = (outputs, refl, h)
  listed_parts (x ∷ xs) ys outputs all h =
      let first = bound (item_listed not_grouped c x outputs) (λ next. listed not_grouped c (xs ++ ys) next) all h in
      let rest = listed_parts xs ys first.0 all first.2 in
      (rest.0, ap (λ (m : Meant (List BoundOutput)). m >>= λ next. listed not_grouped c xs next) first.1 ∙ rest.1, rest.2)

  -- the output of the call
  record IsNumber (over : OverTree) (more : List BoundOutput) : Type 0 where
    window : BoundWindow
    means : over_meant c over ≡ Ok window
    is : expressions_of more ≡ Reference (call (record { function = ranking rank.RowNumber; window = window })) ∷ []

  called_is : (function : Name) (w : BoundWindow) (x : Operand SelectReference) → function_named function.text ≡ Some RowNumber → called function (Some []) w ≡ Ok x → settled x ≡ Reference (call (record { function = ranking rank.RowNumber; window = w }))
  called_is function w x word_is h = let e = rw word_is at h in ap settled (sym (ok_is _ _ e))

  -- a call that has a meaning stands with OVER, as the select is not grouped
  over_is : (function : Name) (over : OverTree) (x : Operand SelectReference) → call_over c function (Some []) over ≡ Ok x → (w : BoundWindow) × (over_meant c over ≡ Ok w) × (called function (Some []) w ≡ Ok x)
  over_is function no_over x h = by (group_function_named function.text) h
    where
      by : (o : Option GroupFunction) → group_called c o (Some []) ≡ Ok x → (w : BoundWindow) × (over_meant c no_over ≡ Ok w) × (called function (Some []) w ≡ Ok x)
      by None e = absurd cc
      by (Some f) e = absurd cc
  over_is function (over_name name) x h = bound (window_named known name.text) (λ w. called function (Some []) w) x h
  over_is function (over_window w) x h = bound (window_resolved c w) (λ meaning. called function (Some []) meaning) x h

  number_item : (function : Name) (over : OverTree) (alias : Option Alias) (more : List BoundOutput) → function_named function.text ≡ Some RowNumber → item_meant c (shown (tree.Call function no_trees over) alias) ≡ Ok more → IsNumber over more
  number_item function over alias more word_is h =
      let x = bound (resolved c (tree.Call function no_trees over)) (λ x. Ok (output_meant (name_shown (tree.Call function no_trees over) alias) x ∷ [])) more h in
      let w = over_is function over x.0 x.1 in
      record {
        window = w.0;
        means = w.1;
        is = ap expressions_of (sym (ok_is _ _ x.2)) ∙ ap (λ (f : BoundExpression SelectReference). f ∷ []) (called_is function w.0 x.0 word_is w.2);
      }

  -- columns, the number, and columns
  record AreNumbered (over : OverTree) (all : List BoundOutput) : Type 0 where
    before : List ℕ
    window : BoundWindow
    means : over_meant c over ≡ Ok window
    after : List ℕ
    are : expressions_of all ≡ map reference_of before ++ Reference (call (record { function = ranking rank.RowNumber; window = window })) ∷ map reference_of after

  numbered_list : (before : List ItemTree) (function : Name) (over : OverTree) (alias : Option Alias) (after : List ItemTree) (all : List BoundOutput)
      → AllByRecursion IsPlainItem before → AllByRecursion IsPlainItem after → function_named function.text ≡ Some RowNumber
      → listed not_grouped c (before ++ shown (tree.Call function no_trees over) alias ∷ after) [] ≡ Ok all → AreNumbered over all
  numbered_list before function over alias after all plain_before plain_after word_is h =
      let parts = listed_parts before (shown (tree.Call function no_trees over) alias ∷ after) [] all h in
      let front = plain_items before [] parts.0 plain_before parts.1 in
      let item = shown (tree.Call function no_trees over) alias in
      let second = bound (item_listed not_grouped c item parts.0) (λ next. listed not_grouped c after next) all parts.2 in
      let one = bound (item_meant c item) (λ more. narrow not_grouped (parts.0 ++ more)) second.0 second.1 in
      let next : second.0 ≡ parts.0 ++ one.0 = narrow_is (parts.0 ++ one.0) second.0 one.2 in
      let number = number_item function over alias one.0 word_is one.1 in
      let back = plain_items after second.0 all plain_after second.2 in
      let e1 : expressions_of parts.0 ≡ map reference_of front.columns.numbers = ap expressions_of front.is ∙ front.columns.are in
      let e2 : expressions_of second.0 ≡ map reference_of front.columns.numbers ++ Reference (call (record { function = ranking rank.RowNumber; window = number.window })) ∷ [] =
      ap expressions_of next ∙ map-append (λ (o : BoundOutput). o.expression) parts.0 one.0 ∙ (λ i. e1 i ++ number.is i) in
      let e3 = ap expressions_of back.is ∙ map-append (λ (o : BoundOutput). o.expression) second.0 back.more ∙ (λ i. e2 i ++ back.columns.are i)
      ∙ append_assoc (map reference_of front.columns.numbers) (Reference (call (record { function = ranking rank.RowNumber; window = number.window })) ∷ []) (map reference_of back.columns.numbers) in
      record { before = front.columns.numbers; window = number.window; means = number.means; after = back.columns.numbers; are = e3 }

-- ---- what the outputs read

-- columns and one call, as references
abbrev references_by : List ℕ → BoundCall → List ℕ → List SelectReference
references_by before k after = map read_of before ++ call k ∷ map read_of after

reference_map : (before : List ℕ) (k : BoundCall) (after : List ℕ) → map reference_of before ++ Reference (call k) ∷ map reference_of after ≡ map Reference (references_by before k after)
reference_map before k after = (λ i. each before i ++ Reference (call k) ∷ each after i) ∙ sym (map-append Reference (map read_of before) (call k ∷ map read_of after))
  where
    each : (ns : List ℕ) → map reference_of ns ≡ map Reference (map read_of ns)
    each [] = refl
    each (n ∷ ns) = ap (λ l. reference_of n ∷ l) (each ns)

all_references_are : (ls : List SelectReference) → all_references (map Reference ls) ≡ ls
all_references_are [] = refl
all_references_are (l ∷ ls) = ap (λ xs. l ∷ xs) (all_references_are ls)

no_calls : (ns : List ℕ) → calls_among (map read_of ns) ≡ []
no_calls [] = refl
no_calls (n ∷ ns) = no_calls ns

one_call : (before : List ℕ) (k : BoundCall) (after : List ℕ) → calls_among (references_by before k after) ≡ k ∷ []
one_call [] k after = ap (λ l. k ∷ l) (no_calls after)
one_call (n ∷ before) k after = one_call before k after

-- a column of FROM as an expression over rows
abbrev row_of : ℕ → RowExpression
row_of n = Reference (column n)

columns_read : (ns : List ℕ) → read_by_all (map read_of ns) ≡ map row_of ns
columns_read [] = refl
columns_read (n ∷ ns) = ap (λ l. row_of n ∷ l) (columns_read ns)

-- columns are no calls over groups
no_group_calls : (ns : List ℕ) → group_calls_among (all_row_references (map row_of ns)) ≡ []
no_group_calls [] = refl
no_group_calls (n ∷ ns) = no_group_calls ns

-- they stand where FROM has them
rows_rebased : (ns : List ℕ) → map (rebased column_of) (map row_of ns) ≡ map Column ns
rows_rebased [] = refl
rows_rebased (n ∷ ns) = ap (λ l. Column n ∷ l) (rows_rebased ns)

read_append : (xs ys : List SelectReference) → read_by_all (xs ++ ys) ≡ read_by_all xs ++ read_by_all ys
read_append [] ys = refl
read_append (x ∷ xs) ys = ap (λ l. read_by x ++ l) (read_append xs ys) ∙ sym (append_assoc (read_by x) (read_by_all xs) (read_by_all ys))

-- expressions that are columns
record HasNumbers (es : List RowExpression) : Type 0 where
  numbers : List ℕ
  are : es ≡ map row_of numbers

one_column : (f : RowExpression) → IsColumn f → (n : ℕ) × (f ≡ row_of n)
one_column (Reference (column c)) is = (c, refl)
one_column (Reference (of_group g)) is = absurd is
one_column (Literal v kind) is = absurd is
one_column (Negate a) is = absurd is
one_column (Arithmetic op a b) is = absurd is
one_column (Compare op a b) is = absurd is
one_column (Not a) is = absurd is
one_column (And a b) is = absurd is
one_column (Or a b) is = absurd is
one_column (IsNull a) is = absurd is
one_column (IsNotNull a) is = absurd is
one_column (Case branch a b c) is = absurd is

has_numbers : (es : List RowExpression) → AllByRecursion IsColumn es → HasNumbers es
has_numbers [] is = record { numbers = []; are = refl }
has_numbers (e ∷ es) is =
    let one = one_column e is.0 in
    let rest = has_numbers es is.1 in
    record { numbers = one.0 ∷ rest.numbers; are = λ i. one.1 i ∷ rest.are i }

keys_plain : (keys : List BoundKey) → AllByRecursion (λ (key : BoundKey). IsColumn key.expression) keys → AllByRecursion IsColumn (map sorted_by keys)
keys_plain [] is = tt
keys_plain (key ∷ keys) is = (is.0, keys_plain keys is.1)

-- ---- the columns that are read, each once

with_columns : (seen ns : List ℕ) → with_new same_row_expression (map row_of seen) (map row_of ns) ≡ map row_of (with_new nat_eq seen ns)
with_columns seen [] = refl
with_columns seen (n ∷ ns) =
    ap (λ l. with_new same_row_expression l (map row_of ns)) (next (list_any (same_row_expression (row_of n)) (map row_of seen)) (there seen)) ∙ with_columns (cond (list_any (nat_eq n) seen) seen (seen ++ n ∷ [])) ns
  where
    there : (xs : List ℕ) → list_any (same_row_expression (row_of n)) (map row_of xs) ≡ list_any (nat_eq n) xs
    there [] = refl
    there (x ∷ xs) = ap (λ b. nat_eq n x || b) (there xs)

    next : (b : Bool) → b ≡ list_any (nat_eq n) seen → cond b (map row_of seen) (map row_of seen ++ row_of n ∷ []) ≡ map row_of (cond (list_any (nat_eq n) seen) seen (seen ++ n ∷ []))
    next b e = ap (λ c. cond c (map row_of seen) (map row_of seen ++ row_of n ∷ [])) e ∙ by (list_any (nat_eq n) seen)
      where
        by : (c : Bool) → cond c (map row_of seen) (map row_of seen ++ row_of n ∷ []) ≡ map row_of (cond c seen (seen ++ n ∷ []))
        by true = refl
        by false = sym (map-append row_of seen (n ∷ []))

-- no element stands twice
abbrev Once : List ℕ → Type 0
Once [] = Unit {0}
Once (x ∷ xs) = (list_any (nat_eq x) xs ≡ false) × Once xs

any_append : (n : ℕ) (xs : List ℕ) (y : ℕ) → list_any (nat_eq n) xs ≡ false → nat_eq n y ≡ false → list_any (nat_eq n) (xs ++ y ∷ []) ≡ false
any_append n [] y e f = ap (λ b. b || false) f
any_append n (x ∷ xs) y e f = by (nat_eq n x) e (any_append n xs y)
  where
    by : (b : Bool) → (b || list_any (nat_eq n) xs) ≡ false → (list_any (nat_eq n) xs ≡ false → nat_eq n y ≡ false → list_any (nat_eq n) (xs ++ y ∷ []) ≡ false) → (b || list_any (nat_eq n) (xs ++ y ∷ [])) ≡ false
    by true g later = absurd (true≢false g)
    by false g later = later g f

not_either : (a b : Bool) → (a || b) ≡ false → (a ≡ false) × (b ≡ false)
not_either true b e = absurd (true≢false e)
not_either false b e = (refl, e)

nat_apart : (x n : ℕ) → nat_eq n x ≡ false → nat_eq x n ≡ false
nat_apart x n e = by (nat_eq x n) refl
  where
    by : (b : Bool) → nat_eq x n ≡ b → nat_eq x n ≡ false
    by false f = f
    by true f = absurd (true≢false (sym (eq-eqb n x (sym (eqb-true x n f))) ∙ e))

once_more : (xs : List ℕ) (n : ℕ) → Once xs → list_any (nat_eq n) xs ≡ false → Once (xs ++ n ∷ [])
once_more [] n o e = (refl, tt)
once_more (x ∷ xs) n o e =
    let p = not_either (nat_eq n x) (list_any (nat_eq n) xs) e in
    (any_append x xs n o.0 (nat_apart x n p.0), once_more xs n o.1 p.1)

with_new_once : (seen ns : List ℕ) → Once seen → Once (with_new nat_eq seen ns)
with_new_once seen [] o = o
with_new_once seen (n ∷ ns) o = with_new_once (cond (list_any (nat_eq n) seen) seen (seen ++ n ∷ [])) ns (by (list_any (nat_eq n) seen) refl)
  where
    by : (b : Bool) → list_any (nat_eq n) seen ≡ b → Once (cond b seen (seen ++ n ∷ []))
    by true e = o
    by false e = once_more seen n o e

not_there : (n : ℕ) (xs : List ℕ) (k d : ℕ) → list_any (nat_eq n) xs ≡ false → k < length xs → n ≢ get_or xs k d
not_there n [] k d e h same = absurd (omega (arith, h))
not_there n (x ∷ xs) zero d e h same = true≢false (sym (eq-eqb n x same) ∙ (not_either (nat_eq n x) (list_any (nat_eq n) xs) e).0)
not_there n (x ∷ xs) (suc k) d e h same = not_there n xs k d (not_either (nat_eq n x) (list_any (nat_eq n) xs) e).1 (omega (arith, h)) same

once_pairs : (xs : List ℕ) → Once xs → AllPairs (λ a b. a ≢ b) xs
once_pairs [] o i j d lt h = absurd (omega (arith, h))
once_pairs (x ∷ xs) o zero zero d lt h = absurd (omega (arith, lt))
once_pairs (x ∷ xs) o zero (suc j) d lt h = not_there x xs j d o.0 (omega (arith, h))
once_pairs (x ∷ xs) o (suc i) zero d lt h = absurd (omega (arith, lt))
once_pairs (x ∷ xs) o (suc i) (suc j) d lt h = once_pairs xs o.1 i j d (omega (arith, lt)) (omega (arith, h))

-- ---- the number of a column

any_at : (read : List ℕ) (k : ℕ) → k < length read → list_any (same_row_expression (row_of (get_or read k 0))) (map row_of read) ≡ true
any_at [] k h = absurd (omega (arith, h))
any_at (x ∷ read) zero h = ap (λ b. b || list_any (same_row_expression (row_of x)) (map row_of read)) (eq-eqb x x refl)
any_at (x ∷ read) (suc k) h = later (nat_eq (get_or read k 0) x) (any_at read k (omega (arith, h)))
  where
    later : (b : Bool) → list_any (same_row_expression (row_of (get_or read k 0))) (map row_of read) ≡ true → (b || list_any (same_row_expression (row_of (get_or read k 0))) (map row_of read)) ≡ true
    later true e = refl
    later false e = e

column_at : (read : List ℕ) (k : ℕ) (e : RowExpression) → slice_get (map row_of read) k ≡ Some e → e ≡ row_of (get_or read k 0)
column_at [] k e h = absurd cc
column_at (x ∷ read) zero e h = cc
column_at (x ∷ read) (suc k) e h = column_at read k e h

same_number : (m n : ℕ) → same_row_expression (row_of m) (row_of n) ≡ true → m ≡ n
same_number m n h = eqb-true m n h

number_is : (read : List ℕ) → AllPairs (λ a b. a ≢ b) read → (k : ℕ) → k < length read → input_number (map row_of read) (row_of (get_or read k 0)) ≡ k
number_is read once k h =
    let f = first_there (same_row_expression (row_of (get_or read k 0))) (map row_of read) (any_at read k h) in
    let n = position_or_len (same_row_expression (row_of (get_or read k 0))) (map row_of read) in
    let within : n < length (map row_of read) = slice_get_within (map row_of read) n f.0 f.1 in
    let low : n < length read = subst (λ m. n < m) (length-map read row_of) within in
    let is = column_at read n f.0 f.1 in
    let same : get_or read k 0 ≡ get_or read n 0 = same_number (get_or read k 0) (get_or read n 0) (subst (λ e. same_row_expression (row_of (get_or read k 0)) e ≡ true) is f.2) in
    one_place read once n k low h (sym same)

-- ---- the plan

same_class-itself : (a : ClassRule) → same_class a a ≡ true
same_class-itself a = λ i. itself same_item item_itself a.order i && itself nat_eq (λ n. eq-eqb n n refl) a.partition i
  where
    itself : {A : Type 0} (same : A → A → Bool) → ((x : A) → same x x ≡ true) → (xs : List A) → pointwise same xs xs ≡ true
    itself same h [] = refl
    itself same h (x ∷ xs) = λ i. h x i && itself same h xs i

    item_itself : (x : SortColumn) → same_item x x ≡ true
    item_itself x = λ i. eq-eqb x.column x.column refl i && ((booleans_Decides x.key.desc x.key.desc).1 refl i && (booleans_Decides x.key.nulls_first x.key.nulls_first).1 refl i)

module _ (before : List ℕ) (w : BoundWindow) (after : List ℕ) (plain : IsPlainWindow w) (table columns : ℕ) where
  abbrev k : BoundCall
  k = record { function = ranking rank.RowNumber; window = w }

  parts : HasNumbers w.partition
  parts = has_numbers w.partition plain.partition

  orders : HasNumbers (map sorted_by w.order)
  orders = has_numbers (map sorted_by w.order) (keys_plain w.order plain.order)

  -- the columns that are read, as often as they are asked for
  abbrev asked_for : List ℕ
  asked_for = before ++ ((parts.numbers ++ orders.numbers) ++ after)

  abbrev read : List ℕ
  read = with_new nat_eq [] asked_for

  read_is : read_by_all (references_by before k after) ≡ map row_of asked_for
  read_is =
      read_append (map read_of before) (call k ∷ map read_of after)
      ∙ (λ i. columns_read before i ++ ((parts.are i ++ orders.are i) ++ columns_read after i))
      ∙ sym (map-append row_of before ((parts.numbers ++ orders.numbers) ++ after)
      ∙ ap (λ l. map row_of before ++ l) (map-append row_of (parts.numbers ++ orders.numbers) after ∙ ap (λ l. l ++ map row_of after) (map-append row_of parts.numbers orders.numbers)))

  abbrev projected : ProjectedInputs
  projected = record { calls = k ∷ []; inputs = map row_of read; groups = [] }

  projected_are : projected_of (map Reference (references_by before k after)) ≡ projected
  projected_are =
      let ls = all_references_are (references_by before k after) in
      let calls = ap calls_among ls ∙ one_call before k after in
      let inputs = ap read_by_all ls ∙ read_is in
      let groups = ap (λ read. group_calls_among (all_row_references read)) inputs ∙ no_group_calls asked_for in
      (λ i. record { calls = with_new same_call [] (calls i); inputs = with_new same_row_expression [] (inputs i); groups = with_new same_group_call [] (groups i) })
      ∙ (λ i. record { calls = k ∷ []; inputs = with_columns [] asked_for i; groups = [] })

  abbrev inputs : List RowExpression
  inputs = map row_of read

  abbrev the_plan : PlainPlan
  the_plan = record {
    table = table;
    columns = columns;
    read = read;
    class = class_over inputs k;
    frame = w.frame;
    shown = map (place_in column_of inputs (k ∷ [])) (references_by before k after);
  }

  over_references : (ls : List SelectReference) → map (over column_of projected) (map Reference ls) ≡ map Column (map (place_in column_of inputs (k ∷ [])) ls)
  over_references [] = refl
  over_references (l ∷ ls) = ap (λ xs. Column (place_in column_of inputs (k ∷ []) l) ∷ xs) (over_references ls)

  first_class : position_or_len (same_class (class_over inputs k)) (class_over inputs k ∷ []) ≡ 0
  first_class = rw (same_class-itself (class_over inputs k)) refl

  window_is : window_over inputs (k ∷ []) ≡ window_rule the_plan
  window_is = λ i. record { classes = class_over inputs k ∷ []; calls = record { class = first_class i; function = Ranked rank.RowNumber; frame = w.frame } ∷ [] }

  plan_is : mapped_over column_of (projected_of (map Reference (references_by before k after))) (map Reference (references_by before k after)) (Scan table columns) ≡ plan_by the_plan
  plan_is =
      ap (λ n. mapped_over column_of n (map Reference (references_by before k after)) (Scan table columns)) projected_are
      ∙ (λ i. Over (Map (over_references (references_by before k after) i)) (Over (Window (window_is i)) (Over (Map (rows_rebased read i)) (Scan table columns))))

  -- ---- it is plain

  once : AllPairs (λ a b. a ≢ b) read
  once = once_pairs read (with_new_once [] asked_for tt)

  number_place : place_in column_of inputs (k ∷ []) (call k) ≡ length read
  number_place =
      let long = length-map read row_of in
      let first : position_or_len (same_call k) (k ∷ []) ≡ 0 = rw (same_call-itself k) refl in
      ap (λ n. length inputs + n) first ∙ omega (arith, long)

  read_asked : (c : ℕ) → c < length read → Among (get_or read c 0) asked_for
  read_asked c h = all_at (λ n. Among n asked_for) (get_or read c 0) read (all_with_new nat_eq (λ n. Among n asked_for) [] asked_for tt (all_from (λ n. Among n asked_for) asked_for (λ n at. at))) (among_get c read 0 h)

  is_asked : (c : ℕ) → c < length read → Among c (class_columns (class_over inputs k)) ⊎ Among c (map (place_in column_of inputs (k ∷ [])) (references_by before k after))
  is_asked c h = by_front (among_parts (get_or read c 0) before ((parts.numbers ++ orders.numbers) ++ after) (read_asked c h))
    where
      n : ℕ
      n = get_or read c 0

      place : input_number inputs (row_of n) ≡ c
      place = number_is read once c h

      shown_at : Among (read_of n) (references_by before k after) → Among c (map (place_in column_of inputs (k ∷ [])) (references_by before k after))
      shown_at at = subst (λ m. Among m (map (place_in column_of inputs (k ∷ [])) (references_by before k after))) place (among_map (place_in column_of inputs (k ∷ [])) (read_of n) (references_by before k after) at)

      in_partition : (es : List RowExpression) (ns : List ℕ) → es ≡ map row_of ns → Among n ns → Among c (map (input_number inputs) es)
      in_partition es ns e at = subst (λ xs. Among c (map (input_number inputs) xs)) (sym e) (subst (λ m. Among m (map (input_number inputs) (map row_of ns))) place (among_map (input_number inputs) (row_of n) (map row_of ns) (among_map row_of n ns at)))

      order_is : (keys : List BoundKey) → key_columns (map (order_item inputs) keys) ≡ map (input_number inputs) (map sorted_by keys)
      order_is [] = refl
      order_is (key ∷ keys) = ap (λ l. input_number inputs key.expression ∷ l) (order_is keys)

      by_last : Among n parts.numbers ⊎ Among n orders.numbers → Among c (class_columns (class_over inputs k)) ⊎ Among c (map (place_in column_of inputs (k ∷ [])) (references_by before k after))
      by_last (inl at) = inl (among_front c (class_over inputs k).partition (order_columns (class_over inputs k)) (in_partition w.partition parts.numbers parts.are at))
      by_last (inr at) = inl (among_back c (class_over inputs k).partition (order_columns (class_over inputs k)) (subst (Among c) (sym (order_is w.order)) (in_partition (map sorted_by w.order) orders.numbers orders.are at)))

      by_middle : Among n (parts.numbers ++ orders.numbers) ⊎ Among n after → Among c (class_columns (class_over inputs k)) ⊎ Among c (map (place_in column_of inputs (k ∷ [])) (references_by before k after))
      by_middle (inl at) = by_last (among_parts n parts.numbers orders.numbers at)
      by_middle (inr at) = inr (shown_at (among_back (read_of n) (map read_of before) (call k ∷ map read_of after) (inr (among_map read_of n after at))))

      by_front : Among n before ⊎ Among n ((parts.numbers ++ orders.numbers) ++ after) → Among c (class_columns (class_over inputs k)) ⊎ Among c (map (place_in column_of inputs (k ∷ [])) (references_by before k after))
      by_front (inl at) = inr (shown_at (among_front (read_of n) (map read_of before) (call k ∷ map read_of after) (among_map read_of n before at)))
      by_front (inr at) = by_middle (among_parts n (parts.numbers ++ orders.numbers) after at)

  -- where the references stand
  abbrev shown_places : List ℕ
  shown_places = map (place_in column_of inputs (k ∷ [])) (references_by before k after)

  is_plain : IsPlain the_plan
  is_plain = record {
    once = once;
    number = contains_from (length read) shown_places (subst (λ m. Among m shown_places) number_place (among_map (place_in column_of inputs (k ∷ [])) (call k) (references_by before k after) (among_back (call k) (map read_of before) (call k ∷ map read_of after) (inl refl))));
    asked = λ c h. by c (is_asked c h);
  }
    where
      by : (c : ℕ) → Among c (class_columns (class_over inputs k)) ⊎ Among c shown_places → Contains (class_columns (class_over inputs k)) c ⊎ Contains shown_places c
      by c (inl at) = inl (contains_from c (class_columns (class_over inputs k)) at)
      by c (inr at) = inr (contains_from c shown_places at)

-- ---- the query

record IsScan (part : JoinedTables) : Type 0 where
  table : ℕ
  columns : ℕ
  is : part.plan ≡ Scan table columns

named_scan : (tables : List TableRule) (table name : List ℕ) (part : JoinedTables) → named_table tables table name ≡ Ok part → IsScan part
named_scan tables table name part h = by_number (table_number tables table) h
  where
    by_table : (n : ℕ) (o : Option TableRule) → scan name n o ≡ Ok part → IsScan part
    by_table n None e = absurd cc
    by_table n (Some t) e = subst IsScan (ok_is _ _ e) (record { table = n; columns = length t.columns; is = refl })

    by_number : (o : Option ℕ) → scan_at tables name o ≡ Ok part → IsScan part
    by_number None e = absurd cc
    by_number (Some n) e = by_table n (slice_get tables n) e

-- the one table of FROM
start_is : (part : JoinedTables) (start : FromSoFar) → first_admitted part ≡ Ok start → start ≡ record { before = None; current = part }
start_is part start h =
    let p = bound (admitted (record { tables = []; columns = [] }) part) (λ p. Ok (record { before = None; current = p })) start h in
    sym (ok_is _ _ p.2) ∙ ap (λ (x : JoinedTables). record { before = None; current = x }) (same (list_any (has_table (record { tables = []; columns = [] })) part.scope.tables) (is_too_large (beside (record { tables = []; columns = [] }) part.scope)) p.0 p.1)
  where
    same : (b c : Bool) (x : JoinedTables) → cond b (Err Ambiguous) (cond c (Err TooMany) (Ok part)) ≡ Ok x → x ≡ part
    same true c x e = absurd cc
    same false true x e = absurd cc
    same false false x e = sym (ok_is _ _ e)

-- a select of the plain class after its FROM, as it is not grouped
module _ (from : JoinedTables) (quantifier : Option Quantifier) (windows : List (Name × WindowTree)) (before : List ItemTree) (function : Name) (over : OverTree) (output : Option Alias) (after : List ItemTree) where
  abbrev the_parts : Parts
  the_parts = plain_parts quantifier windows before function over output after

  abbrev following : Option GroupedBy → Meant Lowered
  following grouped = below_meant from.scope grouped None >>= λ below. all_defined from.scope (option_map grouped_rule grouped) [] windows >>= λ known. selected from.scope below from.plan known the_parts

  after_is : is_grouped the_parts ≡ false → after_from from the_parts ≡ (all_defined from.scope None [] windows >>= λ known. selected from.scope not_grouped from.plan known the_parts)
  after_is h = ap (λ b. cond b (Ok (Some no_groups)) (Ok None) >>= following) h

pub plain_plan : QueriesArePlain
plain_plan tables q a pq h =
    let parts : Parts = plain_parts pq.quantifier pq.windows pq.before pq.function pq.over pq.output pq.after in
    let whole = subst (λ x. answer tables x ≡ Ok a) pq.is h in
    let l = bound (lowered tables (select parts (named pq.table pq.alias) no_joins)) (λ (l : Lowered). Ok (record { plan = l.plan; names = map name_in l.columns; ordered = false })) a whole in
    let part = bound (named_table tables pq.table.text (called_by pq.table pq.alias)) (λ part. first_admitted part >>= λ start. after_from (together start.before start.current) parts) l.0 l.1 in
    let start = bound (first_admitted part.0) (λ start. after_from (together start.before start.current) parts) l.0 part.2 in
    let from = start_is part.0 start.0 start.1 in
    let following = subst (λ (s : FromSoFar). after_from (together s.before s.current) parts ≡ Ok l.0) from start.2 in
    let alone = sym (after_is part.0 pq.quantifier pq.windows pq.before pq.function pq.over pq.output pq.after pq.not_grouped) ∙ following in
    let known = bound (all_defined part.0.scope None [] pq.windows) (λ known. selected part.0.scope not_grouped part.0.plan known parts) l.0 alone in
    let context = in_list part.0.scope known.0 in
    let outputs = bound (list_meant not_grouped context parts.items) (λ outputs. shown_sorted (shown_by part.0.scope not_grouped (is_distinct pq.quantifier) outputs) no_keys None part.0.plan) l.0 known.2 in
    let numbered = numbered_list part.0.scope known.0 pq.before pq.function pq.over pq.output pq.after outputs.0 pq.plain_before pq.plain_after pq.row_number outputs.1 in
    let plain = pq.window part.0 part.1 known.0 known.1 numbered.window numbered.means in
    let scanned = named_scan tables pq.table.text (called_by pq.table pq.alias) part.0 part.1 in
    let shown_alone = numbered.are ∙ reference_map numbered.before (record { function = ranking rank.RowNumber; window = numbered.window }) numbered.after in
    let expressions : expressions_of outputs.0 ++ [] ≡ map Reference (references_by numbered.before (record { function = ranking rank.RowNumber; window = numbered.window }) numbered.after) =
    append-nil (expressions_of outputs.0) ∙ numbered.are ∙ reference_map numbered.before (record { function = ranking rank.RowNumber; window = numbered.window }) numbered.after in
    let made : l.0.plan ≡ mapped not_grouped (expressions_of outputs.0) [] part.0.plan =
    sym (ap (λ (x : Lowered). x.plan) (ok_is _ _ outputs.2)) ∙ ap (λ b. deduplicated b (mapped not_grouped (expressions_of outputs.0) [] part.0.plan)) pq.all in
    record {
      plan = the_plan numbered.before numbered.window numbered.after plain scanned.table scanned.columns;
      is = sym (ap (λ (x : Answer). x.plan) (ok_is _ _ l.2)) ∙ made ∙ (λ i. mapped_over column_of (projected_of (shown_alone i)) (expressions i) (scanned.is i)) ∙ plan_is numbered.before numbered.window numbered.after plain scanned.table scanned.columns;
      plain = is_plain numbered.before numbered.window numbered.after plain scanned.table scanned.columns;
    }
