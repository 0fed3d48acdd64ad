-- What a select list lists is typed, and no node is too wide for it.
use Rattle.std.proofs.Common.{◌≡◌, refl, subst, ℕ, Bool, true, false, cond, List, [], ◌∷◌, ◌++◌, map, filter, Option, Some, None, slice_get, Ok, Err}
use Rattle.std.specs.List.{AllByRecursion}
use Rattle.wd_plan.specs.declared.expression.ValueKind.{ValueKind}
use Rattle.wd_resolve_operand.specs.declared.cause.Cause.TheVariants.{UnknownTable, TooMany}
use Rattle.wd_resolve_operand.specs.Causes.{◌>>=◌}
use Rattle.wd_resolve_operand.specs.Operands.{Operand}
use Rattle.wd_syntax.specs.Tree.{ItemTree, all_columns, all_of, shown}
use Rattle.wd_resolve_scope.specs.declared.scope.ScopeColumn.{ScopeColumn}
use Rattle.wd_resolve_call.specs.References.{SelectReference}
use Rattle.wd_resolve_scope.specs.Resolving.{ContextRule, resolved}
use Rattle.wd_resolve_scope.specs.Scopes.{ScopeRule, has_table, numbered}
use Rattle.wd_resolve_scope.specs.Grouped.{GroupedRule, column_allowed}
use Rattle.wd_resolve_scope.specs.Typed.{AreKnown, IsBoundExpression, Readable, kinds_in, readable}
use Rattle.wd_resolve_scope.proofs.Naming.{all_filter, numbered_after}
use Rattle.wd_resolve_call.proofs.Meanings.{bound, ok_is}
use Rattle.wd_resolve_scope.proofs.TypedOperands.{settled_is}
use Rattle.wd_resolve_scope.proofs.TypedTrees.{allowed_is, read_in, resolved_is}
use Rattle.wd_resolve_list.specs.Grouping.{IsNarrow}
use Rattle.wd_resolve_list.specs.SelectLists.{Below, are_wide}
use Rattle.wd_resolve_list.specs.Outputs.{BoundOutput, column_output, columns_of, columns_shown, expressions_of, is_of, item_listed, item_meant, list_meant, listed, name_shown, narrow, output_meant, table_shown}
use Rattle.wd_resolve_list.proofs.Among.{all_append}
use Rattle.wd_resolve_list.proofs.TypedBoundExpressions.{AreBoundExpressions}

-- each output has the kind that it says
abbrev IsOutput : Readable → BoundOutput → Type 0
IsOutput r o = IsBoundExpression r o.expression o.kind

abbrev pub AreOutputs : Readable → List BoundOutput → Type 0
AreOutputs r outputs = AllByRecursion (IsOutput r) outputs

abbrev pub kinds_shown : List BoundOutput → List ValueKind
kinds_shown outputs = map (λ (o : BoundOutput). o.kind) outputs

pub outputs_bound_expressions : (r : Readable) (outputs : List BoundOutput) → AreOutputs r outputs → AreBoundExpressions r (expressions_of outputs) (kinds_shown outputs)
outputs_bound_expressions r [] h = tt
outputs_bound_expressions r (o ∷ outputs) h = (h.0, outputs_bound_expressions r outputs h.1)

-- ---- members of a select list

columns_are : (scope : ScopeRule) (groups : Option GroupedRule) (columns : List (ℕ × ScopeColumn)) (outputs : List BoundOutput) → AllByRecursion (λ (x : ℕ × ScopeColumn). slice_get scope.columns x.0 ≡ Some x.1) columns → columns_shown groups columns ≡ Ok outputs → AreOutputs (readable scope groups) outputs
columns_are scope groups [] outputs h e = subst (AreOutputs (readable scope groups)) (ok_is _ _ e) tt
columns_are scope groups (x ∷ columns) outputs h e =
    let u = bound (column_allowed groups x.0) (λ v. columns_shown groups columns >>= λ more. Ok (column_output x ∷ more)) outputs e in
    let more = bound (columns_shown groups columns) (λ later. Ok (column_output x ∷ later)) outputs u.2 in
    let kind : kinds_in scope x.0 ≡ Some x.1.kind = rw h.0 refl in
    let one : IsBoundExpression (readable scope groups) (column_output x).expression x.1.kind = record { is = rw kind refl; has = kind; references_are = ((rw kind refl, allowed_is groups x.0 u.0 u.1), tt) } in
    subst (AreOutputs (readable scope groups)) (ok_is _ _ more.2) (one, columns_are scope groups columns more.0 h.1 more.1)

columns_of_is : (scope : ScopeRule) (groups : Option GroupedRule) (table : Option (List ℕ)) (outputs : List BoundOutput) → columns_of groups scope table ≡ Ok outputs → AreOutputs (readable scope groups) outputs
columns_of_is scope groups table outputs =
    let test = λ (x : ℕ × ScopeColumn). is_of table x.1 in
    columns_are scope groups (filter test (numbered scope.columns)) outputs (all_filter (λ (x : ℕ × ScopeColumn). slice_get scope.columns x.0 ≡ Some x.1) test (numbered scope.columns) (numbered_after [] scope.columns))

table_shown_is : (scope : ScopeRule) (groups : Option GroupedRule) (table : List ℕ) (outputs : List BoundOutput) → table_shown groups scope table ≡ Ok outputs → AreOutputs (readable scope groups) outputs
table_shown_is scope groups table outputs h = by (has_table scope table) h
  where
    by : (b : Bool) → cond b (columns_of groups scope (Some table)) (Err UnknownTable) ≡ Ok outputs → AreOutputs (readable scope groups) outputs
    by true h = columns_of_is scope groups (Some table) outputs h
    by false h = cc

item_is : (c : ContextRule) (item : ItemTree) (outputs : List BoundOutput) → AreKnown (read_in c) c.windows → item_meant c item ≡ Ok outputs → AreOutputs (read_in c) outputs
item_is c all_columns outputs known h = columns_of_is c.scope c.groups None outputs h
item_is c (all_of table) outputs known h = table_shown_is c.scope c.groups table.text outputs h
item_is c (shown a alias) outputs known h =
    let x = bound (resolved c a) (λ (y : Operand SelectReference). Ok (output_meant (name_shown a alias) y ∷ [])) outputs h in
    subst (AreOutputs (read_in c)) (ok_is _ _ x.2) (settled_is (read_in c) x.0 (resolved_is c a x.0 known x.1), tt)

-- ---- the list

narrow_is : (below : Below) (outputs next : List BoundOutput) → narrow below outputs ≡ Ok next → (outputs ≡ next) × (are_wide below (expressions_of outputs) [] ≡ false)
narrow_is below outputs next h = by (are_wide below (expressions_of outputs) []) h
  where
    by : (b : Bool) → cond b (Err TooMany) (Ok outputs) ≡ Ok next → (outputs ≡ next) × (b ≡ false)
    by true h = cc
    by false h = (ok_is _ _ h, refl)

-- outputs of the kinds that they say, for which no node is too wide
pub record IsListed (below : Below) (r : Readable) (outputs : List BoundOutput) : Type 0 where
  pub outputs_are : AreOutputs r outputs
  pub narrow : are_wide below (expressions_of outputs) [] ≡ false

listed_is : (below : Below) (c : ContextRule) (items : List ItemTree) (outputs all : List BoundOutput) → AreKnown (read_in c) c.windows → IsListed below (read_in c) outputs → listed below c items outputs ≡ Ok all → IsListed below (read_in c) all
listed_is below c [] outputs all known h e = subst (IsListed below (read_in c)) (ok_is _ _ e) h
listed_is below c (item ∷ items) outputs all known h e =
    let next = bound (item_listed below c item outputs) (λ (n : List BoundOutput). listed below c items n) all e in
    let more = bound (item_meant c item) (λ (m : List BoundOutput). narrow below (outputs ++ m)) next.0 next.1 in
    let n = narrow_is below (outputs ++ more.0) next.0 more.2 in
    let whole : IsListed below (read_in c) (outputs ++ more.0) = record { outputs_are = all_append (IsOutput (read_in c)) outputs more.0 h.outputs_are (item_is c item more.0 known more.1); narrow = n.1 } in
    listed_is below c items next.0 all known (subst (IsListed below (read_in c)) n.0 whole) next.2

pub list_is : (below : Below) (c : ContextRule) (items : List ItemTree) (outputs : List BoundOutput) → AreKnown (read_in c) c.windows → IsNarrow below → list_meant below c items ≡ Ok outputs → IsListed below (read_in c) outputs
list_is below c items outputs known narrow e = listed_is below c items [] outputs known (record { outputs_are = tt; narrow = narrow }) e
