-- What a tree means is typed.
use Rattle.std.proofs.Common.{◌≡◌, sym, refl, subst, ℕ, Bool, true, false, cond, ◌&&◌, List, [], ◌∷◌, Option, Some, None, is_some, option_map, filter, slice_get, Ok, Err}
use Rattle.std.specs.Prelude.{⊤}
use Rattle.std.specs.List.{AllByRecursion}
use Rattle.std.specs.Str.{bytes_eq}
use Rattle.wd_plan.specs.declared.expression.ValueKind.{ValueKind}
use Rattle.wd_read_cursor.specs.declared.name.Name.{Name}
use Rattle.wd_syntax.specs.declared.expression.Sign.{Sign}
use Rattle.wd_syntax.specs.declared.expression.SortDirection.{SortDirection}
use Rattle.wd_syntax.specs.declared.expression.NullsPlace.{NullsPlace}
use Rattle.wd_syntax.specs.Tree.{Tree, Constant, Column, Qualified, CallAll, Call, Case, Bracket, Signed, Binary, IsNull, Negated, Trees, no_trees, more_trees, Arms, no_arms, more_arms, Otherwise, no_else, or_else, OverTree, no_over, over_name, over_window, WindowTree, window, Keys, no_keys, more_keys}
use Rattle.wd_plan.specs.Plans.{has}
use Rattle.wd_resolve_operand.specs.declared.cause.Cause.TheVariants.{CallNotAllowed, GroupCallNotAllowed, GroupingOfOther}
use Rattle.wd_resolve_operand.specs.Causes.{Meant, ◌>>=◌}
use Rattle.wd_resolve_operand.specs.BoundExpressions.{Reference}
use Rattle.wd_resolve_operand.specs.Operands.{Operand, typed, combined, negated, literal, case_of, settled}
use Rattle.wd_resolve_operand.specs.Operands as operands
use Rattle.wd_resolve_call.specs.Calls.{kind_of_function}
use Rattle.wd_resolve_call.specs.Functions.{GroupFunction, aggregates, applied, function_named, group_function_named, grouped, make_group_call}
use Rattle.wd_resolve_scope.specs.Grouped.{GroupedRule, column_allowed, column_meant, column_operand}
use Rattle.wd_resolve_call.specs.References.{SelectReference, of_row, call, over_rows}
use Rattle.wd_resolve_call.specs.Rows.{GroupCall, RowExpression, kind_of_group_call, of_group}
use Rattle.wd_resolve_scope.specs.Names.{column_named, the_only}
use Rattle.wd_resolve_scope.specs.Resolving.{ContextRule, all_resolved, all_settled, arguments_in, arms_resolved, call_over, called, else_resolved, group_called, key_meant, keys_resolved, may_group, resolved, sign_meant, where_allowed, window_resolved, without_over, moved_to, written_number}
use Rattle.wd_resolve_scope.specs.Scopes.{ScopeRule, carries, numbered}
use Rattle.wd_resolve_call.specs.Windows.{BoundKey, NamedBoundWindow, BoundWindow, base_named, sort_key, window_meant, window_named}
use Rattle.wd_resolve_scope.specs.Typed.{AreKeys, AreKnown, AreTyped, IsGroupCall, IsOperand, IsRowExpression, IsWindow, Readable, allowed, kinds_in, readable}
use Rattle.wd_resolve_scope.proofs.Naming.{all_filter, numbered_after}
use Rattle.wd_resolve_scope.proofs.OverColumns.{over_rows_is}
use Rattle.wd_resolve_scope.proofs.Typing.{both}
use Rattle.wd_resolve_call.proofs.Meanings.{bound, ok_is}
use Rattle.wd_resolve_scope.proofs.TypedCalls.{AreArguments, applied_is, group_aggregate_is, grouping_is, let_through}
use Rattle.wd_resolve_scope.proofs.TypedOperands.{AreArms, case_is, combined_is, literal_is, negated_is, settled_is, signed_is, signed_number_is, tested_is}
use Rattle.wd_resolve_scope.proofs.TypedWindows.{IsBase, window_is}
use Rattle.wd_resolve_scope.specs.declared.context.Place.TheVariants as place
use Rattle.wd_resolve_scope.specs.declared.scope.ScopeColumn.{ScopeColumn}
use Rattle.wd_resolve_scope.specs.Places.{allows_group_calls, allows_window_calls}

-- what an expression there may read
abbrev pub read_in : ContextRule → Readable
read_in c = readable c.scope c.groups

-- ---- windows that have names

known_is : (r : Readable) (windows : List NamedBoundWindow) (name : List ℕ) (w : BoundWindow) → AreKnown r windows → window_named windows name ≡ Ok w → IsWindow r w
known_is r [] name w h is = cc
known_is r (known ∷ windows) name w h is = by (bytes_eq known.name name) is (λ later. known_is r windows name w h.1 later)
  where
    by : (b : Bool) → cond b (Ok known.window) (window_named windows name) ≡ Ok w → (window_named windows name ≡ Ok w → IsWindow r w) → IsWindow r w
    by true is later = subst (IsWindow r) (ok_is _ _ is) h.0
    by false is later = later is

base_is : (r : Readable) (windows : List NamedBoundWindow) (name : Option (List ℕ)) (base : Option BoundWindow) → AreKnown r windows → base_named windows name ≡ Ok base → IsBase r base
base_is r windows None base h is = subst (IsBase r) (ok_is _ _ is) tt
base_is r windows (Some name) base h is =
    let w = bound (window_named windows name) (λ v. Ok (Some v)) base is in
    subst (IsBase r) (ok_is _ _ w.2) (known_is r windows name w.0 h w.1)

-- the window where calls may stand
where_is : (c : ContextRule) (m : Meant BoundWindow) (w : BoundWindow) → where_allowed c m ≡ Ok w → m ≡ Ok w
where_is c m w h = by (allows_window_calls c.place) h
  where
    by : (b : Bool) → cond b m (Err CallNotAllowed) ≡ Ok w → m ≡ Ok w
    by true h = h
    by false h = cc

-- ---- columns

-- a column that is named is in scope
abbrev IsNamed : ScopeRule → ℕ × ValueKind → Type 0
IsNamed scope x = kinds_in scope x.0 ≡ Some x.1

only_is : (scope : ScopeRule) (columns : List (ℕ × ScopeColumn)) (x : ℕ × ValueKind) → AllByRecursion (λ (c : ℕ × ScopeColumn). slice_get scope.columns c.0 ≡ Some c.1) columns → the_only columns ≡ Ok x → IsNamed scope x
only_is scope [] x there h = cc
only_is scope (c ∷ []) x there h = subst (IsNamed scope) (ok_is _ _ h) (rw there.0 refl)
only_is scope (c ∷ other ∷ others) x there h = cc

pub column_named_is : (scope : ScopeRule) (table : Option (List ℕ)) (name : List ℕ) (x : ℕ × ValueKind) → column_named scope table name ≡ Ok x → IsNamed scope x
column_named_is scope table name x h =
    let test = λ (c : ℕ × ScopeColumn). carries table name c.1 in
    only_is scope (filter test (numbered scope.columns)) x (all_filter (λ (c : ℕ × ScopeColumn). slice_get scope.columns c.0 ≡ Some c.1) test (numbered scope.columns) (numbered_after [] scope.columns)) h

-- what may stand there is allowed
pub allowed_is : (groups : Option GroupedRule) (n : ℕ) (u : ⊤) → column_allowed groups n ≡ Ok u → allowed groups n ≡ true
allowed_is None n u h = refl
allowed_is (Some g) n u h = by (has g.columns n) h
  where
    by : (b : Bool) → cond b (Ok tt) (Err g.other) ≡ Ok u → b ≡ true
    by true h = refl
    by false h = cc

column_is : (scope : ScopeRule) (groups : Option GroupedRule) (x : ℕ × ValueKind) → IsNamed scope x → allowed groups x.0 ≡ true → IsOperand (readable scope groups) (column_operand x)
column_is scope groups x named may = record { is = rw named refl; has = named; references_are = ((rw named refl, may), tt) }

name_is : (c : ContextRule) (table : Option (List ℕ)) (name : List ℕ) (x : Operand SelectReference) → (column_named c.scope table name >>= λ y. column_meant c.groups y) ≡ Ok x → IsOperand (read_in c) x
name_is c table name x h =
    let y = bound (column_named c.scope table name) (λ z. column_meant c.groups z) x h in
    let u = bound (column_allowed c.groups y.0.0) (λ v. Ok (column_operand y.0)) x y.2 in
    subst (IsOperand (read_in c)) (ok_is _ _ u.2) (column_is c.scope c.groups y.0 (column_named_is c.scope table name y.0 y.1) (allowed_is c.groups y.0.0 u.0 u.1))

-- ---- places where no window calls stand

all_settled_is : (r : Readable) (xs : List (Operand SelectReference)) (es : List RowExpression) → AllByRecursion (IsOperand r) xs → all_settled xs ≡ Ok es → AreTyped r es
all_settled_is r [] es h is = subst (AreTyped r) (ok_is _ _ is) tt
all_settled_is r (x ∷ xs) es h is =
    let e = bound (over_rows (settled x)) (λ f. all_settled xs >>= λ fs. Ok (f ∷ fs)) es is in
    let more = bound (all_settled xs) (λ fs. Ok (e.0 ∷ fs)) es e.2 in
    subst (AreTyped r) (ok_is _ _ more.2) (record { kind = operands.kind_of x; expression = over_rows_is r (settled x) (operands.kind_of x) e.0 (settled_is r x h.0) e.1 }, all_settled_is r xs more.0 h.1 more.1)

key_is : (r : Readable) (x : Operand SelectReference) (direction : Option SortDirection) (nulls : Option NullsPlace) (key : BoundKey) → IsOperand r x → key_meant x direction nulls ≡ Ok key → IsRowExpression r key.expression key.kind
key_is r x direction nulls key h is =
    let e = bound (over_rows (settled x)) (λ f. Ok (record { expression = f; kind = operands.kind_of x; key = sort_key direction nulls })) key is in
    subst (λ (k : BoundKey). IsRowExpression r k.expression k.kind) (ok_is _ _ e.2) (over_rows_is r (settled x) (operands.kind_of x) e.0 (settled_is r x h) e.1)

-- ---- calls and signs

called_is : (r : Readable) (f : Name) (arguments : Option (List (Operand SelectReference))) (w : BoundWindow) (x : Operand SelectReference) → AreArguments r arguments → IsWindow r w → called f arguments w ≡ Ok x → IsOperand r x
called_is r f arguments w x xs win is =
    let g = bound (applied (function_named f.text) arguments) (λ function. Ok (typed (Reference (call (record { function = function; window = w }))) (kind_of_function function))) x is in
    subst (IsOperand r) (ok_is _ _ g.2) (record { is = refl; has = refl; references_are = (record { function = applied_is r (function_named f.text) arguments g.0 xs g.1; window = win }, tt) })

-- the arguments of GROUPING may be the columns that are grouped by, whatever refuses others
same_readable : (scope : ScopeRule) (groups : Option GroupedRule) → readable scope (option_map (λ (g : GroupedRule). record { columns = g.columns; other = GroupingOfOther }) groups) ≡ readable scope groups
same_readable scope None = refl
same_readable scope (Some g) = refl

grouped_is : (c : ContextRule) (function : GroupFunction) (arguments : Option (List (Operand SelectReference))) (g : GroupCall) → AreArguments (read_in (without_over (Some function) c)) arguments → make_group_call function arguments ≡ Ok g → IsGroupCall (read_in c) g
grouped_is c (aggregates name) arguments g xs is = group_aggregate_is (readable c.scope None) (allowed c.groups) (is_some c.groups) name arguments g xs is
grouped_is c grouped arguments g xs is = subst (λ (r : Readable). IsGroupCall r g) (same_readable c.scope c.groups) (grouping_is (read_in (without_over (Some grouped) c)) arguments g xs is)

group_called_is : (c : ContextRule) (function : Option GroupFunction) (arguments : Option (List (Operand SelectReference))) (x : Operand SelectReference) → AreArguments (read_in (without_over function c)) arguments → group_called c function arguments ≡ Ok x → IsOperand (read_in c) x
group_called_is c None arguments x xs is = cc
group_called_is c (Some function) arguments x xs is =
    let p = let_through (may_group c) (make_group_call function arguments >>= λ g. Ok (typed (Reference (of_row (of_group g))) (kind_of_group_call g))) x GroupCallNotAllowed is in
    let g = bound (make_group_call function arguments) (λ g. Ok (typed (Reference (of_row (of_group g))) (kind_of_group_call g))) x p.1 in
    subst (IsOperand (read_in c)) (ok_is _ _ g.2) (record { is = refl; has = refl; references_are = (((both (is_some c.groups) (allows_group_calls c.place) p.0).0, grouped_is c function arguments g.0 xs g.1), tt) })

sign_is : (r : Readable) (sign : Sign) (n : Option ℕ) (m : Meant (Operand SelectReference)) (x : Operand SelectReference) → ((y : Operand SelectReference) → m ≡ Ok y → IsOperand r y) → sign_meant sign n m ≡ Ok x → IsOperand r x
sign_is r sign (Some n) m x k h = signed_number_is r sign n x h
sign_is r sign None m x k h = let y = bound m (λ z. operands.signed sign z) x h in signed_is r sign y.0 x (k y.0 y.1) y.2

-- ---- trees

-- windows that have names are known where the arguments of a call stand
known_without : (g : Option GroupFunction) (c : ContextRule) → AreKnown (read_in c) c.windows → AreKnown (read_in (without_over g c)) (without_over g c).windows
known_without None c h = h
known_without (Some (aggregates name)) c h = tt
known_without (Some grouped) c h = subst (λ (r : Readable). AreKnown r c.windows) (sym (same_readable c.scope c.groups)) h

known_within : (c : ContextRule) (f : Name) (over : OverTree) → AreKnown (read_in c) c.windows → AreKnown (read_in (arguments_in c f over)) (arguments_in c f over).windows
known_within c f no_over h = known_without (group_function_named f.text) c h
known_within c f (over_name name) h = h
known_within c f (over_window v) h = h

mutual
  pub resolved_is : (c : ContextRule) (a : Tree) (x : Operand SelectReference) → AreKnown (read_in c) c.windows → resolved c a ≡ Ok x → IsOperand (read_in c) x
  resolved_is c (Constant y) x known h = literal_is (read_in c) y x h
  resolved_is c (Column name) x known h = name_is c None name.text x h
  resolved_is c (Qualified table name) x known h = name_is c (Some table.text) name.text x h
  resolved_is c (CallAll f over) x known h = call_over_is c f None over x known tt h
  resolved_is c (Call f arguments over) x known h =
      let xs = bound (all_resolved (arguments_in c f over) arguments) (λ ys. call_over c f (Some ys) over) x h in
      call_over_is c f (Some xs.0) over x known (all_is (arguments_in c f over) arguments xs.0 (known_within c f over known) xs.1) xs.2
  resolved_is c (Case arms other) x known h =
      let xs = bound (arms_resolved c arms) (λ ys. else_resolved c other >>= λ y. case_of ys y) x h in
      let y = bound (else_resolved c other) (λ z. case_of xs.0 z) x xs.2 in
      case_is (read_in c) xs.0 y.0 x (arms_are c arms xs.0 known xs.1) (else_is c other y.0 known y.1) y.2
  resolved_is c (Bracket a) x known h = resolved_is c a x known h
  resolved_is c (Signed sign a) x known h = sign_is (read_in c) sign (written_number a) (resolved c a) x (λ y e. resolved_is c a y known e) h
  resolved_is c (Binary operator a b) x known h =
      let y = bound (resolved c a) (λ z. resolved c b >>= λ w. combined operator z w) x h in
      let z = bound (resolved c b) (λ w. combined operator y.0 w) x y.2 in
      combined_is (read_in c) operator y.0 z.0 x (resolved_is c a y.0 known y.1) (resolved_is c b z.0 known z.1) z.2
  resolved_is c (IsNull a not) x known h =
      let y = bound (resolved c a) (λ z. Ok (operands.tested not z)) x h in
      subst (IsOperand (read_in c)) (ok_is _ _ y.2) (tested_is (read_in c) not y.0 (resolved_is c a y.0 known y.1))
  resolved_is c (Negated a) x known h =
      let y = bound (resolved c a) (λ z. negated z) x h in
      negated_is (read_in c) y.0 x (resolved_is c a y.0 known y.1) y.2

  all_is : (c : ContextRule) (trees : Trees) (xs : List (Operand SelectReference)) → AreKnown (read_in c) c.windows → all_resolved c trees ≡ Ok xs → AllByRecursion (IsOperand (read_in c)) xs
  all_is c no_trees xs known h = subst (AllByRecursion (IsOperand (read_in c))) (ok_is _ _ h) tt
  all_is c (more_trees a trees) xs known h =
      let x = bound (resolved c a) (λ y. all_resolved c trees >>= λ ys. Ok (y ∷ ys)) xs h in
      let more = bound (all_resolved c trees) (λ ys. Ok (x.0 ∷ ys)) xs x.2 in
      subst (AllByRecursion (IsOperand (read_in c))) (ok_is _ _ more.2) (resolved_is c a x.0 known x.1, all_is c trees more.0 known more.1)

  arms_are : (c : ContextRule) (arms : Arms) (xs : List (Operand SelectReference × Operand SelectReference)) → AreKnown (read_in c) c.windows → arms_resolved c arms ≡ Ok xs → AreArms (read_in c) xs
  arms_are c no_arms xs known h = subst (AreArms (read_in c)) (ok_is _ _ h) tt
  arms_are c (more_arms when gives arms) xs known h =
      let x = bound (resolved c when) (λ z. resolved c gives >>= λ w. arms_resolved c arms >>= λ ys. Ok ((z, w) ∷ ys)) xs h in
      let y = bound (resolved c gives) (λ w. arms_resolved c arms >>= λ ys. Ok ((x.0, w) ∷ ys)) xs x.2 in
      let more = bound (arms_resolved c arms) (λ ys. Ok ((x.0, y.0) ∷ ys)) xs y.2 in
      subst (AreArms (read_in c)) (ok_is _ _ more.2) (resolved_is c when x.0 known x.1, resolved_is c gives y.0 known y.1, arms_are c arms more.0 known more.1)

  else_is : (c : ContextRule) (other : Otherwise) (x : Operand SelectReference) → AreKnown (read_in c) c.windows → else_resolved c other ≡ Ok x → IsOperand (read_in c) x
  else_is c no_else x known h = subst (IsOperand (read_in c)) (ok_is _ _ h) tt
  else_is c (or_else a) x known h = resolved_is c a x known h

  keys_are : (c : ContextRule) (keys : Keys) (ks : List BoundKey) → AreKnown (read_in c) c.windows → keys_resolved c keys ≡ Ok ks → AreKeys (read_in c) ks
  keys_are c no_keys ks known h = subst (AreKeys (read_in c)) (ok_is _ _ h) tt
  keys_are c (more_keys a direction nulls keys) ks known h =
      let x = bound (resolved c a) (λ y. key_meant y direction nulls >>= λ k. keys_resolved c keys >>= λ ls. Ok (k ∷ ls)) ks h in
      let k = bound (key_meant x.0 direction nulls) (λ k. keys_resolved c keys >>= λ ls. Ok (k ∷ ls)) ks x.2 in
      let more = bound (keys_resolved c keys) (λ ls. Ok (k.0 ∷ ls)) ks k.2 in
      subst (AreKeys (read_in c)) (ok_is _ _ more.2) (key_is (read_in c) x.0 direction nulls k.0 (resolved_is c a x.0 known x.1) k.1, keys_are c keys more.0 known more.1)

  call_over_is : (c : ContextRule) (f : Name) (arguments : Option (List (Operand SelectReference))) (over : OverTree) (x : Operand SelectReference) → AreKnown (read_in c) c.windows → AreArguments (read_in (arguments_in c f over)) arguments → call_over c f arguments over ≡ Ok x → IsOperand (read_in c) x
  call_over_is c f arguments no_over x known xs e = group_called_is c (group_function_named f.text) arguments x xs e
  call_over_is c f arguments (over_name name) x known xs e =
      let w = bound (where_allowed c (window_named c.windows name.text)) (λ v. called f arguments v) x e in
      called_is (read_in c) f arguments w.0 x xs (known_is (read_in c) c.windows name.text w.0 known (where_is c (window_named c.windows name.text) w.0 w.1)) w.2
  call_over_is c f arguments (over_window v) x known xs e =
      let w = bound (where_allowed c (window_resolved c v)) (λ meaning. called f arguments meaning) x e in
      called_is (read_in c) f arguments w.0 x xs (window_resolved_is c v w.0 known (where_is c (window_resolved c v) w.0 w.1)) w.2

  pub window_resolved_is : (c : ContextRule) (v : WindowTree) (w : BoundWindow) → AreKnown (read_in c) c.windows → window_resolved c v ≡ Ok w → IsWindow (read_in c) w
  window_resolved_is c (window base partition order frame) w known h =
      let name = option_map (λ (n : Name). n.text) base in
      let inside = moved_to place.Window c in
      let b = bound (base_named c.windows name) (λ copied. all_resolved inside partition >>= λ xs. all_settled xs >>= λ parts. keys_resolved inside order >>= λ keys. window_meant copied parts keys frame) w h in
      let xs = bound (all_resolved inside partition) (λ ys. all_settled ys >>= λ parts. keys_resolved inside order >>= λ keys. window_meant b.0 parts keys frame) w b.2 in
      let parts = bound (all_settled xs.0) (λ es. keys_resolved inside order >>= λ keys. window_meant b.0 es keys frame) w xs.2 in
      let ks = bound (keys_resolved inside order) (λ keys. window_meant b.0 parts.0 keys frame) w parts.2 in
      window_is (read_in c) b.0 parts.0 ks.0 frame w (base_is (read_in c) c.windows name b.0 known b.1) (all_settled_is (read_in c) xs.0 parts.0 (all_is inside partition xs.0 known xs.1) parts.1) (keys_are inside order ks.0 known ks.1) ks.2
