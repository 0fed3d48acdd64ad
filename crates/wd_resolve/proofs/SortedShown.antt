-- Sort keys name outputs or hidden columns that are typed, and no node is too wide for them.
use Rattle.std.proofs.Common.{◌≡◌, ◌∙◌, ap, refl, subst, ℕ, ◌+◌, ◌-◌, ◌<◌, ◌≤◌, Bool, true, false, cond, not, ◌&&◌, List, [], ◌∷◌, ◌++◌, length, filter, position, nat_lt, nat_le, Option, Some, None, Ok, Err, arith}
use Rattle.std.specs.List.{position_or_len}
use Rattle.std.proofs.lemmas.Bool.{false≢true, leb-true, lt-ltb, ltb-true}
use Rattle.std.proofs.lemmas.List.{length_push}
use Rattle.wd_value.specs.declared.order.SortKey.{SortKey}
use Rattle.wd_plan.specs.declared.expression.ValueKind.{ValueKind}
use Rattle.wd_value.specs.declared.order.SortColumn.{SortColumn}
use Rattle.wd_read_cursor.specs.declared.name.Name.{Name}
use Rattle.wd_syntax.specs.declared.expression.Literal.{Literal}
use Rattle.wd_syntax.specs.declared.expression.Literal.TheVariants as l
use Rattle.wd_syntax.specs.Tree as tree
use Rattle.wd_syntax.specs.Tree.{Tree, Keys, no_keys, more_keys}
use Rattle.wd_resolve_operand.specs.declared.cause.Cause.TheVariants.{Ambiguous, WrongSortKey, ForeignSortKey, TooMany}
use Rattle.wd_resolve_operand.specs.Causes.{Meant}
use Rattle.wd_resolve_operand.specs.BoundExpressions.{BoundExpression}
use Rattle.wd_resolve_operand.specs.Operands.{Operand, settled}
use Rattle.wd_resolve_operand.specs.Operands as operands
use Rattle.wd_resolve_call.specs.References.{SelectReference}
use Rattle.wd_resolve_scope.specs.Resolving.{plain, written_number}
use Rattle.wd_resolve_call.specs.Windows.{sort_key}
use Rattle.wd_resolve_scope.specs.Typed.{IsBoundExpression, Readable, readable}
use Rattle.wd_resolve_scope.proofs.Typing.{both, some_is}
use Rattle.wd_resolve_call.proofs.Meanings.{bound, ok_is}
use Rattle.wd_resolve_scope.proofs.TypedOperands.{settled_is}
use Rattle.wd_resolve_scope.proofs.Lists.{all_on, all_push}
use Rattle.wd_resolve_scope.specs.declared.context.Place.TheVariants as place
use Rattle.wd_resolve_scope.proofs.TypedPlain.{plain_is}
use Rattle.wd_resolve_list.specs.SelectLists.{are_wide}
use Rattle.wd_resolve_list.specs.Outputs.{expressions_of}
use Rattle.wd_resolve_select.specs.Sorting.{IsNarrow, KeyPlace, Shown, Sorted, are_one, expression_place, first_named, hidden, is_named, key_place, key_sorted, keys_sorted, literal_place, named_place, narrow_keys, or_expression, ordinal, output, output_or, shows, sorted_place, signed_place, unless_number, with_column, with_item, with_key}
use Rattle.wd_resolve.specs.Lowering.{is_sorted}
use Rattle.wd_resolve_select.proofs.PlanKinds.{AreWithin}
use Rattle.wd_resolve_list.proofs.TypedBoundExpressions.{AreBoundExpressions, bound_expressions_append}

-- ---- places

-- what a sort key may read
abbrev pub read : Shown → Readable
read s = readable s.scope s.groups

-- an output that is there, or an expression over what may stand there
abbrev pub IsPlace : Shown → KeyPlace → Type 0
IsPlace s (output n) = n < length s.outputs
IsPlace s (hidden f) = (k : ValueKind) × IsBoundExpression (read s) f k

-- a position that is found is one of the list
position_within : {A : Type 0} (t : A → Bool) (xs : List A) (n : ℕ) → position t xs ≡ Some n → n < length xs
position_within t xs n h = by (nat_lt (position_or_len t xs) (length xs)) refl h
  where
    by : (b : Bool) → nat_lt (position_or_len t xs) (length xs) ≡ b → cond b (Some (position_or_len t xs)) None ≡ Some n → n < length xs
    by true e h = subst (λ m. m < length xs) (some_is (position_or_len t xs) n h) (ltb-true (position_or_len t xs) (length xs) e)
    by false e h = cc

sorted_place_is : (s : Shown) (f : BoundExpression SelectReference) (k : ValueKind) → IsBoundExpression (read s) f k → IsPlace s (sorted_place f s.outputs)
sorted_place_is s f k is = by (position (shows f) s.outputs) refl
  where
    by : (o : Option ℕ) → position (shows f) s.outputs ≡ o → IsPlace s (output_or f o)
    by None e = (k, is)
    by (Some n) e = position_within (shows f) s.outputs n e

expression_place_is : (s : Shown) (a : Tree) (p : KeyPlace) → expression_place s a ≡ Ok p → IsPlace s p
expression_place_is s a p h =
    let x = bound (plain place.SortKey s.groups s.scope a) (λ (y : Operand SelectReference). Ok (sorted_place (settled y) s.outputs)) p h in
    subst (IsPlace s) (ok_is _ _ x.2) (sorted_place_is s (settled x.0) (operands.kind_of x.0) (settled_is (read s) x.0 (plain_is place.SortKey s.groups s.scope a x.0 x.1)))

first_named_is : (s : Shown) (name : List ℕ) (n : ℕ) → first_named name s.outputs ≡ Ok (Some n) → n < length s.outputs
first_named_is s name n h = by (are_one (filter (is_named name) s.outputs)) h
  where
    by : (b : Bool) → cond b (Ok (position (is_named name) s.outputs)) (Err Ambiguous) ≡ Ok (Some n) → n < length s.outputs
    by true h = position_within (is_named name) s.outputs n (ok_is _ _ h)
    by false h = cc

or_is : (s : Shown) (o : Option ℕ) (m : Meant KeyPlace) (p : KeyPlace) → ((n : ℕ) → o ≡ Some n → n < length s.outputs) → ((q : KeyPlace) → m ≡ Ok q → IsPlace s q) → or_expression o m ≡ Ok p → IsPlace s p
or_is s None m p h f e = f p e
or_is s (Some n) m p h f e = subst (IsPlace s) (ok_is _ _ e) (h n refl)

named_place_is : (s : Shown) (name : Name) (a : Tree) (p : KeyPlace) → named_place s name a ≡ Ok p → IsPlace s p
named_place_is s name a p h =
    let o = bound (first_named name.text s.outputs) (λ (q : Option ℕ). or_expression q (expression_place s a)) p h in
    or_is s o.0 (expression_place s a) p (λ n e. first_named_is s name.text n (o.1 ∙ ap Ok e)) (expression_place_is s a) o.2

ordinal_is : (s : Shown) (n : ℕ) (p : KeyPlace) → ordinal s.outputs n ≡ Ok p → IsPlace s p
ordinal_is s n p h = by (nat_le 1 n && nat_le n (length s.outputs)) refl h
  where
    by : (b : Bool) → (nat_le 1 n && nat_le n (length s.outputs)) ≡ b → cond b (Ok (output (n - 1))) (Err WrongSortKey) ≡ Ok p → IsPlace s p
    by true e h =
        let q = both _ _ e in
        let least = leb-true 1 n q.0 in
        let most = leb-true n (length s.outputs) q.1 in
        subst (IsPlace s) (ok_is _ _ h) (omega arith)
    by false e h = cc

literal_place_is : (s : Shown) (x : Literal) (p : KeyPlace) → literal_place s.outputs x ≡ Ok p → IsPlace s p
literal_place_is s (l.Number n) p h = let m = bound (operands.number n) (λ k. ordinal s.outputs k) p h in ordinal_is s m.0 p m.2
literal_place_is s (l.Text text) p h = cc
literal_place_is s (l.Truth b) p h = cc
literal_place_is s l.Null p h = cc

signed_is : (s : Shown) (number : Option ℕ) (m : Meant KeyPlace) (p : KeyPlace) → ((q : KeyPlace) → m ≡ Ok q → IsPlace s q) → signed_place number m ≡ Ok p → IsPlace s p
signed_is s number m p f h = let q = bound m (λ r. unless_number number r) p h in by number q.0 q.2 (f q.0 q.1)
  where
    by : (o : Option ℕ) (q : KeyPlace) → unless_number o q ≡ Ok p → IsPlace s q → IsPlace s p
    by None q e is = subst (IsPlace s) (ok_is _ _ e) is
    by (Some n) q e is = cc

key_place_is : (s : Shown) (a : Tree) (p : KeyPlace) → key_place s a ≡ Ok p → IsPlace s p
key_place_is s (tree.Bracket a) p h = key_place_is s a p h
key_place_is s (tree.Column name) p h = named_place_is s name (tree.Column name) p h
key_place_is s (tree.Constant x) p h = literal_place_is s x p h
key_place_is s (tree.Signed sign a) p h = signed_is s (written_number a) (expression_place s (tree.Signed sign a)) p (expression_place_is s (tree.Signed sign a)) h
key_place_is s (tree.Qualified table name) p h = expression_place_is s (tree.Qualified table name) p h
key_place_is s (tree.CallAll f over) p h = expression_place_is s (tree.CallAll f over) p h
key_place_is s (tree.Call f arguments over) p h = expression_place_is s (tree.Call f arguments over) p h
key_place_is s (tree.Case arms other) p h = expression_place_is s (tree.Case arms other) p h
key_place_is s (tree.Binary operator a b) p h = expression_place_is s (tree.Binary operator a b) p h
key_place_is s (tree.IsNull a not) p h = expression_place_is s (tree.IsNull a not) p h
key_place_is s (tree.Negated a) p h = expression_place_is s (tree.Negated a) p h

-- ---- the sort keys so far

pub record IsSorted (s : Shown) (so_far : Sorted) : Type 0 where
  pub items_are : AreWithin (length s.outputs + length so_far.hidden) so_far.items
  pub kinds : List ValueKind
  pub hidden_are : AreBoundExpressions (read s) so_far.hidden kinds
  pub narrow : IsNarrow s so_far

abbrev pub HasSome : List SortColumn → Type 0
HasSome items = nat_lt 0 (length items) ≡ true

push_some : (items : List SortColumn) (item : SortColumn) → HasSome (items ++ item ∷ [])
push_some items item = let long = length_push items item in lt-ltb 0 (length (items ++ item ∷ [])) (omega arith)

within_more : (n m : ℕ) (items : List SortColumn) → n ≤ m → AreWithin n items → AreWithin m items
within_more n m items few h = all_on items h (λ item g. omega arith)

-- a key by an output
item_is : (s : Shown) (n : ℕ) (key : SortKey) (so_far : Sorted) → n < length s.outputs → IsSorted s so_far → IsSorted s (with_item n key so_far)
item_is s n key so_far is h =
    let within : n < length s.outputs + length so_far.hidden = omega arith in
    record {
      items_are = all_push (λ (i : SortColumn). i.column < length s.outputs + length so_far.hidden) so_far.items (record { column = n; key = key }) h.items_are within;
      kinds = h.kinds;
      hidden_are = h.hidden_are;
      narrow = h.narrow;
    }

-- a key by a new hidden column
column_is : (s : Shown) (f : BoundExpression SelectReference) (k : ValueKind) (key : SortKey) (so_far : Sorted) → IsBoundExpression (read s) f k → IsSorted s so_far → IsNarrow s (with_column s f key so_far) → IsSorted s (with_column s f key so_far)
column_is s f k key so_far is h narrow =
    let long = length_push so_far.hidden f in
    let old : AreWithin (length s.outputs + length (so_far.hidden ++ f ∷ [])) so_far.items = within_more (length s.outputs + length so_far.hidden) (length s.outputs + length (so_far.hidden ++ f ∷ [])) so_far.items (omega arith) h.items_are in
    let new : length s.outputs + length so_far.hidden < length s.outputs + length (so_far.hidden ++ f ∷ []) = omega arith in
    record {
      items_are = all_push (λ (item : SortColumn). item.column < length s.outputs + length (so_far.hidden ++ f ∷ [])) so_far.items (record { column = length s.outputs + length so_far.hidden; key = key }) old new;
      kinds = h.kinds ++ k ∷ [];
      hidden_are = bound_expressions_append (read s) so_far.hidden (f ∷ []) h.kinds (k ∷ []) h.hidden_are (is, tt);
      narrow = narrow;
    }

hidden_is : (s : Shown) (f : BoundExpression SelectReference) (k : ValueKind) (key : SortKey) (so_far r : Sorted) → IsBoundExpression (read s) f k → IsSorted s so_far → cond s.distinct (Err ForeignSortKey) (narrow_keys s (with_column s f key so_far)) ≡ Ok r → IsSorted s r × HasSome r.items
hidden_is s f k key so_far r is h g = by s.distinct g
  where
    wide : (b : Bool) → are_wide s.below (expressions_of s.outputs) (with_column s f key so_far).hidden ≡ b → cond b (Err TooMany) (Ok (with_column s f key so_far)) ≡ Ok r → IsSorted s r × HasSome r.items
    wide true e g = cc
    wide false e g = subst (λ (z : Sorted). IsSorted s z × HasSome z.items) (ok_is _ _ g) (column_is s f k key so_far is h e, push_some so_far.items (record { column = length s.outputs + length so_far.hidden; key = key }))

    by : (b : Bool) → cond b (Err ForeignSortKey) (narrow_keys s (with_column s f key so_far)) ≡ Ok r → IsSorted s r × HasSome r.items
    by true g = cc
    by false g = wide (are_wide s.below (expressions_of s.outputs) (with_column s f key so_far).hidden) refl g

with_key_is : (s : Shown) (p : KeyPlace) (key : SortKey) (so_far r : Sorted) → IsPlace s p → IsSorted s so_far → with_key s p key so_far ≡ Ok r → IsSorted s r × HasSome r.items
with_key_is s (output n) key so_far r is h e = subst (λ (z : Sorted). IsSorted s z × HasSome z.items) (ok_is _ _ e) (item_is s n key so_far is h, push_some so_far.items (record { column = n; key = key }))
with_key_is s (hidden f) key so_far r is h e = hidden_is s f is.0 key so_far r is.1 h e

pub keys_sorted_is : (s : Shown) (keys : Keys) (so_far r : Sorted) → IsSorted s so_far → keys_sorted s keys so_far ≡ Ok r → IsSorted s r × (HasSome so_far.items → HasSome r.items) × (is_sorted keys ≡ true → HasSome r.items)
keys_sorted_is s no_keys so_far r h e = subst (λ (z : Sorted). IsSorted s z × (HasSome so_far.items → HasSome z.items) × (is_sorted no_keys ≡ true → HasSome z.items)) (ok_is _ _ e) (h, λ x. x, λ x. absurd (false≢true x))
keys_sorted_is s (more_keys a direction nulls keys) so_far r h e =
    let next = bound (key_sorted s a (sort_key direction nulls) so_far) (λ (z : Sorted). keys_sorted s keys z) r e in
    let p = bound (key_place s a) (λ (q : KeyPlace). with_key s q (sort_key direction nulls) so_far) next.0 next.1 in
    let one = with_key_is s p.0 (sort_key direction nulls) so_far next.0 (key_place_is s a p.0 p.1) h p.2 in
    let rest = keys_sorted_is s keys next.0 r one.0 next.2 in
    (rest.0, λ x. rest.1 one.1, λ x. rest.1 one.1)
