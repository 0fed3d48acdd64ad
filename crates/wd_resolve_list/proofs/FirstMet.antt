-- First occurrences of one list after another, and what expressions need one after another.
use Rattle.std.proofs.Common.{◌≡◌, ◌∙◌, sym, ap, refl, ℕ, suc, ◌+◌, ◌<◌, ◌≤◌, Bool, true, false, not, ◌||◌, cond, List, [], ◌∷◌, ◌++◌, length, map, ltb, arith}
use Rattle.std.proofs.lemmas.Bool.{ltb-true, ltb-false}
use Rattle.std.proofs.lemmas.List.{append-nil, append_assoc}
use Rattle.std.specs.List.{list_any, position_or_len}
use Rattle.wd_resolve_operand.specs.BoundExpressions.{BoundExpression, references}
use Rattle.wd_resolve_call.specs.Calls.{BoundCall, same_call}
use Rattle.wd_resolve_call.specs.References.{SelectReference, of_row, call}
use Rattle.wd_resolve_call.specs.Rows.{GroupCall, RowReference, column, of_group, RowExpression, same_group_call, same_row_expression}
use Rattle.wd_resolve_list.specs.SelectLists.{ProjectedInputs, all_references, all_row_references, argument_of, calls_among, group_calls_among, group_calls_read, projected_with, read_by, read_by_all, sorted_by, with_new}

-- what stands at a number below theirs is among these
among : {A B : Type 0} (f : A → B) (t : B → Bool) (xs : List A) → position_or_len t (map f xs) < length xs → list_any t (map f xs) ≡ true
among f t [] h = absurd (omega (arith, h))
among f t (x ∷ xs) h = by (t (f x)) h (among f t xs)
  where
    n : ℕ
    n = position_or_len t (map f xs)

    by : (b : Bool) → cond (not b) (1 + n) 0 < suc (length xs) → (n < length xs → list_any t (map f xs) ≡ true) → (b || list_any t (map f xs)) ≡ true
    by true g later = refl
    by false g later = later (omega (arith, g))

not_among : {A B : Type 0} (f : A → B) (t : B → Bool) (xs : List A) → length xs ≤ position_or_len t (map f xs) → list_any t (map f xs) ≡ false
not_among f t [] h = refl
not_among f t (x ∷ xs) h = by (t (f x)) h (not_among f t xs)
  where
    n : ℕ
    n = position_or_len t (map f xs)

    by : (b : Bool) → suc (length xs) ≤ cond (not b) (1 + n) 0 → (length xs ≤ n → list_any t (map f xs) ≡ false) → (b || list_any t (map f xs)) ≡ false
    by true g later = absurd (omega (arith, g))
    by false g later = later (omega (arith, g))

-- some element passes where the first that does stands at a number below theirs
pub any_by_number : {A B : Type 0} (f : A → B) (t : B → Bool) (xs : List A) → list_any t (map f xs) ≡ ltb (position_or_len t (map f xs)) (length xs)
any_by_number f t xs = by (ltb (position_or_len t (map f xs)) (length xs)) refl
  where
    by : (b : Bool) → ltb (position_or_len t (map f xs)) (length xs) ≡ b → list_any t (map f xs) ≡ b
    by true e = among f t xs (ltb-true _ _ e)
    by false e = not_among f t xs (ltb-false _ _ e)

pub with_new_append : {A : Type 0} (same : A → A → Bool) (seen xs ys : List A) → with_new same seen (xs ++ ys) ≡ with_new same (with_new same seen xs) ys
with_new_append same seen [] ys = refl
with_new_append same seen (x ∷ xs) ys = with_new_append same (cond (list_any (same x) seen) seen (seen ++ x ∷ [])) xs ys

calls_append : (xs ys : List SelectReference) → calls_among (xs ++ ys) ≡ calls_among xs ++ calls_among ys
calls_append [] ys = refl
calls_append (of_row l ∷ xs) ys = calls_append xs ys
calls_append (call c ∷ xs) ys = ap (λ cs. c ∷ cs) (calls_append xs ys)

pub read_append : (xs ys : List SelectReference) → read_by_all (xs ++ ys) ≡ read_by_all xs ++ read_by_all ys
read_append [] ys = refl
read_append (x ∷ xs) ys = ap (λ fs. read_by x ++ fs) (read_append xs ys) ∙ sym (append_assoc (read_by x) (read_by_all xs) (read_by_all ys))

groups_append : (xs ys : List RowReference) → group_calls_among (xs ++ ys) ≡ group_calls_among xs ++ group_calls_among ys
groups_append [] ys = refl
groups_append (column n ∷ xs) ys = groups_append xs ys
groups_append (of_group c ∷ xs) ys = ap (λ cs. c ∷ cs) (groups_append xs ys)

row_references_append : (fs gs : List RowExpression) → all_row_references (fs ++ gs) ≡ all_row_references fs ++ all_row_references gs
row_references_append [] gs = refl
row_references_append (f ∷ fs) gs = ap (λ ls. references f ++ ls) (row_references_append fs gs) ∙ sym (append_assoc (references f) (all_row_references fs) (all_row_references gs))

-- ---- one list after another

pub calls_added : (calls : List BoundCall) (xs ys : List SelectReference) → with_new same_call calls (calls_among (xs ++ ys)) ≡ with_new same_call (with_new same_call calls (calls_among xs)) (calls_among ys)
calls_added calls xs ys = ap (with_new same_call calls) (calls_append xs ys) ∙ with_new_append same_call calls (calls_among xs) (calls_among ys)

pub inputs_added : (inputs : List RowExpression) (xs ys : List SelectReference) → with_new same_row_expression inputs (read_by_all (xs ++ ys)) ≡ with_new same_row_expression (with_new same_row_expression inputs (read_by_all xs)) (read_by_all ys)
inputs_added inputs xs ys = ap (with_new same_row_expression inputs) (read_append xs ys) ∙ with_new_append same_row_expression inputs (read_by_all xs) (read_by_all ys)

pub groups_added : (calls : List GroupCall) (xs ys : List RowReference) → with_new same_group_call calls (group_calls_among (xs ++ ys)) ≡ with_new same_group_call (with_new same_group_call calls (group_calls_among xs)) (group_calls_among ys)
groups_added calls xs ys = ap (with_new same_group_call calls) (groups_append xs ys) ∙ with_new_append same_group_call calls (group_calls_among xs) (group_calls_among ys)

bound_expressions_added : (calls : List GroupCall) (fs gs : List RowExpression) → with_new same_group_call calls (group_calls_among (all_row_references (fs ++ gs))) ≡ with_new same_group_call (with_new same_group_call calls (group_calls_among (all_row_references fs))) (group_calls_among (all_row_references gs))
bound_expressions_added calls fs gs = ap (λ ls. with_new same_group_call calls (group_calls_among ls)) (row_references_append fs gs) ∙ groups_added calls (all_row_references fs) (all_row_references gs)

-- the calls over groups that references read
pub read_added : (calls : List GroupCall) (xs ys : List SelectReference) → with_new same_group_call calls (group_calls_read (xs ++ ys)) ≡ with_new same_group_call (with_new same_group_call calls (group_calls_read xs)) (group_calls_read ys)
read_added calls xs ys = ap (λ fs. with_new same_group_call calls (group_calls_among (all_row_references fs))) (read_append xs ys) ∙ bound_expressions_added calls (read_by_all xs) (read_by_all ys)

-- those that a window call reads, part by part
pub call_groups : (calls : List GroupCall) (c : BoundCall) → with_new same_group_call calls (group_calls_read (call c ∷ []))
    ≡ with_new same_group_call (with_new same_group_call (with_new same_group_call calls (group_calls_among (all_row_references (argument_of c.function)))) (group_calls_among (all_row_references c.window.partition))) (group_calls_among (all_row_references (map sorted_by c.window.order)))
call_groups calls c =
    let arguments = argument_of c.function in
    let partition = c.window.partition in
    let order = map sorted_by c.window.order in
    ap (λ fs. with_new same_group_call calls (group_calls_among (all_row_references fs))) (append-nil (arguments ++ partition ++ order))
    ∙ bound_expressions_added calls (arguments ++ partition) order
    ∙ ap (λ cs. with_new same_group_call cs (group_calls_among (all_row_references order))) (bound_expressions_added calls arguments partition)

pub one_bound_expression : (f : RowExpression) → all_row_references (f ∷ []) ≡ references f
one_bound_expression f = append-nil (references f)

pub projected_append : (projected : ProjectedInputs) (xs ys : List SelectReference) → projected_with projected (xs ++ ys) ≡ projected_with (projected_with projected xs) ys
projected_append projected xs ys = λ i. record { calls = calls_added projected.calls xs ys i; inputs = inputs_added projected.inputs xs ys i; groups = read_added projected.groups xs ys i }

pub references_append : (fs gs : List (BoundExpression SelectReference)) → all_references (fs ++ gs) ≡ all_references fs ++ all_references gs
references_append [] gs = refl
references_append (f ∷ fs) gs = ap (λ ls. references f ++ ls) (references_append fs gs) ∙ sym (append_assoc (references f) (all_references fs) (all_references gs))
