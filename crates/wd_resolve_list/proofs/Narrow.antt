-- Where no node is too wide, there are few columns.
use Rattle.std.proofs.Common.{◌≡◌, ◌∙◌, sym, ap, subst, ◌+◌, ◌≤◌, ℕ, Bool, true, false, cond, List, [], ◌∷◌, ◌++◌, map, length, nat_lt, Option, Some, arith}
use Rattle.std.specs.Prelude.{flat_map}
use Rattle.std.specs.List.{list_any}
use Rattle.std.proofs.lemmas.Bool.{ltb-false, or_parts}
use Rattle.std.proofs.lemmas.List.{length-append, length-map, length_push}
use Rattle.wd_plan.specs.Equality.{same_expression}
use Rattle.wd_plan.specs.declared.expression.Expr.{Expr}
use Rattle.wd_plan.specs.Expressions.{Column, expression_of}
use Rattle.wd_resolve_call.specs.Rows.{count_rows, count_of, sum_of, least_of, greatest_of, GroupCall, of_rows, grouping}
use Rattle.wd_resolve_list.specs.SelectLists.{GroupedBy, ProjectedInputs, group_argument_of, group_inputs, is_group_wide, is_wide, is_window_wide, with_new}

-- the columns of the Group
pub few_groups : (g : GroupedBy) (calls : List GroupCall) → is_group_wide (Some g) calls ≡ false → length g.columns + length calls ≤ 1024
few_groups g calls h = ltb-false 1024 (length g.columns + length calls) h

-- elements and those of them that are new are no more than both together
with_new_few : {A : Type 0} (same : A → A → Bool) (seen xs : List A) → length (with_new same seen xs) ≤ length seen + length xs
with_new_few same seen [] = omega arith
with_new_few same seen (x ∷ xs) = by (list_any (same x) seen) (with_new_few same seen xs) (with_new_few same (seen ++ x ∷ []) xs) (length_push seen x)
  where
    by : (b : Bool) → length (with_new same seen xs) ≤ length seen + length xs → length (with_new same (seen ++ x ∷ []) xs) ≤ length (seen ++ x ∷ []) + length xs → length (seen ++ x ∷ []) ≡ length seen + 1
        → length (with_new same (cond b seen (seen ++ x ∷ [])) xs) ≤ length seen + length (x ∷ xs)
    by true kept pushed long = omega (arith, kept)
    by false kept pushed long = omega (arith, pushed, long)

-- a call over groups has one value argument at most
one_argument : (call : GroupCall) → length (group_argument_of call) ≤ 1
one_argument (of_rows count_rows) = omega arith
one_argument (of_rows (count_of a)) = omega arith
one_argument (of_rows (sum_of a)) = omega arith
one_argument (of_rows (least_of a)) = omega arith
one_argument (of_rows (greatest_of a)) = omega arith
one_argument (grouping columns) = omega arith

arguments_few : (calls : List GroupCall) → length (flat_map group_argument_of calls) ≤ length calls
arguments_few [] = omega arith
arguments_few (call ∷ calls) =
    let one = one_argument call in
    let rest = arguments_few calls in
    let both = length-append (group_argument_of call) (flat_map group_argument_of calls) in
    omega (arith, one, rest, both)

-- the columns of the Map below it
pub few_arguments : (g : GroupedBy) (calls : List GroupCall) → is_group_wide (Some g) calls ≡ false → length (group_inputs g.columns calls) ≤ 1024
few_arguments g calls h =
    let shown = with_new_few same_expression (map Column g.columns) (flat_map group_argument_of calls) in
    let columns = length-map g.columns Column in
    let arguments = arguments_few calls in
    let few = few_groups g calls h in
    omega (arith, shown, columns, arguments, few)

pub few_inputs : (g : GroupedBy) (calls : List GroupCall) (inputs : List Expr) → is_group_wide (Some g) calls ≡ false → map expression_of inputs ≡ group_inputs g.columns calls → length inputs ≤ 1024
few_inputs g calls inputs h e = subst (λ n. n ≤ 1024) (sym (ap length e) ∙ length-map inputs expression_of) (few_arguments g calls h)

-- the nodes below the Map of what is shown
pub narrow_below : (shown : ℕ) (grouped : Option GroupedBy) (projected : ProjectedInputs) → is_wide shown grouped projected ≡ false → (is_window_wide projected ≡ false) × (is_group_wide grouped projected.groups ≡ false)
narrow_below shown grouped projected h = or_parts (is_window_wide projected) (is_group_wide grouped projected.groups) (or_parts (nat_lt 1024 shown) _ h).1
