-- The steps of a plan above FROM and WHERE fit: the Group, HAVING, the Window and the Map of what is shown.
use Rattle.std.proofs.Common.{◌≡◌, ◌∙◌, sym, ap, refl, subst, ℕ, ◌+◌, ◌≤◌, Bool, true, false, cond, List, [], ◌∷◌, ◌++◌, length, Option, Some, None, option_map, Ok, Err, arith}
use Rattle.std.specs.List.{AllByRecursion, list_any}
use Rattle.std.proofs.lemmas.Bool.{false≢true, ltb-false, or_parts}
use Rattle.std.proofs.lemmas.List.{length-append}
use Rattle.wd_schema.specs.Tables.{TableRule}
use Rattle.wd_plan.specs.declared.expression.ValueKind.{ValueKind}
use Rattle.wd_plan.specs.declared.expression.ValueKind.TheVariants.{Truth}
use Rattle.wd_plan.specs.Fits.{Kinds, fits, kinds_of}
use Rattle.wd_plan.specs.Plans.{PlanTree}
use Rattle.wd_resolve_operand.specs.BoundExpressions.{BoundExpression, references}
use Rattle.wd_syntax.specs.Tree.{Tree}
use Rattle.wd_resolve_operand.specs.declared.cause.Cause.TheVariants.{TooMany}
use Rattle.wd_resolve_scope.specs.Resolving.{group_condition}
use Rattle.wd_resolve_call.specs.References.{SelectReference}
use Rattle.wd_resolve_call.specs.Rows.{GroupCall, RowReference, column, of_group, RowExpression, same_group_call}
use Rattle.wd_resolve_scope.specs.Scopes.{ScopeRule}
use Rattle.wd_resolve_scope.specs.Typed.{AreTyped, IsGroupCall, IsReference, IsRowExpression, IsRowReference, Readable, readable, row_kind_at}
use Rattle.wd_resolve_scope.proofs.Rebased.{AreRebased, IsRebased, rebased_kind, rebased_typed}
use Rattle.wd_resolve_scope.proofs.TypedPlain.{group_condition_is}
use Rattle.wd_resolve_scope.proofs.Typing.{and_both}
use Rattle.wd_resolve_call.proofs.Meanings.{bound, ok_is}
use Rattle.wd_resolve_list.specs.Grouping.{IsNarrow, below_meant, grouped_rule, having_meant, narrow_below as narrow_below_meant}
use Rattle.wd_resolve_list.specs.SelectLists.{Below, GroupedBy, ProjectedInputs, all_references, all_projected, all_row_references, are_wide, column_of, group_calls_among, group_calls_read, group_place, having_groups, is_group_wide, is_window_wide, projected_of, projected_with, no_projected, read_by_all, with_new}
use Rattle.wd_resolve_select.specs.Steps.{group_on, having_on, mapped, mapped_over}
use Rattle.wd_resolve_list.proofs.Among.{all_append, all_on_each, all_split, all_there, all_with_new, still_there}
use Rattle.wd_resolve_list.proofs.FirstMet.{references_append, projected_append, read_append}
use Rattle.wd_resolve_select.proofs.Grouped.{group_fits, reference_over}
use Rattle.wd_resolve_list.proofs.GroupedColumns.{AreGrouped, IsGrouped}
use Rattle.wd_resolve_list.proofs.Narrow.{narrow_below}
use Rattle.wd_resolve_select.proofs.PlanKinds.{HasKinds, scope_is, scope_kinds}
use Rattle.wd_resolve_list.proofs.ReadBy.{all_read_typed, same_group_call-itself}
use Rattle.wd_resolve_list.proofs.TypedBoundExpressions.{AreBoundExpressions, bound_expressions_references}
use Rattle.wd_resolve_select.proofs.Windowed.{mapped_over_is}

-- ---- the references of what is read

module _ (r : Readable) where
  -- what holds of each reference that is there, holds of the references of what is typed
  references_typed : (fs : List RowExpression) → AreTyped r fs → AllByRecursion (IsRowReference r) (all_row_references fs)
  references_typed [] h = tt
  references_typed (f ∷ fs) h = all_append (IsRowReference r) (references f) (all_row_references fs) h.0.expression.references_are (references_typed fs h.1)

  groups_typed : (ls : List RowReference) → AllByRecursion (IsRowReference r) ls → AllByRecursion (IsGroupCall r) (group_calls_among ls)
  groups_typed [] h = tt
  groups_typed (column n ∷ ls) h = groups_typed ls h.1
  groups_typed (of_group c ∷ ls) h = (h.0.1, groups_typed ls h.1)

-- each expression apart
each_rebased : (P : RowReference → Type 0) (fs : List RowExpression) → AllByRecursion P (all_row_references fs) → AllByRecursion (λ f. AllByRecursion P (references f)) fs
each_rebased P [] h = tt
each_rebased P (f ∷ fs) h = let p = all_split P (references f) (all_row_references fs) h in (p.0, each_rebased P fs p.1)

-- ---- what stands below the windows

-- a condition, if there is one
abbrev pub IsCondition : Readable → Option RowExpression → Type 0
IsCondition r None = Unit {0}
IsCondition r (Some f) = IsRowExpression r f Truth

abbrev pub condition_references : Option RowExpression → List RowReference
condition_references None = []
condition_references (Some f) = references f

abbrev pub read_above : ScopeRule → Below → Readable
read_above scope below = readable scope (option_map grouped_rule below.grouped)

having_is : (scope : ScopeRule) (grouped : Option GroupedBy) (having : Option Tree) (f : Option RowExpression) → having_meant scope grouped having ≡ Ok f → IsCondition (readable scope (option_map grouped_rule grouped)) f
having_is scope grouped None f e = subst (IsCondition (readable scope (option_map grouped_rule grouped))) (ok_is _ _ e) tt
having_is scope grouped (Some a) f e =
    let rule = option_map grouped_rule grouped in
    let x = bound (group_condition rule scope a) (λ y. Ok (Some y)) f e in
    subst (IsCondition (readable scope rule)) (ok_is _ _ x.2) (group_condition_is rule scope a x.0 x.1)

-- what is meant to stand below the windows
pub record IsBelow (scope : ScopeRule) (below : Below) : Type 0 where
  pub condition : IsCondition (read_above scope below) below.having
  pub narrow : IsNarrow below

pub below_is : (scope : ScopeRule) (grouped : Option GroupedBy) (having : Option Tree) (below : Below) → below_meant scope grouped having ≡ Ok below → (grouped ≡ below.grouped) × IsBelow scope below
below_is scope grouped having below e =
    let f = bound (having_meant scope grouped having) (λ x. narrow_below_meant (record { grouped = grouped; having = x })) below e in
    by f.0 (having_is scope grouped having f.0 f.1) (is_group_wide grouped (having_groups [] f.0)) refl f.2
  where
    by : (f : Option RowExpression) → IsCondition (readable scope (option_map grouped_rule grouped)) f → (b : Bool) → is_group_wide grouped (having_groups [] f) ≡ b → cond b (Err TooMany) (Ok (record { grouped = grouped; having = f })) ≡ Ok below → (grouped ≡ below.grouped) × IsBelow scope below
    by f h true wide e = cc
    by f h false wide e = subst (λ (x : Below). (grouped ≡ x.grouped) × IsBelow scope x) (ok_is _ _ e) (refl, record { condition = h; narrow = wide })

-- ---- a select that is not grouped

module _ (tables : List TableRule) (plan : PlanTree) (scope : ScopeRule) (plan_is : HasKinds tables plan (scope_kinds scope)) where
  -- each column stands where FROM has it
  column_rebased : (l : RowReference) → IsRowReference (readable scope None) l → IsRebased (row_kind_at (readable scope None).kinds) column_of (kinds_of tables plan) l
  column_rebased (column n) h = plan_is.each n ∙ sym (scope_is scope n)
  column_rebased (of_group c) h = absurd (false≢true h.0)

  pub columns_rebased : (fs : List RowExpression) → AreTyped (readable scope None) fs → AllByRecursion (AreRebased (row_kind_at (readable scope None).kinds) column_of (kinds_of tables plan)) fs
  columns_rebased fs h =
      let P = IsRebased (row_kind_at (readable scope None).kinds) column_of (kinds_of tables plan) in
      each_rebased P fs (all_on_each (IsRowReference (readable scope None)) P column_rebased (all_row_references fs) (references_typed (readable scope None) fs h))

-- ---- a select that is grouped

module _ (tables : List TableRule) (plan : PlanTree) (scope : ScopeRule) (plan_is : HasKinds tables plan (scope_kinds scope)) (g : GroupedBy) (grouped : IsGrouped scope g) (calls : List GroupCall)
    (calls_are : AllByRecursion (IsGroupCall (readable scope (Some (grouped_rule g)))) calls) (narrow : is_group_wide (Some g) calls ≡ false) where
  abbrev r : Readable
  r = readable scope (Some (grouped_rule g))

  abbrev place : RowReference → ℕ
  place = group_place g.columns calls

  abbrev Over : Kinds
  Over = kinds_of tables (group_on g calls plan)

  abbrev IsOver : RowReference → Type 0
  IsOver = IsRebased (row_kind_at r.kinds) place Over

  -- references whose calls are those of the Group
  references_over : (ls : List RowReference) → AllByRecursion (IsRowReference r) ls → AllByRecursion (λ c. list_any (same_group_call c) calls ≡ true) (group_calls_among ls) → AllByRecursion IsOver ls
  references_over [] h there = tt
  references_over (column n ∷ ls) h there = (reference_over tables plan scope plan_is g grouped calls calls_are narrow (column n) h.0 tt, references_over ls h.1 there)
  references_over (of_group c ∷ ls) h there = (reference_over tables plan scope plan_is g grouped calls calls_are narrow (of_group c) h.0 there.0, references_over ls h.1 there.1)

  pub bound_expressions_over : (fs : List RowExpression) → AreTyped r fs → AllByRecursion (λ c. list_any (same_group_call c) calls ≡ true) (group_calls_among (all_row_references fs)) → AllByRecursion (AreRebased (row_kind_at r.kinds) place Over) fs
  bound_expressions_over fs h there = each_rebased IsOver fs (references_over (all_row_references fs) (references_typed r fs h) there)

  -- HAVING over the Group
  pub having_fits : (having : Option RowExpression) → IsCondition r having → AllByRecursion (λ c. list_any (same_group_call c) calls ≡ true) (group_calls_among (condition_references having)) → fits tables (having_on place having (group_on g calls plan)) ≡ true
  having_fits None h there = group_fits tables plan scope plan_is g grouped calls calls_are narrow
  having_fits (Some f) h there =
      let over = references_over (references f) h.references_are there in
      and_both _ _ (group_fits tables plan scope plan_is g grouped calls calls_are narrow)
      (and_both _ _ (rebased_typed (row_kind_at r.kinds) place Over f over ∙ h.is) (rw (rebased_kind (row_kind_at r.kinds) place Over f over ∙ h.has) refl))

  pub having_kinds : (having : Option RowExpression) (c : ℕ) → Over c ≡ kinds_of tables (having_on place having (group_on g calls plan)) c
  having_kinds None c = refl
  having_kinds (Some f) c = refl

-- ---- all steps

module _ (tables : List TableRule) (plan : PlanTree) (scope : ScopeRule) (plan_is : HasKinds tables plan (scope_kinds scope)) (outputs hidden : List (BoundExpression SelectReference)) (ks : List ValueKind) where
  abbrev whole : List (BoundExpression SelectReference)
  whole = outputs ++ hidden

  abbrev read : List (BoundExpression SelectReference) → List RowExpression
  read fs = read_by_all (all_references fs)

  read_whole : read outputs ++ read hidden ≡ read whole
  read_whole = sym (ap read_by_all (references_append outputs hidden) ∙ read_append (all_references outputs) (all_references hidden))

  -- the calls and inputs of the Window are those of all expressions
  projected_whole : projected_of whole ≡ projected_with (projected_of outputs) (all_references hidden)
  projected_whole = ap (projected_with no_projected) (references_append outputs hidden) ∙ projected_append no_projected (all_references outputs) (all_references hidden)

  few_shown : length outputs + length hidden ≤ 1024 → length whole ≤ 1024
  few_shown few = let long = length-append outputs hidden in omega (arith, few, long)

  module _ (g : GroupedBy) (grouped : IsGrouped scope g) (having : Option RowExpression) (condition : IsCondition (readable scope (Some (grouped_rule g))) having) (are : AreBoundExpressions (readable scope (Some (grouped_rule g))) whole ks) where
    abbrev above : Readable
    above = readable scope (Some (grouped_rule g))

    abbrev below : Below
    below = record { grouped = Some g; having = having }

    abbrev of_outputs : List GroupCall
    of_outputs = with_new same_group_call [] (group_calls_read (all_references outputs))

    abbrev with_condition : List GroupCall
    with_condition = having_groups of_outputs having

    abbrev calls : List GroupCall
    calls = with_new same_group_call with_condition (group_calls_read (all_references hidden))

    abbrev AreThere : List GroupCall → Type 0
    AreThere cs = AllByRecursion (λ c. list_any (same_group_call c) calls ≡ true) cs

    both_references : AllByRecursion (IsReference above) (all_references outputs) × AllByRecursion (IsReference above) (all_references hidden)
    both_references = all_split (IsReference above) (all_references outputs) (all_references hidden) (subst (AllByRecursion (IsReference above)) (references_append outputs hidden) (bound_expressions_references above whole ks are))

    outputs_typed : AreTyped above (read outputs)
    outputs_typed = all_read_typed above (all_references outputs) both_references.0

    hidden_typed : AreTyped above (read hidden)
    hidden_typed = all_read_typed above (all_references hidden) both_references.1

    calls_of : (fs : List RowExpression) → AreTyped above fs → AllByRecursion (IsGroupCall above) (group_calls_among (all_row_references fs))
    calls_of fs h = groups_typed above (all_row_references fs) (references_typed above fs h)

    outputs_calls : AllByRecursion (IsGroupCall above) of_outputs
    outputs_calls = all_with_new same_group_call (IsGroupCall above) [] (group_calls_read (all_references outputs)) tt (calls_of (read outputs) outputs_typed)

    condition_calls : (f : Option RowExpression) → IsCondition above f → AllByRecursion (IsGroupCall above) (having_groups of_outputs f)
    condition_calls None h = outputs_calls
    condition_calls (Some f) h = all_with_new same_group_call (IsGroupCall above) of_outputs (group_calls_among (references f)) outputs_calls (groups_typed above (references f) h.references_are)

    calls_are : AllByRecursion (IsGroupCall above) calls
    calls_are = all_with_new same_group_call (IsGroupCall above) with_condition (group_calls_read (all_references hidden)) (condition_calls having condition) (calls_of (read hidden) hidden_typed)

    kept_with : (f : Option RowExpression) (c : GroupCall) → list_any (same_group_call c) of_outputs ≡ true → list_any (same_group_call c) (having_groups of_outputs f) ≡ true
    kept_with None c h = h
    kept_with (Some f) c h = still_there same_group_call c of_outputs (group_calls_among (references f)) h

    to_calls : (c : GroupCall) → list_any (same_group_call c) with_condition ≡ true → list_any (same_group_call c) calls ≡ true
    to_calls c h = still_there same_group_call c with_condition (group_calls_read (all_references hidden)) h

    outputs_there : AreThere (group_calls_read (all_references outputs))
    outputs_there = all_on_each (λ c. list_any (same_group_call c) of_outputs ≡ true) (λ c. list_any (same_group_call c) calls ≡ true) (λ c h. to_calls c (kept_with having c h)) (group_calls_read (all_references outputs)) (all_there same_group_call same_group_call-itself [] (group_calls_read (all_references outputs)))

    condition_there : (f : Option RowExpression) → AllByRecursion (λ c. list_any (same_group_call c) (having_groups of_outputs f) ≡ true) (group_calls_among (condition_references f))
    condition_there None = tt
    condition_there (Some f) = all_there same_group_call same_group_call-itself of_outputs (group_calls_among (references f))

    having_there : AreThere (group_calls_among (condition_references having))
    having_there = all_on_each (λ c. list_any (same_group_call c) with_condition ≡ true) (λ c. list_any (same_group_call c) calls ≡ true) to_calls (group_calls_among (condition_references having)) (condition_there having)

    hidden_there : AreThere (group_calls_read (all_references hidden))
    hidden_there = all_there same_group_call same_group_call-itself with_condition (group_calls_read (all_references hidden))

    pub grouped_mapped : are_wide below outputs hidden ≡ false → HasKinds tables (mapped below outputs hidden plan) ks
    grouped_mapped wide =
        let few = ltb-false 1024 (length outputs + length hidden) (or_parts _ _ wide).0 in
        let narrow = narrow_below (length outputs + length hidden) below.grouped (all_projected below outputs hidden) wide in
        let place = group_place g.columns calls in
        let rows = having_on place having (group_on g calls plan) in
        let rows_fit = having_fits tables plan scope plan_is g grouped calls calls_are narrow.1 having condition having_there in
        let P = AreRebased (row_kind_at above.kinds) place (kinds_of tables (group_on g calls plan)) in
        let over : AllByRecursion P (read whole) = subst (AllByRecursion P) read_whole (all_append P (read outputs) (read hidden) (bound_expressions_over tables plan scope plan_is g grouped calls calls_are narrow.1 (read outputs) outputs_typed outputs_there) (bound_expressions_over tables plan scope plan_is g grouped calls calls_are narrow.1 (read hidden) hidden_typed hidden_there)) in
        let rebased_are = subst (λ (kinds : Kinds). AllByRecursion (AreRebased (row_kind_at above.kinds) place kinds) (read whole)) (λ i c. having_kinds tables plan scope plan_is g grouped calls calls_are narrow.1 having c i) over in
        let window : is_window_wide (projected_of whole) ≡ false = subst (λ (m : ProjectedInputs). is_window_wide m ≡ false) (sym projected_whole) narrow.0 in
        subst (λ (m : ProjectedInputs). HasKinds tables (mapped_over place m whole rows) ks) projected_whole (mapped_over_is tables rows above place whole ks rows_fit are rebased_are (few_shown few) window)

  pub mapped_is : (below : Below) → AreGrouped scope below.grouped → IsCondition (read_above scope below) below.having → AreBoundExpressions (read_above scope below) whole ks → are_wide below outputs hidden ≡ false → HasKinds tables (mapped below outputs hidden plan) ks
  mapped_is below grouped condition are wide = by below.grouped below.having grouped condition are wide
    where
      by : (g : Option GroupedBy) (having : Option RowExpression) → AreGrouped scope g → IsCondition (readable scope (option_map grouped_rule g)) having → AreBoundExpressions (readable scope (option_map grouped_rule g)) whole ks
          → are_wide (record { grouped = g; having = having }) outputs hidden ≡ false → HasKinds tables (mapped (record { grouped = g; having = having }) outputs hidden plan) ks
      by (Some g) having grouped condition are wide = grouped_mapped g grouped having condition are wide
      by None having grouped condition are wide =
          let few = ltb-false 1024 (length outputs + length hidden) (or_parts _ _ wide).0 in
          let narrow = narrow_below (length outputs + length hidden) None (all_projected (record { grouped = None; having = having }) outputs hidden) wide in
          let r = readable scope None in
          let window : is_window_wide (projected_of whole) ≡ false = subst (λ (m : ProjectedInputs). is_window_wide m ≡ false) (sym projected_whole) narrow.0 in
          let typed = all_read_typed r (all_references whole) (bound_expressions_references r whole ks are) in
          subst (λ (m : ProjectedInputs). HasKinds tables (mapped_over column_of m whole plan) ks) projected_whole
          (mapped_over_is tables plan r column_of whole ks plan_is.fits_is are (columns_rebased tables plan scope plan_is (read whole) typed) (few_shown few) window)
