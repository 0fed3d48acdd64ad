-- Expressions outside the select list, and the windows of a WINDOW clause, are typed.
use Rattle.std.proofs.Common.{◌≡◌, subst, Bool, true, false, cond, List, [], ◌∷◌, ◌++◌, Option, None, Ok, Err}
use Rattle.wd_plan.specs.declared.expression.ValueKind.TheVariants.{Truth}
use Rattle.wd_plan.specs.Expressions.{Expression}
use Rattle.wd_read_cursor.specs.declared.name.Name.{Name}
use Rattle.wd_syntax.specs.Tree.{Tree, WindowTree}
use Rattle.wd_resolve_operand.specs.declared.cause.Cause.TheVariants.{UnknownWindow}
use Rattle.wd_resolve_operand.specs.Causes.{◌>>=◌}
use Rattle.wd_resolve_operand.specs.Operands.{Operand, of_kind}
use Rattle.wd_resolve_scope.specs.Grouped.{GroupedRule}
use Rattle.wd_resolve_scope.specs.Resolving.{ContextRule, all_defined, condition, defined, group_condition, is_known, plain, window_resolved}
use Rattle.wd_resolve_scope.specs.declared.context.Place.{Place}
use Rattle.wd_resolve_scope.specs.declared.context.Place.TheVariants as place
use Rattle.wd_resolve_call.specs.References.{SelectReference, over_columns, over_rows}
use Rattle.wd_resolve_call.specs.Rows.{RowExpression}
use Rattle.wd_resolve_scope.specs.Scopes.{ScopeRule}
use Rattle.wd_resolve_call.specs.Windows.{NamedBoundWindow, BoundWindow}
use Rattle.wd_resolve_scope.specs.Typed.{AreKnown, IsOfKind, IsOperand, IsRowExpression, IsWindow, kinds_in, readable}
use Rattle.wd_resolve_call.proofs.Meanings.{bound, ok_is}
use Rattle.wd_resolve_scope.proofs.Lists.{all_push}
use Rattle.wd_resolve_scope.proofs.OverColumns.{over_columns_is, over_rows_is}
use Rattle.wd_resolve_scope.proofs.TypedOperands.{asked}
use Rattle.wd_resolve_scope.proofs.TypedTrees.{resolved_is, window_resolved_is}

pub plain_is : (place : Place) (groups : Option GroupedRule) (scope : ScopeRule) (a : Tree) (x : Operand SelectReference) → plain place groups scope a ≡ Ok x → IsOperand (readable scope groups) x
plain_is place groups scope a x h = resolved_is (record { scope = scope; groups = groups; windows = []; place = place }) a x tt h

pub group_condition_is : (groups : Option GroupedRule) (scope : ScopeRule) (a : Tree) (f : RowExpression) → group_condition groups scope a ≡ Ok f → IsRowExpression (readable scope groups) f Truth
group_condition_is groups scope a f h =
    let x = bound (plain place.Having groups scope a) (λ (y : Operand SelectReference). of_kind Truth y >>= λ g. over_rows g) f h in
    let g = bound (of_kind Truth x.0) (λ g. over_rows g) f x.2 in
    over_rows_is (readable scope groups) g.0 Truth f (asked (readable scope groups) Truth x.0 g.0 (plain_is place.Having groups scope a x.0 x.1) g.1) g.2

pub condition_is : (place : Place) (scope : ScopeRule) (a : Tree) (e : Expression) → condition place scope a ≡ Ok e → IsOfKind (kinds_in scope) e Truth
condition_is place scope a e h =
    let x = bound (plain place None scope a) (λ (y : Operand SelectReference). of_kind Truth y >>= λ f. over_columns f) e h in
    let f = bound (of_kind Truth x.0) (λ f. over_columns f) e x.2 in
    over_columns_is (readable scope None) f.0 Truth e (asked (readable scope None) Truth x.0 f.0 (plain_is place None scope a x.0 x.1) f.1) f.2

defined_is : (scope : ScopeRule) (groups : Option GroupedRule) (windows : List NamedBoundWindow) (name : Name) (w : WindowTree) (known : NamedBoundWindow) → AreKnown (readable scope groups) windows → defined scope groups windows name w ≡ Ok known → IsWindow (readable scope groups) known.window
defined_is scope groups windows name w known all h = by (is_known windows name.text) h
  where
    c : ContextRule
    c = record { scope = scope; groups = groups; windows = windows; place = place.Window }

    by : (b : Bool) → cond b (Err UnknownWindow) (window_resolved c w >>= λ meaning. Ok (record { name = name.text; window = meaning })) ≡ Ok known → IsWindow (readable scope groups) known.window
    by true h = cc
    by false h =
        let m = bound (window_resolved c w) (λ (meaning : BoundWindow). Ok (record { name = name.text; window = meaning })) known h in
        subst (λ (k : NamedBoundWindow). IsWindow (readable scope groups) k.window) (ok_is _ _ m.2) (window_resolved_is c w m.0 all m.1)

pub all_defined_is : (scope : ScopeRule) (groups : Option GroupedRule) (known : List NamedBoundWindow) (windows : List (Name × WindowTree)) (all : List NamedBoundWindow) → AreKnown (readable scope groups) known → all_defined scope groups known windows ≡ Ok all → AreKnown (readable scope groups) all
all_defined_is scope groups known [] all k h = subst (AreKnown (readable scope groups)) (ok_is _ _ h) k
all_defined_is scope groups known (w ∷ others) all k h =
    let d = bound (defined scope groups known w.0 w.1) (λ (m : NamedBoundWindow). all_defined scope groups (known ++ m ∷ []) others) all h in
    all_defined_is scope groups (known ++ d.0 ∷ []) others all (all_push (λ (one : NamedBoundWindow). IsWindow (readable scope groups) one.window) known d.0 k (defined_is scope groups known w.0 w.1 d.0 k d.1)) d.2
