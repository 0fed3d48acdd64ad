-- Expressions over references, one of each kind, over the columns where these stand.
use Rattle.std.proofs.Common.{◌∙◌, ℕ, List, [], ◌∷◌, map}
use Rattle.std.specs.List.{AllByRecursion}
use Rattle.wd_plan.specs.declared.expression.ValueKind.{ValueKind}
use Rattle.wd_plan.specs.Fits.{Kinds}
use Rattle.wd_resolve_operand.specs.BoundExpressions.{BoundExpression, references, rebased}
use Rattle.wd_resolve_call.specs.References.{SelectReference}
use Rattle.wd_resolve_scope.specs.Typed.{Readable, kind_at}
use Rattle.wd_resolve_scope.proofs.Rebased.{IsRebased, rebased_kind, rebased_typed}
use Rattle.wd_resolve_list.specs.SelectLists.{all_references}
use Rattle.wd_resolve_list.proofs.Among.{all_split}
use Rattle.wd_resolve_list.proofs.TypedBoundExpressions.{AreBoundExpressions}
use Rattle.wd_resolve_select.proofs.PlanKinds.{AreOfKinds}

pub all_rebased : (r : Readable) (at : SelectReference → ℕ) (others : Kinds) (fs : List (BoundExpression SelectReference)) (ks : List ValueKind) → AreBoundExpressions r fs ks → AllByRecursion (IsRebased (kind_at r) at others) (all_references fs) → AreOfKinds others (map (rebased at) fs) ks
all_rebased r at others [] [] h g = tt
all_rebased r at others (f ∷ fs) (k ∷ ks) h g =
    let p = all_split (IsRebased (kind_at r) at others) (references f) (all_references fs) g in
    (record { is = rebased_typed (kind_at r) at others f p.0 ∙ h.0.is; has = rebased_kind (kind_at r) at others f p.0 ∙ h.0.has }, all_rebased r at others fs ks h.1 p.1)
all_rebased r at others [] (k ∷ ks) h g = absurd h
all_rebased r at others (f ∷ fs) [] h g = absurd h
