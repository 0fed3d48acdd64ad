-- Expressions over references, one of each kind.
use Rattle.std.proofs.Common.{◌≡◌, ap, refl, suc, List, [], ◌∷◌, ◌++◌, length}
use Rattle.wd_plan.specs.declared.expression.ValueKind.{ValueKind}
use Rattle.wd_resolve_operand.specs.BoundExpressions.{BoundExpression, references}
use Rattle.wd_resolve_call.specs.References.{SelectReference}
use Rattle.wd_resolve_scope.specs.Typed.{IsBoundExpression, IsReference, Readable}
use Rattle.wd_resolve_list.specs.SelectLists.{all_references}
use Rattle.wd_resolve_list.proofs.Among.{all_append}
use Rattle.wd_resolve_list.proofs.ReadBy.{AreReferences}

abbrev pub AreBoundExpressions : Readable → List (BoundExpression SelectReference) → List ValueKind → Type 0
AreBoundExpressions r [] [] = Unit {0}
AreBoundExpressions r (f ∷ fs) (k ∷ ks) = IsBoundExpression r f k × AreBoundExpressions r fs ks
AreBoundExpressions r [] (k ∷ ks) = ⊥
AreBoundExpressions r (f ∷ fs) [] = ⊥

pub bound_expressions_many : (r : Readable) (fs : List (BoundExpression SelectReference)) (ks : List ValueKind) → AreBoundExpressions r fs ks → length fs ≡ length ks
bound_expressions_many r [] [] h = refl
bound_expressions_many r (f ∷ fs) (k ∷ ks) h = ap suc (bound_expressions_many r fs ks h.1)
bound_expressions_many r [] (k ∷ ks) h = absurd h
bound_expressions_many r (f ∷ fs) [] h = absurd h

pub bound_expressions_append : (r : Readable) (fs gs : List (BoundExpression SelectReference)) (ks ls : List ValueKind) → AreBoundExpressions r fs ks → AreBoundExpressions r gs ls → AreBoundExpressions r (fs ++ gs) (ks ++ ls)
bound_expressions_append r [] gs [] ls h g = g
bound_expressions_append r (f ∷ fs) gs (k ∷ ks) ls h g = (h.0, bound_expressions_append r fs gs ks ls h.1 g)
bound_expressions_append r [] gs (k ∷ ks) ls h g = absurd h
bound_expressions_append r (f ∷ fs) gs [] ls h g = absurd h

pub bound_expressions_references : (r : Readable) (fs : List (BoundExpression SelectReference)) (ks : List ValueKind) → AreBoundExpressions r fs ks → AreReferences r (all_references fs)
bound_expressions_references r [] [] h = tt
bound_expressions_references r (f ∷ fs) (k ∷ ks) h = all_append (IsReference r) (references f) (all_references fs) h.0.references_are (bound_expressions_references r fs ks h.1)
bound_expressions_references r [] (k ∷ ks) h = absurd h
bound_expressions_references r (f ∷ fs) [] h = absurd h
