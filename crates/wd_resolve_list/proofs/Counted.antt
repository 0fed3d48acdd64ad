-- What is needed with further outputs, and with a further hidden sort key.
use Rattle.std.proofs.Common.{◌≡◌, ◌∙◌, ap, List, [], ◌∷◌, ◌++◌, length, map}
use Rattle.std.proofs.lemmas.List.{append-nil, length-map, map-append}
use Rattle.wd_resolve_operand.specs.declared.expression.BoundExpression.{BoundExpression as BoundExpressionCode}
use Rattle.wd_resolve_operand.specs.BoundExpressions.{BoundExpression, references}
use Rattle.wd_resolve_call.specs.declared.reference.SelectReference.{SelectReference as ReferenceCode}
use Rattle.wd_resolve_call.specs.References.{SelectReference, bound_expression_of}
use Rattle.wd_resolve_list.specs.SelectLists.{Below, all_references, all_projected, projected_of, projected_with, no_projected, with_having}
use Rattle.wd_resolve_list.specs.Outputs.{BoundOutput, expressions_of}
use Rattle.wd_resolve_list.proofs.FirstMet.{references_append, projected_append}

pub projected_more : (outputs more : List BoundOutput) → projected_of (expressions_of (outputs ++ more)) ≡ projected_with (projected_of (expressions_of outputs)) (all_references (expressions_of more))
projected_more outputs more =
    ap projected_of (map-append (λ (output : BoundOutput). output.expression) outputs more)
    ∙ ap (projected_with no_projected) (references_append (expressions_of outputs) (expressions_of more))
    ∙ projected_append no_projected (all_references (expressions_of outputs)) (all_references (expressions_of more))

pub many_listed : (outputs : List BoundOutput) → length (expressions_of outputs) ≡ length outputs
many_listed outputs = length-map outputs (λ (output : BoundOutput). output.expression)

-- a further hidden sort key
pub projected_pushed : (below : Below) (outputs : List (BoundExpression SelectReference)) (hidden : List (BoundExpressionCode ReferenceCode)) (f : BoundExpressionCode ReferenceCode) → all_projected below outputs (map bound_expression_of (hidden ++ f ∷ [])) ≡ projected_with (all_projected below outputs (map bound_expression_of hidden)) (references (bound_expression_of f))
projected_pushed below outputs hidden f =
    let base = with_having (projected_of outputs) below.having in
    let before = map bound_expression_of hidden in
    ap (λ fs. projected_with base (all_references fs)) (map-append bound_expression_of hidden (f ∷ []))
    ∙ ap (projected_with base) (references_append before (bound_expression_of f ∷ []) ∙ ap (λ ls. all_references before ++ ls) (append-nil (references (bound_expression_of f))))
    ∙ projected_append base (all_references before) (references (bound_expression_of f))
