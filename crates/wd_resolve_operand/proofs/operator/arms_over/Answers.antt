use Rattle.std.proofs.Common.{◌≡◌, ◌∙◌, sym, ap, map, ◌++◌, ◌∷◌, [], Ok}
use Rattle.std.proofs.lemmas.List.{map_push}
use Rattle.wd_plan.specs.declared.expression.Branch.TheVariants.{First}
use Rattle.wd_resolve_operand.specs.BoundExpressions.{bound_expression_of}
use Rattle.wd_resolve_operand.specs.Operands.{arm_of, arm_over, arms_over, branch_after}
use Rattle.wd_resolve_operand.proofs.Cases.{arms_err, arms_push, fails_too}
use Rattle.wd_resolve_operand.proofs.operator.arms_over.Goals as goal

pub loop-arm-preserved : goal.loop-arm-preserved
loop-arm-preserved g c =
    let shows = arm_of g.L.Reference.shown in
    let kind = c.args.kind in
    let left = c.pop.new.self.items in
    let arm = c.in-Some.arm in
    let rest = bound_expression_of g.L.Reference.shown c.loop-arm.rest.value in
    let shown : map shows c.loop-arm.arms.items ≡ map shows left ++ shows arm ∷ [] = ap (map shows) c.in-Some.ensures.items ∙ map_push shows left arm in
    let place : c.branch_after-branch.result ≡ branch_after First (map shows left) = c.branch_after-branch.ensures ∙ ap (λ xs. branch_after First (map shows xs)) c.deref.ensures.value in
    let more = ap (λ branch. arm_over branch kind (shows arm) (Ok rest)) (sym place) ∙ c.in-Ok.ensures in
    ap (arms_over First kind (map shows left)) (sym more) ∙ sym (arms_push First kind (map shows left) (shows arm) (Ok rest)) ∙ sym (ap (λ arms. arms_over First kind arms (Ok rest)) shown) ∙ c.loop-arm.invariant

pub returns-in-Err : goal.returns-in-Err
returns-in-Err g c =
    let shows = arm_of g.L.Reference.shown in
    let kind = c.args.kind in
    let left = c.pop.new.self.items in
    let arm = c.in-Some.arm in
    let rest = bound_expression_of g.L.Reference.shown c.loop-arm.rest.value in
    let branch = c.branch_after-branch.result in
    let shown : map shows c.loop-arm.arms.items ≡ map shows left ++ shows arm ∷ [] = ap (map shows) c.in-Some.ensures.items ∙ map_push shows left arm in
    let place : branch ≡ branch_after First (map shows left) = c.branch_after-branch.ensures ∙ ap (λ xs. branch_after First (map shows xs)) c.deref.ensures.value in
    fails_too c.in-Err.error (arm_over branch kind (shows arm) (Ok rest)) _ c.in-Err.ensures (λ cause part. sym c.loop-arm.invariant ∙ ap (λ arms. arms_over First kind arms (Ok rest)) shown ∙ arms_push First kind (map shows left) (shows arm) (Ok rest) ∙ ap (λ b. arms_over First kind (map shows left) (arm_over b kind (shows arm) (Ok rest))) (sym place) ∙ ap (arms_over First kind (map shows left)) part ∙ arms_err First kind (map shows left) cause)
