-- The arms of a CASE, over what gives the rest.
use Rattle.std.proofs.Common.{◌≡◌, ap, List, [], ◌∷◌, ◌++◌, Err, refl}
use Rattle.wd_plan.specs.declared.expression.ValueKind.{ValueKind}
use Rattle.wd_plan.specs.declared.expression.Branch.{Branch}
use Rattle.wd_plan.specs.declared.expression.Branch.TheVariants.{Later}
use Rattle.wd_resolve_operand.specs.declared.cause.Cause.{Cause}
use Rattle.wd_resolve_operand.specs.declared.cause.ResolveError.{ResolveError}
use Rattle.wd_resolve_operand.specs.declared.cause.ResolveError.TheVariants.{Refused, OutOfMemory}
use Rattle.wd_resolve_operand.specs.Causes.{Meant, Fails}
use Rattle.wd_resolve_operand.specs.BoundExpressions.{BoundExpression}
use Rattle.wd_resolve_operand.specs.Operands.{Operand, arm_over, arms_over, branch_after}

-- where the rest has no meaning, the whole has none
pub arms_err : {L : Type 0} (branch : Branch) (kind : ValueKind) (arms : List (Operand L × Operand L)) (cause : Cause) → arms_over branch kind arms (Err cause) ≡ Err cause
arms_err branch kind [] cause = refl
arms_err branch kind (arm ∷ arms) cause = ap (arm_over branch kind arm) (arms_err Later kind arms cause)

-- the last arm stands before the rest
pub arms_push : {L : Type 0} (branch : Branch) (kind : ValueKind) (arms : List (Operand L × Operand L)) (arm : Operand L × Operand L) (rest : Meant (BoundExpression L)) → arms_over branch kind (arms ++ arm ∷ []) rest ≡ arms_over branch kind arms (arm_over (branch_after branch arms) kind arm rest)
arms_push branch kind [] arm rest = refl
arms_push branch kind (other ∷ []) arm rest = refl
arms_push branch kind (other ∷ another ∷ arms) arm rest = ap (arm_over branch kind other) (arms_push Later kind (another ∷ arms) arm rest)

-- a refusal of a part is that of the whole, where the whole fails as the part does
pub fails_too : {Y Z : Type 0} (error : ResolveError) (part : Meant Y) (whole : Meant Z) → Fails error part → ((cause : Cause) → part ≡ Err cause → whole ≡ Err cause) → Fails error whole
fails_too OutOfMemory part whole h f = tt
fails_too (Refused cause) part whole h f = f cause h
