use Rattle.std.proofs.Common.{◌+◌, ℕ, Some, IfOk, IfSome, subst}
use Rattle.wd_value.specs.Rows.{Instance}
use Rattle.wd_plan.specs.Plans.{plan_of}
use Rattle.wd_eval.specs.Tied.{turned_at}
use Rattle.wd_trail.specs.Trails.{Gives, IsTrail, rows_in, rows_shown}
use Rattle.wd_seek.proofs.Agreeing.{rows_agree, same_agree}
use Rattle.wd_seek.proofs.trailed.agrees_turned.Goals as goal

pub returns-in-Ok-Same : goal.returns-in-Ok-Same
returns-in-Ok-Same c = λ true instance first. (
    let plan = plan_of c.args.plan.now in
    let number = c.args.number in
    let trail = c.in-Some.trail in
    let there : IsTrail trail plan instance = subst (λ o. IfSome o (λ t. IsTrail t plan instance)) c.in-Some.is first.trail in
    let gives = subst (λ r. IfOk r (λ change. (instance : Instance) (first : ℕ) → IsTrail trail plan instance → IfSome (rows_shown (rows_in trail) change) (Gives plan instance (Some (turned_at c.args.turn (first + number))) first))) c.in-Ok-Same.is c.turned.ensures instance 0 there in
    let given = subst (λ change. IfSome (rows_shown (rows_in trail) change) (Gives plan instance (Some (turned_at c.args.turn (0 + number))) 0)) c.in-Ok-Same.field-0-is gives in
    same_agree c.args.turn plan instance c.args.first.now.outcome number trail there first.outcome given)

pub returns-in-Ok-Rows : goal.returns-in-Ok-Rows
returns-in-Ok-Rows c = λ true instance first. (
    let plan = plan_of c.args.plan.now in
    let number = c.args.number in
    let trail = c.in-Some.trail in
    let there : IsTrail trail plan instance = subst (λ o. IfSome o (λ t. IsTrail t plan instance)) c.in-Some.is first.trail in
    let gives = subst (λ r. IfOk r (λ change. (instance : Instance) (first : ℕ) → IsTrail trail plan instance → IfSome (rows_shown (rows_in trail) change) (Gives plan instance (Some (turned_at c.args.turn (first + number))) first))) c.in-Ok-Rows.is c.turned.ensures instance 0 there in
    let given = subst (λ change. IfSome (rows_shown (rows_in trail) change) (Gives plan instance (Some (turned_at c.args.turn (0 + number))) 0)) c.in-Ok-Rows.field-0-is gives in
    rows_agree c.args.turn plan instance c.args.first.now.outcome number c.in-Ok-Rows.rows given (c.agree.ensures true))
