use Rattle.std.proofs.Common.{◌≡◌, ◌+◌, ◌-◌, ◌^◌, ◌<◌, min, None, Some, Ok, IfSome, option_map, sym, ap, ◌∙◌, subst, arith}
use Rattle.std.proofs.lemmas.Result.{IfOk-weaker}
use Rattle.wd_plan.specs.Expressions.{expression_of}
use Rattle.wd_plan.specs.Plans.{Join, Over, ordering_count, plan_of}
use Rattle.wd_eval.specs.Tied.{turned_at}
use Rattle.wd_eval.specs.Turning.{IsStepUnder}
use Rattle.wd_trail.specs.Trails.{Gives, IsJoinOver, IsToldOver, IsTrail, rows_in, rows_shown}
use Rattle.wd_trail.proofs.Told.{left_told, own_told, right_told, step_told}
use Rattle.wd_trail.proofs.trail.Trail.+turned.Goals as goal

pub returns-in_ok-change-in-Some : goal.returns-in_ok-change-in-Some
returns-in_ok-change-in-Some t c = IfOk-weaker c.step_over.result _ _ (λ change over instance first trail. (
    let plan = plan_of c.args.plan.now in
    let number = c.args.number in
    let turn = c.args.turn in
    let below = c.in-Step.below.value in
    let rows = c.in-Step.rows in
    let input = plan_of c.in-Some.input.now in
    let step = c.in-Some.ensures.0 in
    let is : plan ≡ Over step input = c.in-Some.ensures.1 in
    let kept = subst (λ s. IsTrail s (Over step input) instance) c.in-Step.is (subst (λ p. IsTrail c.args.self.now p instance) is trail) in
    let there : c.deref.result.now ≡ below = c.deref.ensures in
    let counted = c.orderings-before.ensures in
    let earlier = c.if-number-before.true in
    let within : number < ordering_count input = omega arith in
    let given = c.in_ok-change-in-Some.ensures instance first (subst (λ b. IsTrail b input instance) (sym there) kept.0) in
    let above = over step input (rows_in c.deref.result.now) is (subst (λ b. IsStepUnder step (rows_in b) None (Ok rows)) (sym there) kept.1) in
    let found = step_told instance turn first number step input (rows_shown (rows_in c.deref.result.now) c.in_ok-change-in-Some.change) (rows_shown rows change) within given above in
    subst (λ s. IfSome (rows_shown (rows_in s) change) (Gives plan instance (Some (turned_at turn (first + number))) first)) (sym c.in-Step.is)
    (subst (λ p. IfSome (rows_shown rows change) (Gives p instance (Some (turned_at turn (first + number))) first)) (sym is) found))) c.step_over.ensures

pub returns-else-number-before : goal.returns-else-number-before
returns-else-number-before t c = IfOk-weaker c.own_turned.result _ _ (λ change own instance first trail. (
    let plan = plan_of c.args.plan.now in
    let number = c.args.number in
    let turn = c.args.turn in
    let below = c.in-Step.below.value in
    let rows = c.in-Step.rows in
    let input = plan_of c.in-Some.input.now in
    let step = c.in-Some.ensures.0 in
    let is : plan ≡ Over step input = c.in-Some.ensures.1 in
    let kept = subst (λ s. IsTrail s (Over step input) instance) c.in-Step.is (subst (λ p. IsTrail c.args.self.now p instance) is trail) in
    let counted = c.orderings-before.ensures in
    let past = c.if-number-before.false in
    let few = c.requires.few in
    let class = number - c.orderings-before.result in
    let same : ordering_count input + class ≡ number = omega arith in
    let there : c.rows.result.now ≡ rows_in below = c.rows.ensures ∙ ap rows_in c.deref-else-number-before.ensures in
    let turned = own step input is (subst (λ rs. IsStepUnder step rs None (Ok rows)) (sym there) kept.1) in
    let found = own_told instance turn first number class step input below (rows_shown rows change) same kept.0
    (subst (λ rs. IfSome (rows_shown rows change) (λ r. IsStepUnder step rs (Some (turned_at turn class)) (Ok r))) there turned) in
    subst (λ s. IfSome (rows_shown (rows_in s) change) (Gives plan instance (Some (turned_at turn (first + number))) first)) (sym c.in-Step.is)
    (subst (λ p. IfSome (rows_shown rows change) (Gives p instance (Some (turned_at turn (first + number))) first)) (sym is) found))) c.own_turned.ensures

pub returns-in_ok-change-in-Join-plan : goal.returns-in_ok-change-in-Join-plan
returns-in_ok-change-in-Join-plan t c = IfOk-weaker c.left_changed.result _ _ (λ change over instance first trail. (
    let plan = plan_of c.args.plan.now in
    let number = c.args.number in
    let turn = c.args.turn in
    let on_left = c.in-Join.on_left.value in
    let on_right = c.in-Join.on_right.value in
    let rows = c.in-Join.rows in
    let left = plan_of c.in-Join-plan.left.value in
    let right = plan_of c.in-Join-plan.right.value in
    let condition = option_map expression_of c.in-Join-plan.condition in
    let is : plan ≡ Join condition left right = ap plan_of c.in-Join-plan.is in
    let kept = subst (λ s. IsTrail s (Join condition left right) instance) c.in-Join.is (subst (λ p. IsTrail c.args.self.now p instance) is trail) in
    let counted = c.orderings-before-in-Join-plan.ensures ∙ ap (λ p. min (ordering_count (plan_of p)) (2 ^ 32 - 1)) c.deref-in-Join-plan.ensures in
    let earlier = c.if-number-before-2.true in
    let within : number < ordering_count left = omega arith in
    let own : c.deref-then-number-before-2.result.now ≡ on_left = c.deref-then-number-before-2.ensures in
    let below : c.deref-then-number-before-2-2.result.now ≡ c.in-Join-plan.left.value = c.deref-then-number-before-2-2.ensures in
    let given = c.in_ok-change-in-Join-plan.ensures instance first (subst (λ p. IsTrail c.deref-then-number-before-2.result.now (plan_of p) instance) (sym below) (subst (λ b. IsTrail b left instance) (sym own) kept.0)) in
    let there : c.rows-then-number-before-2.result.now ≡ rows_in on_right = c.rows-then-number-before-2.ensures ∙ ap rows_in c.deref-then-number-before-2-3.ensures in
    let middle = rows_shown (rows_in on_left) c.in_ok-change-in-Join-plan.change in
    let above = over (rows_in on_left) (subst (λ rs. IsJoinOver condition (rows_in on_left) rs rows) (sym there) kept.2) in
    let found = left_told instance turn first number condition left right middle (rows_shown rows change) on_right within kept.1
    (subst (λ b. IfSome (rows_shown (rows_in b) c.in_ok-change-in-Join-plan.change) (Gives left instance (Some (turned_at turn (first + number))) first)) own
    (subst (λ p. IfSome (rows_shown (rows_in c.deref-then-number-before-2.result.now) c.in_ok-change-in-Join-plan.change) (Gives (plan_of p) instance (Some (turned_at turn (first + number))) first)) below given))
    (subst (λ rs. IsToldOver (λ ls r. IsJoinOver condition ls rs r) middle (rows_shown rows change)) there above) in
    subst (λ s. IfSome (rows_shown (rows_in s) change) (Gives plan instance (Some (turned_at turn (first + number))) first)) (sym c.in-Join.is)
    (subst (λ p. IfSome (rows_shown rows change) (Gives p instance (Some (turned_at turn (first + number))) first)) (sym is) found))) c.left_changed.ensures

pub returns-in_ok-change-in-Join-plan-2 : goal.returns-in_ok-change-in-Join-plan-2
returns-in_ok-change-in-Join-plan-2 t c = IfOk-weaker c.right_changed.result _ _ (λ change over instance first trail. (
    let plan = plan_of c.args.plan.now in
    let number = c.args.number in
    let turn = c.args.turn in
    let on_left = c.in-Join.on_left.value in
    let on_right = c.in-Join.on_right.value in
    let rows = c.in-Join.rows in
    let left = plan_of c.in-Join-plan.left.value in
    let right = plan_of c.in-Join-plan.right.value in
    let condition = option_map expression_of c.in-Join-plan.condition in
    let is : plan ≡ Join condition left right = ap plan_of c.in-Join-plan.is in
    let kept = subst (λ s. IsTrail s (Join condition left right) instance) c.in-Join.is (subst (λ p. IsTrail c.args.self.now p instance) is trail) in
    let n = ordering_count left in
    let counted = c.orderings-before-in-Join-plan.ensures ∙ ap (λ p. min (ordering_count (plan_of p)) (2 ^ 32 - 1)) c.deref-in-Join-plan.ensures in
    let past = c.if-number-before-2.false in
    let few = c.requires.few in
    let rest = number - c.orderings-before-in-Join-plan.result in
    let same : n + rest ≡ number = omega arith in
    let own : c.deref-else-number-before-2.result.now ≡ on_right = c.deref-else-number-before-2.ensures in
    let below : c.deref-else-number-before-2-2.result.now ≡ c.in-Join-plan.right.value = c.deref-else-number-before-2-2.ensures in
    let given = c.in_ok-change-in-Join-plan-2.ensures instance (first + n) (subst (λ p. IsTrail c.deref-else-number-before-2.result.now (plan_of p) instance) (sym below) (subst (λ b. IsTrail b right instance) (sym own) kept.1)) in
    let there : c.rows-else-number-before-2.result.now ≡ rows_in on_left = c.rows-else-number-before-2.ensures ∙ ap rows_in c.deref-else-number-before-2-3.ensures in
    let middle = rows_shown (rows_in on_right) c.in_ok-change-in-Join-plan-2.change in
    let above = over (rows_in on_right) (subst (λ ls. IsJoinOver condition ls (rows_in on_right) rows) (sym there) kept.2) in
    let found = right_told instance turn first number condition left right middle (rows_shown rows change) rest on_left same kept.0
    (subst (λ b. IfSome (rows_shown (rows_in b) c.in_ok-change-in-Join-plan-2.change) (Gives right instance (Some (turned_at turn (first + n + rest))) (first + n))) own
    (subst (λ p. IfSome (rows_shown (rows_in c.deref-else-number-before-2.result.now) c.in_ok-change-in-Join-plan-2.change) (Gives (plan_of p) instance (Some (turned_at turn (first + n + rest))) (first + n))) below given))
    (subst (λ ls. IsToldOver (λ rs r. IsJoinOver condition ls rs r) middle (rows_shown rows change)) there above) in
    subst (λ s. IfSome (rows_shown (rows_in s) change) (Gives plan instance (Some (turned_at turn (first + number))) first)) (sym c.in-Join.is)
    (subst (λ p. IfSome (rows_shown rows change) (Gives p instance (Some (turned_at turn (first + number))) first)) (sym is) found))) c.right_changed.ensures
