use Rattle.std.proofs.Common.{◌≡◌, ◌-◌, ◌≤◌, ◌∙◌, All, ap, arith, filter, length, subst, sym}
use Rattle.std.specs.List.{range_with_len}
use Rattle.wd_plan.specs.Plans.{plan_of}
use Rattle.wd_varied.specs.Sizes.{is_size}
use Rattle.wd_varied.proofs.Ranges.{few_sizes, large_sizes, next_size, small_sizes}
use Rattle.wd_varied.proofs.size.sizes.Goals as goal

pub loop-rows-preserved : goal.loop-rows-preserved
loop-rows-preserved c = c.in_ok-add_size.ensures ∙ next_size (is_size (plan_of c.args.plan.now)) c.loop-rows.sizes.items c.loop-rows.rows (omega (arith, c.loop-rows.auto.rows)) c.loop-rows.invariant

pub returns-clause-are : goal.returns-clause-are
returns-clause-are c =
    let all : c.loop-rows.rows ≡ 65 = omega (arith, c.loop-rows.auto.rows-end, c.loop-rows-test.false) in
    c.loop-rows.invariant ∙ ap (λ n. filter (is_size (plan_of c.args.plan.now)) (range_with_len 2 (n - 2))) all

pub returns-clause-some : goal.returns-clause-some
returns-clause-some c =
    let all : c.loop-rows.rows ≡ 65 = omega (arith, c.loop-rows.auto.rows-end, c.loop-rows-test.false) in
    let are = c.loop-rows.invariant ∙ ap (λ n. filter (is_size (plan_of c.args.plan.now)) (range_with_len 2 (n - 2))) all in
    subst (λ l. 1 ≤ length l) (sym are) (omega arith)

pub returns-clause-few : goal.returns-clause-few
returns-clause-few c =
    let all : c.loop-rows.rows ≡ 65 = omega (arith, c.loop-rows.auto.rows-end, c.loop-rows-test.false) in
    let are = c.loop-rows.invariant ∙ ap (λ n. filter (is_size (plan_of c.args.plan.now)) (range_with_len 2 (n - 2))) all in
    subst (λ l. length l ≤ 63) (sym are) (few_sizes (plan_of c.args.plan.now))

pub returns-clause-large : goal.returns-clause-large
returns-clause-large c =
    let all : c.loop-rows.rows ≡ 65 = omega (arith, c.loop-rows.auto.rows-end, c.loop-rows-test.false) in
    let are = c.loop-rows.invariant ∙ ap (λ n. filter (is_size (plan_of c.args.plan.now)) (range_with_len 2 (n - 2))) all in
    subst (All (λ k. 2 ≤ k)) (sym are) (large_sizes (plan_of c.args.plan.now))

pub returns-clause-small : goal.returns-clause-small
returns-clause-small c =
    let all : c.loop-rows.rows ≡ 65 = omega (arith, c.loop-rows.auto.rows-end, c.loop-rows-test.false) in
    let are = c.loop-rows.invariant ∙ ap (λ n. filter (is_size (plan_of c.args.plan.now)) (range_with_len 2 (n - 2))) all in
    subst (All (λ k. k ≤ 64)) (sym are) (small_sizes (plan_of c.args.plan.now))
