use Rattle.std.proofs.Common.{◌≡◌, ◌∙◌, ap, arith, ℕ, ◌+◌, ◌++◌, map, option_map}
use Rattle.wd_plan.specs.Expressions.{expression_of}
use Rattle.wd_step_facts.specs.Facts.{fact_of, moved_facts}
use Rattle.wd_step_facts.specs.Steps.{conjuncts_of, facts_of_conjuncts}
use Rattle.wd_step_facts.specs.declared.facts.Member.TheVariants as member
use Rattle.wd_facts.proofs.node.facts_of_sides.Goals as goal

by_zero : (n : ℕ) → 0 + n ≡ n
by_zero n = omega arith

pub returns : goal.returns
returns c =
    let kept = map fact_of c.args.left.now in
    let right = moved_facts (λ n. c.args.split + n) member.Right (map fact_of c.args.right.now) in
    let conjuncts = facts_of_conjuncts (conjuncts_of (option_map expression_of c.args.condition.now)) in
    let first = c.in_ok-add_moved_facts.ensures.added ∙ ap (λ items. map fact_of items ++ moved_facts (λ n. 0 + n) member.Left kept) c.new-list.ensures.items ∙ (λ i. moved_facts (λ n. by_zero n i) member.Left kept) in
    c.in_ok-add_join_conjuncts.ensures.added ∙ ap (λ l. l ++ conjuncts) (c.in_ok-add_moved_facts-2.ensures.added ∙ ap (λ l. l ++ right) first)
