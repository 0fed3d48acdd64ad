-- The entries of a Join, its sides' before its own.
use Rattle.std.proofs.Common.{◌≡◌, ℕ, ◌+◌, List, Option, None, ap, sym, subst, ◌∙◌}
use Rattle.wd_schema.specs.Tables.{TableRule}
use Rattle.wd_plan.specs.Expressions.{Expression}
use Rattle.wd_plan.specs.Plans.{PlanTree, Join, node_count}
use Rattle.wd_certificate.specs.Certificates.{NodeRecord}
use Rattle.wd_step_facts.specs.Facts.{Fact}
use Rattle.wd_facts.specs.Given.{given}
use Rattle.wd_rules.specs.Rules.{entry_refusal, kept_facts, or_else}
use Rattle.wd_rules.specs.Validity.{entry_at, nodes_refusal, top_at, top_refusal}

-- where the sides' entries are not refused, a Join's are by what its own is
pub join_refusal : (tables : List TableRule) (plan : PlanTree) (condition : Option Expression) (left right : PlanTree) (first next top : ℕ) (nodes : List NodeRecord) (kept more : List Fact)
    → plan ≡ Join condition left right → next ≡ first + node_count left → top ≡ next + node_count right
    → kept ≡ kept_facts (top_at left first nodes) → more ≡ kept_facts (top_at right next nodes)
    → nodes_refusal tables left first nodes ≡ None → nodes_refusal tables right next nodes ≡ None
    → nodes_refusal tables plan first nodes ≡ entry_refusal top (given tables plan kept more) plan (entry_at nodes top)
join_refusal tables plan condition left right first next top nodes kept more is at_next at_top at_kept at_more l r =
    subst (λ p. nodes_refusal tables p first nodes ≡ entry_refusal top (given tables p kept more) p (entry_at nodes top)) (sym is) of_join
  where
    join : PlanTree
    join = Join condition left right

    number : top ≡ (first + node_count left) + node_count right
    number = at_top ∙ ap (λ n. n + node_count right) at_next

    right_kept : more ≡ kept_facts (top_at right (first + node_count left) nodes)
    right_kept = at_more ∙ ap (λ n. kept_facts (top_at right n nodes)) at_next

    right_passed : nodes_refusal tables right (first + node_count left) nodes ≡ None
    right_passed = subst (λ n. nodes_refusal tables right n nodes ≡ None) at_next r

    of_join : nodes_refusal tables join first nodes ≡ entry_refusal top (given tables join kept more) join (entry_at nodes top)
    of_join =
        (λ i. or_else (l i) (or_else (right_passed i) (top_refusal tables join first nodes)))
        ∙ sym (λ i. entry_refusal (number i) (given tables join (at_kept i) (right_kept i)) join (entry_at nodes (number i)))
