use Rattle.std.proofs.Common.{ℕ, ◌≡◌, ◌≢◌, ◌∙◌, IfErr, IfOk, None, Some, ap, map, option_map, subst, sym}
use Rattle.wd_schema.specs.Schemas.{schema_of}
use Rattle.wd_plan.specs.Expressions.{expression_of}
use Rattle.wd_plan.specs.Plans.{Join, plan_of}
use Rattle.wd_certificate.specs.declared.error.CertError.TheVariants.{OutOfMemory}
use Rattle.wd_facts.specs.Given.{given}
use Rattle.wd_rules.specs.Rules.{entry_refusal}
use Rattle.wd_rules.specs.Validity.{entry_at, nodes_refusal}
use Rattle.wd_verify.specs.Lean.{lean_of}
use Rattle.wd_node_facts.specs.Seen.{facts_kept}
use Rattle.wd_verify.proofs.Joins.{join_refusal}
use Rattle.wd_verify.proofs.nodes.+check_nodes.Goals as goal

-- past the sides' entries
by_top : (t : ℕ) (c : goal.After-check_top-in-Join t) → nodes_refusal (schema_of c.args.schema.now) (plan_of c.args.plan.now) c.args.first (map lean_of c.args.nodes.now)
    ≡ entry_refusal c.in_ok-right-in-Join.right.next
    (given (schema_of c.args.schema.now) (plan_of c.args.plan.now) (facts_kept c.in_ok-left-in-Join.left.kept) (facts_kept c.in_ok-right-in-Join.right.kept))
    (plan_of c.args.plan.now) (entry_at (map lean_of c.args.nodes.now) c.in_ok-right-in-Join.right.next)
by_top t c =
    let is = ap plan_of c.in-Join.is ∙ (λ i. Join (option_map expression_of c.in-Join.condition) (plan_of (sym c.deref.ensures i)) (plan_of (sym c.deref-in-Join.ensures i))) in
    join_refusal (schema_of c.args.schema.now) (plan_of c.args.plan.now) _ _ _ c.args.first c.in_ok-left-in-Join.left.next c.in_ok-right-in-Join.right.next (map lean_of c.args.nodes.now) _ _ is
    c.in_ok-left-in-Join.ensures.next c.in_ok-right-in-Join.ensures.next
    c.in_ok-left-in-Join.ensures.kept c.in_ok-right-in-Join.ensures.kept
    c.in_ok-left-in-Join.ensures.passed c.in_ok-right-in-Join.ensures.passed

pub returns-in_ok-right-in-Join-clause-passed : goal.returns-in_ok-right-in-Join-clause-passed
returns-in_ok-right-in-Join-clause-passed t c = subst (λ refusal. IfOk c.check_top-in-Join.result (λ checked. refusal ≡ None)) (sym (by_top t c)) c.check_top-in-Join.ensures.passed

pub returns-in_ok-right-in-Join-clause-refused : goal.returns-in_ok-right-in-Join-clause-refused
returns-in_ok-right-in-Join-clause-refused t c = subst (λ refusal. IfErr c.check_top-in-Join.result (λ e. e ≢ OutOfMemory → refusal ≡ Some e)) (sym (by_top t c)) c.check_top-in-Join.ensures.refused
