use Rattle.std.proofs.Common.{◌≡◌, ◌∙◌, ap, subst, sym}
use Rattle.std.proofs.lemmas.Result.{IfOk-weaker, err_from_is_err_and}
use Rattle.wd_plan.specs.Fits.{width}
use Rattle.wd_plan.specs.Plans.{plan_of}
use Rattle.wd_facts.specs.Laws.{ArePlain}
use Rattle.wd_rules.specs.Rules.{entry_refusal, kept_facts}
use Rattle.wd_rules.proofs.Kept.{entry_plain}
use Rattle.wd_node_facts.specs.Seen.{facts_kept, seen_of}
use Rattle.wd_verify.specs.Lean.{lean_of}
use Rattle.wd_verify.specs.Shown.{AreGood}
use Rattle.wd_verify.proofs.entry.check_entry.Goals as goal

pub keeps_of-requires-clause-plain : goal.keeps_of-requires-clause-plain
keeps_of-requires-clause-plain c =
    subst (λ w. ArePlain w (kept_facts (lean_of c.args.entry.now))) (sym c.width.ensures) (entry_plain c.args.node (seen_of c.in_ok-known.known.facts) (plan_of c.args.plan.now) (lean_of c.args.entry.now) c.in_ok-known-2.ensures.passed)

pub keeps_of-requires-clause-good : goal.keeps_of-requires-clause-good
keeps_of-requires-clause-good c = subst (λ known. AreGood c.args.node (seen_of known.facts) (lean_of c.args.entry.now).traces) (sym c.in_ok-known-2.ensures.same) c.in_ok-known-2.ensures.good

pub returns-clause-plain : goal.returns-clause-plain
returns-clause-plain c =
    IfOk-weaker c.keeps_of.result (λ k. facts_kept k ≡ kept_facts (lean_of c.args.entry.now)) (λ k. ArePlain (width (plan_of c.args.plan.now)) (facts_kept k))
    (λ k is. subst (ArePlain (width (plan_of c.args.plan.now))) (sym is) (entry_plain c.args.node (seen_of c.in_ok-known.known.facts) (plan_of c.args.plan.now) (lean_of c.args.entry.now) c.in_ok-known-2.ensures.passed)) c.keeps_of.ensures.kept

pub returns-in_err-known-2-clause-refused : goal.returns-in_err-known-2-clause-refused
returns-in_err-known-2-clause-refused c =
    let seen = ap seen_of c.in_ok-known.ensures.facts ∙ c.in_ok-facts.ensures.seen in
    let p = err_from_is_err_and c.from_residual-in_err-known-2.result c.from_residual-in_err-known-2.ensures.1 in
    rw (p.1, p.2) (λ memory. ap (λ facts. entry_refusal c.args.node facts (plan_of c.args.plan.now) (lean_of c.args.entry.now)) (sym seen) ∙ c.in_err-known-2.ensures.refused memory)

pub returns-clause-passed : goal.returns-clause-passed
returns-clause-passed c =
    let seen = ap seen_of c.in_ok-known.ensures.facts ∙ c.in_ok-facts.ensures.seen in
    IfOk-weaker c.keeps_of.result _ _ (λ k is. ap (λ facts. entry_refusal c.args.node facts (plan_of c.args.plan.now) (lean_of c.args.entry.now)) (sym seen) ∙ c.in_ok-known-2.ensures.passed) c.keeps_of.ensures.kept
