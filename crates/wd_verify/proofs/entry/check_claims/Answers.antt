use Rattle.std.proofs.Common.{◌≡◌, ◌∙◌, None, map, sym}
use Rattle.wd_plan.specs.Fits.{width}
use Rattle.wd_plan.specs.Plans.{plan_of}
use Rattle.wd_certificate.specs.Certificates.{kept_of}
use Rattle.wd_rules.specs.Rules.{entry_refusal, keep_refusal, or_else, rules_refusal}
use Rattle.wd_node_facts.specs.Seen.{seen_of}
use Rattle.wd_verify.specs.Lean.{lean_kept, lean_of}
use Rattle.wd_verify.specs.Shown.{evidence_of, evidence_with, traced_of}
use Rattle.wd_verify.proofs.Judged.{later_passed, later_refused}
use Rattle.wd_verify.proofs.NamedTraces.{entry_is}
use Rattle.wd_verify.proofs.entry.check_claims.Goals as goal

-- the kept facts of the entry were judged
keep_passed : (c : goal.After-check_rules) → keep_refusal (evidence_with c.args.evidence.now c.args.entry.now.traces.items) (width (plan_of c.args.plan.now)) (lean_of c.args.entry.now).keep ≡ None
keep_passed c =
    let evidence = c.args.evidence.now in
    (λ i. keep_refusal (evidence_with evidence (sym c.deref.ensures.value i)) (sym c.width.ensures i) (map lean_kept (map kept_of (sym c.deref-2.ensures.value i))))
    ∙ c.in_ok-check_keep.ensures.passed

is : (c : goal.After-check_rules) → entry_refusal c.args.evidence.now.node (seen_of c.args.evidence.now.known.facts) (plan_of c.args.plan.now) (lean_of c.args.entry.now)
    ≡ or_else (keep_refusal (evidence_with c.args.evidence.now c.args.entry.now.traces.items) (width (plan_of c.args.plan.now)) (lean_of c.args.entry.now).keep) (rules_refusal (evidence_of c.args.evidence.now) (plan_of c.args.plan.now) (lean_of c.args.entry.now))
is c =
    let evidence = c.args.evidence.now in
    entry_is evidence.node (seen_of evidence.known.facts) (plan_of c.args.plan.now) (lean_of c.args.entry.now) evidence.traces.items (traced_of evidence.unnamed) c.requires.followed

pub returns-clause-passed : goal.returns-clause-passed
returns-clause-passed c = later_passed _ _ _ (is c) (keep_passed c) c.check_rules.result c.check_rules.ensures.passed

pub returns-clause-refused : goal.returns-clause-refused
returns-clause-refused c = later_refused _ _ _ (is c) (keep_passed c) c.check_rules.result c.check_rules.ensures.refused
