use Rattle.std.proofs.Common.{◌≡◌, ◌∙◌, ap, sym}
use Rattle.wd_value.specs.Keys.{key_columns}
use Rattle.wd_plan.specs.Plans.{limit_of}
use Rattle.wd_certificate.specs.declared.error.CertError.TheVariants.{UnjustifiedLimit}
use Rattle.wd_step_facts.specs.Facts.{columns_named}
use Rattle.wd_step_facts.specs.Steps.{all_columns}
use Rattle.wd_sets.specs.Sets.{is_in}
use Rattle.wd_rules.specs.Rules.{limit_refusal, refuse_unless, refuse_unless_shown, shows}
use Rattle.wd_verify.specs.Shown.{evidence_of, refusal_of, traced_of}
use Rattle.wd_verify.proofs.Claims.{passed, refused}
use Rattle.wd_verify.proofs.rules.check_limit.Goals as goal

-- the limit's keys, by the trace that is named for it
by_trace : (c : goal.After-refuse_unless-in-Some) → refusal_of c.refuse_unless-in-Some.result ≡ limit_refusal (evidence_of c.args.evidence.now) c.args.columns (limit_of c.args.limit.now) c.args.number
by_trace c =
    let evidence = evidence_of c.args.evidence.now in
    let limit = limit_of c.args.limit.now in
    let all = columns_named (all_columns c.args.columns) in
    let trace = traced_of c.in_ok-trace-in-Some.trace.now in
    c.refuse_unless-in-Some.ensures
    ∙ ap (λ b. refuse_unless b (UnjustifiedLimit evidence.node)) (c.in_ok-holds-in-Some.ensures ∙ ap (λ keys. shows evidence.facts (is_in (key_columns keys)) all trace) c.deref.ensures.value)
    ∙ ap (refuse_unless_shown evidence.node (UnjustifiedLimit evidence.node) (shows evidence.facts (is_in (key_columns limit.keys)) all)) (sym c.in_ok-trace-in-Some.ensures.found)
    ∙ ap (limit_refusal evidence c.args.columns limit) (sym c.in-Some.is)

pub returns-in_ok-holds-in-Some-clause-passed : goal.returns-in_ok-holds-in-Some-clause-passed
returns-in_ok-holds-in-Some-clause-passed c = passed c.refuse_unless-in-Some.result _ (by_trace c)

pub returns-in_ok-holds-in-Some-clause-refused : goal.returns-in_ok-holds-in-Some-clause-refused
returns-in_ok-holds-in-Some-clause-refused c = refused c.refuse_unless-in-Some.result _ (by_trace c)
