use Rattle.std.proofs.Common.{◌≡◌, length, nat_eq, vec_len, rules, map, sym, ap, ◌∙◌}
use Rattle.std.proofs.lemmas.Bool.{eqb-true, false≢true}
use Rattle.std.proofs.lemmas.List.{nil_from_length}
use Rattle.wd_schema.specs.Schemas.{schema_of}
use Rattle.wd_certificate.specs.Certificates.{node_of}
use Rattle.wd_step_facts.specs.Facts.{fact_of}
use Rattle.wd_plan.specs.Plans.{plan_of}
use Rattle.wd_analyse.proofs.Answered.{certified, opened}
use Rattle.wd_analyse.proofs.nodes.analyse.Goals as goal

pub returns-then-is_empty : goal.returns-then-is_empty
returns-then-is_empty c =
    let reasons = c.analyse_nodes.new.found.findings.reasons.items in
    let long : vec_len c.analyse_nodes.new.found.findings.reasons ≡ length reasons = search rules in
    certified (schema_of c.args.schema.now) (plan_of c.args.plan.now) _ c.analyse_nodes.new.found (map fact_of c.in_ok-analyse_nodes.field-0.items)
    (ap (map node_of) c.nothing-found.ensures.nodes) c.nothing-found.ensures.reasons c.nothing-found.ensures.marks c.in_ok-analyse_nodes.ensures
    _ c.version_needed-version.ensures (nil_from_length reasons (sym long ∙ eqb-true (vec_len c.analyse_nodes.new.found.findings.reasons) 0 (sym c.if-is_empty.ensures)))

pub returns-else-is_empty : goal.returns-else-is_empty
returns-else-is_empty c =
    let reasons = c.analyse_nodes.new.found.findings.reasons.items in
    let long : vec_len c.analyse_nodes.new.found.findings.reasons ≡ length reasons = search rules in
    opened (schema_of c.args.schema.now) (plan_of c.args.plan.now) _ c.analyse_nodes.new.found (map fact_of c.in_ok-analyse_nodes.field-0.items)
    (ap (map node_of) c.nothing-found.ensures.nodes) c.nothing-found.ensures.reasons c.nothing-found.ensures.marks c.in_ok-analyse_nodes.ensures
    (λ e. false≢true (c.if-is_empty.ensures ∙ ap (λ n. nat_eq n 0) (long ∙ ap length e)))
