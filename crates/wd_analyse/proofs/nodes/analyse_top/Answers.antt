use Rattle.std.proofs.Common.{rules, ◌≡◌, List, length, map, vec_items, sym, subst, ap, ◌∙◌}
use Rattle.std.specs.List.{AllByRecursion}
use Rattle.std.proofs.lemmas.List.{length-map}
use Rattle.std.proofs.lemmas.Result.{IfOk-weaker}
use Rattle.wd_schema.specs.Schemas.{schema_of}
use Rattle.wd_certificate.specs.Certificates.{node_of}
use Rattle.wd_step_facts.specs.Facts.{fact_of, facts_of, kept_by}
use Rattle.wd_plan.specs.Fits.{AreBelow, width}
use Rattle.wd_plan.specs.Plans.{plan_of}
use Rattle.wd_analyse.specs.Evidence.{Closing, closing_of}
use Rattle.wd_analyse.specs.Kept.{kept_fact}
use Rattle.wd_analyse.specs.Sources.{Keeps, sources}
use Rattle.wd_analyse.specs.Steps.{Admits, Says, told_of}
use Rattle.wd_analyse.proofs.Claims.{sources_low}
use Rattle.wd_analyse.proofs.Composed.{top_finds}
use Rattle.wd_analyse.proofs.Tops.{given_admits, pushed}
use Rattle.wd_analyse.proofs.nodes.analyse_top.Goals as goal

pub new-requires-clause-facts : goal.new-requires-clause-facts
new-requires-clause-facts c =
    (given_admits (schema_of c.args.schema.now) (plan_of c.args.plan.now) (kept_by c.args.kept.now 0) (kept_by c.args.kept.now 1) (facts_of c.in_ok-facts.facts) c.in_ok-facts.ensures c.requires.fits c.requires.kept).named

pub claims_of-requires-clause-admits : goal.claims_of-requires-clause-admits
claims_of-requires-clause-admits c =
    subst (λ facts. Admits facts c.width.result) (sym c.in_ok-prepared.ensures)
    (subst (Admits (facts_of c.in_ok-facts.facts)) (sym c.width.ensures)
    (given_admits (schema_of c.args.schema.now) (plan_of c.args.plan.now) (kept_by c.args.kept.now 0) (kept_by c.args.kept.now 1) (facts_of c.in_ok-facts.facts) c.in_ok-facts.ensures c.requires.fits c.requires.kept))

pub claims_of-requires-clause-low : goal.claims_of-requires-clause-low
claims_of-requires-clause-low c =
    subst (λ w. AllByRecursion (AreBelow w) (map vec_items c.deref.result.now)) (sym c.width.ensures)
    (subst (AllByRecursion (AreBelow (width (plan_of c.args.plan.now)))) (sym (ap (map vec_items) c.deref.ensures.value ∙ c.in_ok-sources.ensures))
    (sources_low (plan_of c.args.plan.now) (map fact_of c.in_ok-facts.facts.list.items) (kept_by c.args.kept.now 0) (kept_by c.args.kept.now 1) c.requires.kept))

pub found_entry-requires-clause-admits : goal.found_entry-requires-clause-admits
found_entry-requires-clause-admits c =
    subst (λ facts. Admits facts (width (plan_of c.args.plan.now))) (sym c.in_ok-prepared.ensures)
    (given_admits (schema_of c.args.schema.now) (plan_of c.args.plan.now) (kept_by c.args.kept.now 0) (kept_by c.args.kept.now 1) (facts_of c.in_ok-facts.facts) c.in_ok-facts.ensures c.requires.fits c.requires.kept)

pub returns : goal.returns
returns c =
    let claims : List Closing = map closing_of c.in_ok-claims.claims.items in
    let number : c.len-node.result ≡ length c.args.found.now.nodes.items = search rules in
    let keeps : Keeps (facts_of c.in_ok-facts.facts) (width (plan_of c.args.plan.now)) (sources (plan_of c.args.plan.now) (map fact_of c.in_ok-facts.facts.list.items) (kept_by c.args.kept.now 0) (kept_by c.args.kept.now 1)) claims =
    subst (λ w. Keeps (facts_of c.in_ok-facts.facts) w (sources (plan_of c.args.plan.now) (map fact_of c.in_ok-facts.facts.list.items) (kept_by c.args.kept.now 0) (kept_by c.args.kept.now 1)) claims) c.width.ensures
    (subst (λ s. Keeps (facts_of c.in_ok-facts.facts) c.width.result s claims) (ap (map vec_items) c.deref.ensures.value ∙ c.in_ok-sources.ensures)
    (subst (λ facts. Keeps facts c.width.result (map vec_items c.deref.result.now) claims) c.in_ok-prepared.ensures c.in_ok-claims.ensures)) in
    IfOk-weaker c.kept_facts.result _ _
    (λ v is. top_finds (schema_of c.args.schema.now) (plan_of c.args.plan.now) (kept_by c.args.kept.now 0) (kept_by c.args.kept.now 1) (facts_of c.in_ok-facts.facts) c.len-node.result claims (node_of c.in_ok-entry.entry) c.args.found.now _ (map fact_of v.items)
    c.in_ok-facts.ensures c.requires.kept keeps (subst (λ facts. Says facts (plan_of c.args.plan.now) c.len-node.result claims (node_of c.in_ok-entry.entry) (told_of c.args.found.now.findings) (told_of c.found_entry.new.findings)) c.in_ok-prepared.ensures c.in_ok-entry.ensures) (number ∙ sym (length-map c.args.found.now.nodes.items node_of)) (ap (map node_of) c.in_ok-push.ensures.items ∙ pushed c.args.found.now.nodes.items c.in_ok-entry.entry)
    (is ∙ (λ i. map (kept_fact (c.width-2.ensures i)) (map closing_of (c.deref-2.ensures.value i)))))
    c.kept_facts.ensures
