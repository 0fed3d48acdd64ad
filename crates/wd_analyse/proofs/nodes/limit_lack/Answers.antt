use Rattle.std.proofs.Common.{◌≡◌, true, [], length, map, nat_lt, sym, subst, ap, ◌∙◌}
use Rattle.std.specs.List.{list_all}
use Rattle.wd_value.specs.Keys.{key_columns}
use Rattle.wd_schema.specs.Schemas.{schema_of}
use Rattle.wd_certificate.specs.Certificates.{node_of}
use Rattle.wd_step_facts.specs.Facts.{FactList, fact_of, facts_of}
use Rattle.wd_facts.specs.Given.{given}
use Rattle.wd_plan.specs.Plans.{limit_of, plan_of}
use Rattle.wd_analyse.specs.Evidence.{Closing, IsClosing, closing_of}
use Rattle.wd_analyse.specs.Findings.{AreFindings, lacking}
use Rattle.wd_analyse.proofs.Founds.{limit_keys_low}
use Rattle.wd_analyse.proofs.Lists.{lack_admits}
use Rattle.wd_analyse.proofs.nodes.limit_lack.Goals as goal

pub new-requires-clause-facts : goal.new-requires-clause-facts
new-requires-clause-facts c =
    (lack_admits (schema_of c.args.schema.now) (plan_of c.args.plan.now) (plan_of c.args.input.now) (limit_of c.args.limit.now) (map fact_of c.deref.result.now) (map fact_of c.in_ok-kept.kept.items) (facts_of c.in_ok-facts.facts)
    c.requires.is c.requires.fits (ap (map fact_of) c.deref.ensures.value) c.in_ok-kept.ensures.plain c.in_ok-facts.ensures).named

pub close-requires : goal.close-requires
close-requires c =
    let admits = lack_admits (schema_of c.args.schema.now) (plan_of c.args.plan.now) (plan_of c.args.input.now) (limit_of c.args.limit.now) (map fact_of c.deref.result.now) (map fact_of c.in_ok-kept.kept.items) (facts_of c.in_ok-facts.facts)
    c.requires.is c.requires.fits (ap (map fact_of) c.deref.ensures.value) c.in_ok-kept.ensures.plain c.in_ok-facts.ensures in
    subst (λ (facts : FactList). list_all (λ k. nat_lt k facts.columns) c.deref-3.result.now ≡ true) (sym c.in_ok-prepared.ensures)
    (subst (λ X. list_all (λ k. nat_lt k (facts_of c.in_ok-facts.facts).columns) X ≡ true)
    (sym (c.deref-3.ensures.value ∙ c.in_ok-columns.ensures ∙ ap key_columns c.deref-2.ensures.value))
    (limit_keys_low (schema_of c.args.schema.now) (plan_of c.args.plan.now) (plan_of c.args.input.now) (limit_of c.args.limit.now) (facts_of c.in_ok-facts.facts).columns c.requires.is c.requires.fits admits.wide))

pub returns : goal.returns
returns c =
    let tables = schema_of c.args.schema.now in
    let f = c.in_ok-kept.ensures in
    let keys : Closing = closing_of c.in_ok-closed.closed in
    let kept = ap (map fact_of) c.deref.ensures.value ∙ f.keeps in
    record {
      found = f.found;
      are = subst (λ n. AreFindings tables (plan_of c.args.input.now) n f.found) (ap (λ l. length (map node_of l)) c.nothing-found.ensures.nodes) f.are;
      keys = keys;
      closing = subst (λ facts. IsClosing facts keys) (c.in_ok-prepared.ensures ∙ c.in_ok-facts.ensures ∙ (λ i. given tables (c.requires.is i) (kept i) [])) c.in_ok-closed.ensures.closing;
      columns = c.in_ok-closed.ensures.from ∙ c.deref-3.ensures.value ∙ c.in_ok-columns.ensures ∙ ap key_columns c.deref-2.ensures.value;
      is = sym (c.missing.ensures ∙ ap (λ w. lacking w keys) c.width.ensures);
    }
