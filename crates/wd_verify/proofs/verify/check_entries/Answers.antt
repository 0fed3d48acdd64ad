use Rattle.std.proofs.Common.{◌≡◌, ◌∙◌, ap, map}
use Rattle.std.proofs.lemmas.Result.{IfErr-weaker, IfOk-weaker}
use Rattle.wd_schema.specs.Schemas.{schema_of}
use Rattle.wd_plan.specs.Plans.{plan_of}
use Rattle.wd_certificate.specs.Certificates.{node_of}
use Rattle.wd_rules.specs.Validity.{nodes_refusal}
use Rattle.wd_verify.specs.Lean.{lean_of}
use Rattle.wd_verify.proofs.LeanNodes.{lean_nodes, nodes_lean}
use Rattle.wd_verify.proofs.verify.check_entries.Goals as goal

same : (c : goal.After-check_nodes) → nodes_refusal (schema_of c.args.schema.now) (plan_of c.args.plan.now) 0 (map node_of c.args.nodes.now) ≡ nodes_refusal (schema_of c.args.schema.now) (plan_of c.args.plan.now) 0 (map lean_of c.args.nodes.now)
same c =
    nodes_lean (schema_of c.args.schema.now) (map node_of c.args.nodes.now) (plan_of c.args.plan.now) 0
    ∙ ap (nodes_refusal (schema_of c.args.schema.now) (plan_of c.args.plan.now) 0) (lean_nodes c.args.nodes.now)

pub returns-clause-passed : goal.returns-clause-passed
returns-clause-passed c = IfOk-weaker c.check_nodes.result _ _ (λ checked e. same c ∙ e) c.check_nodes.ensures.passed

pub returns-clause-refused : goal.returns-clause-refused
returns-clause-refused c = IfErr-weaker c.check_nodes.result _ _ (λ refusal e memory. same c ∙ e memory) c.check_nodes.ensures.refused
