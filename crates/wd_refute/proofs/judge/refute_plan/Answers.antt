use Rattle.std.proofs.lemmas.Result.{IfErr-weaker}
use Rattle.wd_plan.specs.Plans.{plan_of}
use Rattle.wd_schema.specs.Schemas.{schema_of}
use Rattle.wd_witness_text.specs.Witnesses.{witness_of}
use Rattle.wd_refute.proofs.Verdicts.{text_refused}
use Rattle.wd_refute.proofs.judge.refute_plan.Goals as goal

pub returns-clause-refused : goal.returns-clause-refused
returns-clause-refused c =
    IfErr-weaker c.check.result _ _ (text_refused (schema_of c.args.schema.now) (plan_of c.args.plan.now) (witness_of c.in_ok-witness.witness) c.args.witness.now c.in_ok-witness.ensures.ok) c.check.ensures.refused
