use Rattle.wd_query.proofs.ForReadings.{for_reading}
use Rattle.wd_refute.specs.Refutation.{RefusesText, SpellsTrue}
use Rattle.wd_refute.specs.declared.error.WitnessError.TheVariants as error
use Rattle.wd_refute.proofs.texts.refute.Goals as goal

pub returns-in-Ok-refute_plan-clause-refuted : goal.returns-in-Ok-refute_plan-clause-refuted
returns-in-Ok-refute_plan-clause-refuted c = for_reading c.args.schema.now c.args.query.now c.in-Ok.planned c.in-Ok.ensures.read (SpellsTrue c.args.witness.now) c.in-Ok-refute_plan.ensures.refuted

pub returns-in-Ok-refute_plan-clause-uncertified : goal.returns-in-Ok-refute_plan-clause-uncertified
returns-in-Ok-refute_plan-clause-uncertified c = c.refuted_has_no_certificate.ensures c.args.schema.now c.args.query.now c.args.witness.now
    (for_reading c.args.schema.now c.args.query.now c.in-Ok.planned c.in-Ok.ensures.read (SpellsTrue c.args.witness.now) c.in-Ok-refute_plan.ensures.refuted)

pub returns-clause-refused : goal.returns-clause-refused
returns-clause-refused c = for_reading c.args.schema.now c.args.query.now c.in-Ok.planned c.in-Ok.ensures.read (RefusesText c.in-Err-refute_plan.refusal c.args.witness.now) c.in-Err-refute_plan.ensures.refused

pub returns-clause-taken : goal.returns-clause-taken
returns-clause-taken c meaning refuted = c.refuted_is_taken.ensures c.args.schema.now c.args.query.now c.args.witness.now (error.Witness c.in-Err-refute_plan.refusal) meaning refuted (returns-clause-refused c)
