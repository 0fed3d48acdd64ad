use Rattle.wd_certain.proofs.Uncertain.{certain, has_one, uncertain}
use Rattle.wd_certain.proofs.certain.certify_simpler.Goals as goal

pub returns-clause-certain : goal.returns-clause-certain
returns-clause-certain c = certain c.args.schema.now c.args.query.now c.in-Ok.planned c.in-Ok.ensures.read c.certify.result c.certify.ensures.certain

pub returns-clause-one_answer : goal.returns-clause-one_answer
returns-clause-one_answer c = has_one c.args.schema.now c.args.query.now c.certain_has_one.ensures c.certify.result
    (certain c.args.schema.now c.args.query.now c.in-Ok.planned c.in-Ok.ensures.read c.certify.result c.certify.ensures.certain)

pub returns-clause-uncertain : goal.returns-clause-uncertain
returns-clause-uncertain c = uncertain c.args.schema.now c.args.query.now c.in-Ok.planned c.in-Ok.ensures.read c.certify.result c.certify.ensures.open
