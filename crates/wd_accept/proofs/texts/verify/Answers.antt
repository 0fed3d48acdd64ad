use Rattle.wd_certificate.specs.Certificates.{certificate_of}
use Rattle.wd_query.proofs.ForReadings.{for_reading}
use Rattle.wd_accept.specs.Acceptance.{SpellsValid}
use Rattle.wd_accept.proofs.texts.verify.Goals as goal

pub returns-clause-accepted : goal.returns-clause-accepted
returns-clause-accepted c =
    for_reading c.args.schema.now c.args.query.now c.in-Ok.verified.planned c.in-Ok.ensures.read (SpellsValid c.args.certificate.now)
    (certificate_of c.in-Ok.verified.certificate, c.in-Ok.ensures.spelled, c.in-Ok.ensures.valid)

pub returns-clause-one_answer : goal.returns-clause-one_answer
returns-clause-one_answer c = c.accepted_has_one.ensures c.args.schema.now c.args.query.now c.args.certificate.now
    (for_reading c.args.schema.now c.args.query.now c.in-Ok.verified.planned c.in-Ok.ensures.read (SpellsValid c.args.certificate.now)
    (certificate_of c.in-Ok.verified.certificate, c.in-Ok.ensures.spelled, c.in-Ok.ensures.valid))
