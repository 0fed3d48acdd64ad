use Rattle.std.proofs.Common.{true, false, sym, ◌∙◌}
use Rattle.wd_certificate.specs.Certificates.{certificate_of}
use Rattle.wd_query.proofs.ForReadings.{for_answer}
use Rattle.wd_accept.specs.Lists.{SpellsListed}
use Rattle.wd_accept.specs.declared.error.VerifyError.TheVariants as error
use Rattle.wd_accept.proofs.Listed.{list_cause}
use Rattle.wd_accept.proofs.texts.verify_list.Goals as goal

pub returns-then-is_listed-clause-accepted : goal.returns-then-is_listed-clause-accepted
returns-then-is_listed-clause-accepted c =
    for_answer c.args.schema.now c.args.query.now c.in-Ok.verified.planned c.in-Ok.ensures.read (SpellsListed true c.args.certificate.now)
    (certificate_of c.in-Ok.verified.certificate, c.in-Ok.ensures.spelled, c.in-Ok.ensures.valid, sym c.is_listed.ensures ∙ c.if-is_listed.true)

pub returns-then-is_listed-clause-one_list : goal.returns-then-is_listed-clause-one_list
returns-then-is_listed-clause-one_list c = (c.listed_has_one_list.ensures c.args.schema.now c.args.query.now c.args.certificate.now
    (for_answer c.args.schema.now c.args.query.now c.in-Ok.verified.planned c.in-Ok.ensures.read (SpellsListed true c.args.certificate.now)
    (certificate_of c.in-Ok.verified.certificate, c.in-Ok.ensures.spelled, c.in-Ok.ensures.valid, sym c.is_listed.ensures ∙ c.if-is_listed.true))).1

pub returns-clause-refused : goal.returns-clause-refused
returns-clause-refused c =
    for_answer c.args.schema.now c.args.query.now c.in-Ok.verified.planned c.in-Ok.ensures.read (SpellsListed false c.args.certificate.now)
    (certificate_of c.in-Ok.verified.certificate, c.in-Ok.ensures.spelled, c.in-Ok.ensures.valid, sym c.is_listed.ensures ∙ c.if-is_listed.false)

pub returns-in-Err-clause-refused : goal.returns-in-Err-clause-refused
returns-in-Err-clause-refused c = list_cause c.args.schema.now c.args.query.now c.args.certificate.now c.in-Err.error c.in-Err.ensures.refused

pub returns-in-Err-clause-taken : goal.returns-in-Err-clause-taken
returns-in-Err-clause-taken c meaning accepted = c.listed_is_taken.ensures c.args.schema.now c.args.query.now c.args.certificate.now c.in-Err.error meaning accepted (returns-in-Err-clause-refused c)

pub returns-clause-taken : goal.returns-clause-taken
returns-clause-taken c meaning accepted = c.listed_is_taken.ensures c.args.schema.now c.args.query.now c.args.certificate.now error.Unlisted meaning accepted (returns-clause-refused c)
