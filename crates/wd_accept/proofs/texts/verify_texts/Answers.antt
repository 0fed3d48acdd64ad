use Rattle.wd_query.proofs.ForReadings.{for_reading}
use Rattle.wd_accept.specs.Acceptance.{RefusesPlan}
use Rattle.wd_accept.proofs.texts.verify_texts.Goals as goal

pub returns-in-Err-verify_text-clause-refused : goal.returns-in-Err-verify_text-clause-refused
returns-in-Err-verify_text-clause-refused c = for_reading c.args.schema.now c.args.query.now c.in-Ok.planned c.in-Ok.ensures.read (RefusesPlan c.in-Err-verify_text.error c.args.certificate.now) c.in-Err-verify_text.ensures.refused
