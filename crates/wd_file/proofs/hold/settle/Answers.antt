use Rattle.std.proofs.Common.{option_map}
use Rattle.wd_certificate.specs.Certificates.{certificate_of}
use Rattle.wd_judged.specs.Judgements.{statement_of}
use Rattle.wd_file.proofs.Certified.{one_answer}
use Rattle.wd_file.proofs.hold.settle.Goals as goal

pub returns-clause-one_answer : goal.returns-clause-one_answer
returns-clause-one_answer c =
    one_answer c.certified_have_one.ensures c.accepted_has_one.ensures c.args.schema.text.now (statement_of c.args.file.text.now c.args.span) c.in_ok-judged.judged.kind c.in_ok-judged.judged.judgement
    (option_map (λ x. certificate_of x.now) c.args.locked) c.in_ok-hold.hold c.in_ok-judged.ensures.judged.judgement c.in_ok-hold.ensures
