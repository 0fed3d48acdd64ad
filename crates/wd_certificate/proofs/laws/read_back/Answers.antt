use Rattle.std.proofs.Common.{sym, subst}
use Rattle.std.proofs.lemmas.Result.{IfOk-weaker}
use Rattle.wd_certificate.specs.Certificates.{certificate_of}
use Rattle.wd_certificate.specs.Json.{Spells}
use Rattle.wd_certificate.proofs.Inverse.{is_read_back}
use Rattle.wd_certificate.proofs.laws.read_back.Goals as goal

pub returns-clause-same : goal.returns-clause-same
returns-clause-same c =
    let spelled : Spells (certificate_of c.args.certificate.now) c.deref.result.now = subst (Spells (certificate_of c.args.certificate.now)) (sym c.deref.ensures.value) c.in_ok-bytes.ensures.spells in
    IfOk-weaker c.from_json.result _ _ (λ r h. (is_read_back c.deref.result.now (certificate_of c.args.certificate.now) spelled).0 _ h) c.from_json.ensures.ok
