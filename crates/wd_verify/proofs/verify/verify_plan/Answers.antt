use Rattle.std.proofs.Common.{◌≡◌, IfOk, None, map, sym, subst, ap, ◌∙◌}
use Rattle.std.proofs.lemmas.Result.{IfOk-weaker}
use Rattle.wd_schema.specs.Schemas.{schema_of}
use Rattle.wd_plan.specs.Plans.{plan_of}
use Rattle.wd_certificate.specs.Certificates.{certificate_of, node_of}
use Rattle.wd_certificate.specs.declared.error.CertError.TheVariants.{Version}
use Rattle.wd_rules.specs.Rules.{or_else, refuse_unless}
use Rattle.wd_rules.specs.Validity.{IsValidCertificate, entries_refusal, is_read_for}
use Rattle.wd_rules.proofs.Sound.{valid_has_one, valid_shows}
use Rattle.wd_rules.proofs.Valid.{valid}
use Rattle.wd_verify.proofs.verify.verify_plan.Goals as goal

-- accepted is valid
accepted : (c : goal.After-check) → IfOk c.check.result (λ done. IsValidCertificate (schema_of c.args.schema.now) (plan_of c.args.plan.now) (certificate_of c.args.certificate.now))
accepted c =
    let read : refuse_unless (is_read_for (plan_of c.args.plan.now) c.args.certificate.now.version) Version ≡ None = ap (λ b. refuse_unless b Version) (sym c.is_read_for-is_read.ensures) ∙ sym c.in_ok-refuse_unless.ensures in
    IfOk-weaker c.check.result _ _ (λ done passed. valid (schema_of c.args.schema.now) (plan_of c.args.plan.now) (certificate_of c.args.certificate.now) (λ i. or_else (read i) (passed i)))
    (subst (λ nodes. IfOk c.check.result (λ done. entries_refusal (schema_of c.args.schema.now) (plan_of c.args.plan.now) (map node_of nodes) ≡ None)) c.deref.ensures.value c.check.ensures.passed)

pub returns-clause-valid : goal.returns-clause-valid
returns-clause-valid c = accepted c

pub returns-clause-shows : goal.returns-clause-shows
returns-clause-shows c = IfOk-weaker c.check.result _ _ (λ done v. valid_shows (schema_of c.args.schema.now) (plan_of c.args.plan.now) (certificate_of c.args.certificate.now) c.requires v) (accepted c)

pub returns-clause-one_answer : goal.returns-clause-one_answer
returns-clause-one_answer c = IfOk-weaker c.check.result _ _ (λ done v. valid_has_one (schema_of c.args.schema.now) (plan_of c.args.plan.now) (certificate_of c.args.certificate.now) c.requires v) (accepted c)
