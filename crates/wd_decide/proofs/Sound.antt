-- A reported certificate is valid, and its texts are accepted.
use Rattle.std.proofs.Common.{List, subst}
use Rattle.wd_schema.specs.Tables.{TableRule}
use Rattle.wd_plan.specs.Plans.{PlanTree}
use Rattle.wd_certificate.specs.declared.certificate.Certificate.{Certificate}
use Rattle.wd_analyse.specs.declared.analysis.Analysis.{Analysis}
use Rattle.wd_certificate.specs.Certificates.{certificate_of}
use Rattle.wd_analyse.specs.Analysis.{IsAnswer}
use Rattle.wd_analyse.specs.declared.analysis.Analysis.TheVariants.{Certified, Open}
use Rattle.wd_rules.specs.Validity.{IsValidCertificate}
use Rattle.wd_decide.specs.Laws.{ReportedAreSound}
use Rattle.wd_decide.specs.Verdicts.{IsVerdictOf}
use Rattle.wd_decide.specs.declared.verdict.Verdict.TheVariants.{Deterministic}

pub valid_of : (tables : List TableRule) (plan : PlanTree) (analysis : Analysis) (certificate : Certificate) → IsAnswer tables plan analysis → IsVerdictOf tables plan analysis (Deterministic certificate) → IsValidCertificate tables plan (certificate_of certificate)
valid_of tables plan (Certified c) certificate answer is = subst (λ c. IsValidCertificate tables plan (certificate_of c)) is answer.sound
valid_of tables plan (Open reasons marks) certificate answer is = absurd is

pub sound : ReportedAreSound
sound schema query certificate (read, reads, found) = record {
  valid = (read, reads, well);
  accepted = λ text spells. (read, reads, (certificate_of certificate, spells, well));
}
  where
    well : IsValidCertificate reads.tables read.plan (certificate_of certificate)
    well = valid_of reads.tables read.plan found.0 certificate found.1 found.2
