-- What counts as deterministic has one answer.
use Rattle.std.proofs.Common.{◌≡◌, ℕ, List, Option, Some, None, IfSome, subst}
use Rattle.wd_accept.specs.Acceptance.{HaveOneAnswer}
use Rattle.wd_accept.specs.Laws.{AcceptedHasOne}
use Rattle.wd_accept.proofs.Verdicts.{every}
use Rattle.wd_block.specs.Kinds as kinds
use Rattle.wd_certificate.specs.Certificates.{CertificateRecord, certificate_of}
use Rattle.wd_certain.specs.declared.certain.Certain.{Certain}
use Rattle.wd_certificate.specs.Json.{certificate_text}
use Rattle.wd_decide.specs.Laws.{ReportedAreSound}
use Rattle.wd_decide.specs.Verdicts.{IsVerdict}
use Rattle.wd_decide.specs.declared.verdict.Verdict.{Verdict}
use Rattle.wd_decide.specs.declared.verdict.Verdict.TheVariants as v
use Rattle.wd_further.specs.declared.judge.Found.{Found}
use Rattle.wd_judged.specs.Judgements.{IsJudgement}
use Rattle.wd_judged.specs.declared.judged.Judgement.{Judgement}
use Rattle.wd_judged.specs.declared.judged.Judgement.TheVariants as j
use Rattle.wd_lines.specs.declared.count.Kind.{Kind}
use Rattle.wd_lines.specs.declared.count.Kind.TheVariants.{Deterministic}
use Rattle.wd_query.specs.Laws.{HasOnePlan}
use Rattle.wd_resolve.specs.Laws.{PlansFit}
use Rattle.wd_rules.specs.Laws.{ValidHasOne}
use Rattle.wd_rules.specs.Validity.{IsValidCertificate}
use Rattle.wd_schema.specs.Laws.{HasOneMeaning}
use Rattle.wd_file.specs.Holds.{IsHold, IsHoldOf, kind_with}
use Rattle.wd_file.specs.Laws.{CertifiedHaveOne}
use Rattle.wd_file.specs.declared.hold.Hold.{Hold}
use Rattle.wd_file.specs.declared.hold.Hold.TheVariants.{Unlocked, Kept, Stale, Lost}

pub certified_have_one : HasOneMeaning → HasOnePlan → PlansFit → ValidHasOne → ReportedAreSound → CertifiedHaveOne
certified_have_one one_meaning one_plan plans_fit valid_has_one sound schema query certificate verdict read reads =
    let known = (sound schema query certificate verdict).valid in
    let valid = every one_meaning one_plan schema query (λ tables plan. IsValidCertificate tables plan (certificate_of certificate)) known.0 read known.1 reads known.2 in
    valid_has_one reads.tables read.plan (certificate_of certificate) (plans_fit reads.tables reads.tree read reads.means) valid

-- by its verdict, or by its simpler plan
by_verdict : CertifiedHaveOne → (schema query : List ℕ) (verdict : Verdict) (certain : Option Certain) (further : Option Found) → IsVerdict schema query verdict
    → IfSome certain (λ c. HaveOneAnswer schema query) → kinds.kind_of verdict certain further ≡ Deterministic → HaveOneAnswer schema query
by_verdict law schema query (v.Deterministic certificate) certain further is one e = law schema query certificate is
by_verdict law schema query (v.Depends witness) certain further is one e = absurd (cc)
by_verdict law schema query (v.Unknown reasons) (Some certain) further is one e = one
by_verdict law schema query (v.Unknown reasons) None (Some found) is one e = absurd (cc)
by_verdict law schema query (v.Unknown reasons) None None is one e = absurd (cc)

by_judgement : CertifiedHaveOne → (schema query : List ℕ) (kind : Kind) (judgement : Judgement) → IsJudgement schema query kind judgement → kind ≡ Deterministic → HaveOneAnswer schema query
by_judgement law schema query kind (j.Found finding) is e =
    by_verdict law schema query finding.verdict finding.certain finding.further is.0.verdict is.0.one_answer (subst (λ k. k ≡ Deterministic) is.1 e)
by_judgement law schema query kind (j.Refused error) is e = absurd (let other = subst (λ k. k ≡ Deterministic) is.1 e in cc)

-- or by the certificate of its lock
by_hold : CertifiedHaveOne → AcceptedHasOne → (schema query : List ℕ) (kind : Kind) (judgement : Judgement) (certificate : CertificateRecord) (hold : Hold) → IsJudgement schema query kind judgement
    → IsHoldOf schema query kind certificate hold → kind_with hold kind ≡ Deterministic → HaveOneAnswer schema query
by_hold law accepted schema query kind judgement certificate (Kept kept) is holds e = accepted schema query (certificate_text certificate) holds.1
by_hold law accepted schema query kind judgement certificate Unlocked is holds e = absurd holds
by_hold law accepted schema query kind judgement certificate Stale is holds e = by_judgement law schema query kind judgement is e
by_hold law accepted schema query kind judgement certificate Lost is holds e = by_judgement law schema query kind judgement is e

pub one_answer : CertifiedHaveOne → AcceptedHasOne → (schema query : List ℕ) (kind : Kind) (judgement : Judgement) (locked : Option CertificateRecord) (hold : Hold) → IsJudgement schema query kind judgement
    → IsHold schema query kind locked hold → kind_with hold kind ≡ Deterministic → HaveOneAnswer schema query
one_answer law accepted schema query kind judgement None hold is holds e = by_judgement law schema query kind judgement is (subst (λ h. kind_with h kind ≡ Deterministic) holds e)
one_answer law accepted schema query kind judgement (Some certificate) hold is holds e = by_hold law accepted schema query kind judgement certificate hold is holds e
