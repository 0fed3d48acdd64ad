-- What the report of a certificate means, and that of a witness.
use Rattle.std.specs.Prelude.{◌≡◌, ℕ, List, IsSome, None}
use Rattle.wd_certificate.specs.Certificates.{certificate_of}
use Rattle.wd_certificate.specs.Json as certificates
use Rattle.wd_certificate.specs.declared.certificate.Certificate.{Certificate}
use Rattle.wd_rules.specs.Validity.{IsValidCertificate}
use Rattle.wd_query.specs.Readings.{ForReading}
use Rattle.wd_query.specs.Laws.{HaveMeaning}
use Rattle.wd_accept.specs.Acceptance.{IsAccepted}
use Rattle.wd_witness_text.specs.Json as witnesses
use Rattle.wd_witness_text.specs.Witnesses.{witness_of}
use Rattle.wd_witness_text.specs.declared.witness.Witness.{Witness}
use Rattle.wd_refute.specs.Laws.{IsShown}
use Rattle.wd_refute.specs.Refutation as refutation
use Rattle.wd_refute.specs.Refutation.{IsRefuted, RefusesText, refusal_number, number_of as witness_number}
use Rattle.wd_refute.specs.declared.error.WitnessError.{WitnessError}
use Rattle.wd_refute.specs.declared.error.Refusal.{Refusal}
use Rattle.wd_decide.specs.Verdicts.{IsDecidedIfPlain, IsVerdict}
use Rattle.wd_decide.specs.declared.verdict.Verdict.{Verdict}
use Rattle.wd_decide.specs.declared.verdict.Verdict.TheVariants.{Deterministic, Depends}

-- a certificate is valid for the plan that reads the texts, and a text that spells it is accepted, so that `verify` takes it
pub record IsSound (schema query : List ℕ) (certificate : Certificate) : Type 0 where
  pub valid : ForReading schema query (λ tables plan. IsValidCertificate tables plan (certificate_of certificate))
  pub accepted : (text : List ℕ) → certificates.Spells (certificate_of certificate) text → IsAccepted schema query text

-- each certificate that is reported is sound
abbrev pub ReportedAreSound : Type 0
ReportedAreSound = (schema query : List ℕ) (certificate : Certificate) → IsVerdict schema query (Deterministic certificate) → IsSound schema query certificate

-- a witness is true of the plan that reads the texts, with no step too large, and a text that spells it refutes the query; that text is
-- refused with no number
pub record IsTrueOf (schema query : List ℕ) (witness : Witness) : Type 0 where
  pub shown : ForReading schema query (λ tables plan. IsShown tables plan (witness_of witness))
  pub refuted : (text : List ℕ) → witnesses.Spells (witness_of witness) text → IsRefuted schema query text
  pub unrefused : (text : List ℕ) → witnesses.Spells (witness_of witness) text → (refusal : Refusal) → IsSome (refusal_number refusal) → ForReading schema query (RefusesText refusal text) → ⊥

-- each witness that is reported is true
abbrev pub ReportedAreTrue : Type 0
ReportedAreTrue = (schema query : List ℕ) (witness : Witness) → IsVerdict schema query (Depends witness) → IsTrueOf schema query witness

-- the verdict on a query of the plain class is never UNKNOWN
abbrev pub PlainAreDecided : Type 0
PlainAreDecided = (schema query : List ℕ) (verdict : Verdict) → IsVerdict schema query verdict → IsDecidedIfPlain schema query verdict

-- over texts that have a meaning, `refute` refuses no text of a witness that is reported, but where memory runs out
abbrev pub WitnessesAreTaken : Type 0
WitnessesAreTaken = (schema query text : List ℕ) (witness : Witness) (error : WitnessError)
    → HaveMeaning schema query → IsVerdict schema query (Depends witness) → witnesses.Spells (witness_of witness) text
    → refutation.HasCause schema query text error → witness_number error ≡ None
