-- What acceptance implies.
use Rattle.std.specs.Prelude.{◌≡◌, ℕ, List, IsSome, None}
use Rattle.wd_certificate.specs.Refusals.{number_of}
use Rattle.wd_certificate.specs.declared.error.CertError.{CertError}
use Rattle.wd_query.specs.Laws.{HaveMeaning}
use Rattle.wd_query.specs.Readings.{ForReading}
use Rattle.wd_accept.specs.Acceptance.{HasCause, HaveOneAnswer, IsAccepted, RefusesPlan, verify_number}
use Rattle.wd_accept.specs.declared.error.VerifyError.{VerifyError}

-- texts for which a certificate is accepted have one answer
abbrev pub AcceptedHasOne : Type 0
AcceptedHasOne = (schema query certificate : List ℕ) → IsAccepted schema query certificate → HaveOneAnswer schema query

-- for an accepted certificate no cause of a refusal of the certificate holds, but that memory runs out
abbrev pub NotBoth : Type 0
NotBoth = (schema query certificate : List ℕ) (refusal : CertError)
    → IsAccepted schema query certificate → IsSome (number_of refusal) → ForReading schema query (RefusesPlan refusal certificate) → ⊥

-- texts that have a meaning, and a certificate that is accepted for them, are refused only where memory runs out
abbrev pub AcceptedIsTaken : Type 0
AcceptedIsTaken = (schema query certificate : List ℕ) (e : VerifyError)
    → HaveMeaning schema query → IsAccepted schema query certificate → HasCause schema query certificate e → verify_number e ≡ None
