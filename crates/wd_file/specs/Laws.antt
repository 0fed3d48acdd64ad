-- What a verdict means.
use Rattle.std.specs.Prelude.{ℕ, List}
use Rattle.wd_accept.specs.Acceptance.{HaveOneAnswer}
use Rattle.wd_certificate.specs.declared.certificate.Certificate.{Certificate}
use Rattle.wd_decide.specs.Verdicts.{IsVerdict}
use Rattle.wd_decide.specs.declared.verdict.Verdict.TheVariants.{Deterministic}

-- a query whose verdict is DETERMINISTIC has one answer
abbrev pub CertifiedHaveOne : Type 0
CertifiedHaveOne = (schema query : List ℕ) (certificate : Certificate) → IsVerdict schema query (Deterministic certificate) → HaveOneAnswer schema query
