-- Which certificates are accepted for the texts of a schema and a query, and why others are refused.
use Rattle.std.specs.Prelude.{◌≡◌, ◌⊎◌, ℕ, List, Option, Some, None}
use Rattle.wd_schema.specs.Tables.{TableRule}
use Rattle.wd_plan.specs.Plans.{PlanTree}
use Rattle.wd_certificate.specs.Certificates.{CertificateRecord}
use Rattle.wd_certificate.specs.Json.{Spells}
use Rattle.wd_certificate.specs.Refusals as certificates
use Rattle.wd_certificate.specs.declared.error.CertError.{CertError}
use Rattle.wd_resolve.specs.Answers.{Answer}
use Rattle.wd_resolve.specs.Laws.{Reads}
use Rattle.wd_rules.specs.Laws.{HasOneAnswer}
use Rattle.wd_rules.specs.Validity.{IsValidCertificate, first_refusal}
use Rattle.wd_query.specs.Causes.{HasTextCause, text_number, text_place}
use Rattle.wd_query.specs.Readings.{ForReading}
use Rattle.wd_query.specs.declared.error.TextError.TheVariants as text
use Rattle.wd_accept.specs.declared.error.VerifyError.{VerifyError}
use Rattle.wd_accept.specs.declared.error.VerifyError.TheVariants as error
use Rattle.wd_accept.specs.declared.error.VerifyOrigin.{VerifyOrigin}
use Rattle.wd_accept.specs.declared.error.VerifyOrigin.TheVariants as origin

-- a text spells a certificate that is valid for a plan
abbrev pub SpellsValid : List ℕ → List TableRule → PlanTree → Type 0
SpellsValid certificate tables plan = (said : CertificateRecord) × Spells said certificate × IsValidCertificate tables plan said

-- the certificate is valid for the plan that reads the texts of a schema and a query
abbrev pub IsAccepted : List ℕ → List ℕ → List ℕ → Type 0
IsAccepted schema query certificate = ForReading schema query (SpellsValid certificate)

-- the plan that reads the texts has one answer: over each instance that meets the schema, in any order of its rows, under all valid
-- choices, one multiset of rows or one fault
abbrev pub HaveOneAnswer : List ℕ → List ℕ → Type 0
HaveOneAnswer schema query = (read : Answer) (reads : Reads schema query read) → HasOneAnswer reads.tables read.plan

-- why a certificate is refused for a plan: for its text alone, or by the first check that the certificate it spells fails
abbrev pub RefusesPlan : CertError → List ℕ → List TableRule → PlanTree → Type 0
RefusesPlan refusal certificate tables plan =
    certificates.HasCause refusal certificate ⊎ ((said : CertificateRecord) × Spells said certificate × (first_refusal tables plan said ≡ Some refusal))

-- why the texts of a schema, a query and a certificate are refused; the order of the rows plays no part
abbrev pub HasCause : List ℕ → List ℕ → List ℕ → VerifyError → Type 0
HasCause schema query certificate (error.Texts refusal) = HasTextCause schema query refusal
HasCause schema query certificate (error.Certificate refusal) = ForReading schema query (RefusesPlan refusal certificate)
HasCause schema query certificate error.Unlisted = ⊥

-- ---- numbers, places and origins

abbrev pub verify_number : VerifyError → Option ℕ
verify_number (error.Texts refusal) = text_number refusal
verify_number (error.Certificate refusal) = certificates.number_of refusal
verify_number error.Unlisted = Some 511

abbrev pub verify_place : VerifyError → Option ℕ
verify_place (error.Texts refusal) = text_place refusal
verify_place (error.Certificate refusal) = certificates.place_of refusal
verify_place error.Unlisted = None

abbrev pub origin_of : VerifyError → VerifyOrigin
origin_of (error.Texts (text.Schema refusal)) = origin.Schema
origin_of (error.Texts (text.Query refusal)) = origin.Query
origin_of (error.Certificate refusal) = origin.Certificate
origin_of error.Unlisted = origin.Certificate
