-- Which certificates show that the texts of a schema and a query have one list, and why others do not.
use Rattle.std.specs.Prelude.{◌≡◌, ℕ, Bool, true, false, List, Option, None, is_some, if◌then◌else◌}
use Rattle.wd_schema.specs.Tables.{TableRule}
use Rattle.wd_certificate.specs.Certificates.{CertificateRecord}
use Rattle.wd_certificate.specs.Json.{Spells}
use Rattle.wd_resolve.specs.Answers.{Answer}
use Rattle.wd_resolve.specs.Laws.{Reads}
use Rattle.wd_rules.specs.Lists.{HasOneList, final_limit, goes_by_keys}
use Rattle.wd_rules.specs.Validity.{IsValidCertificate}
use Rattle.wd_query.specs.Causes.{HasTextCause}
use Rattle.wd_query.specs.Laws.{HaveMeaning}
use Rattle.wd_query.specs.Readings.{ForAnswer, ForReading}
use Rattle.wd_accept.specs.Acceptance.{IsAccepted, RefusesPlan, verify_number}
use Rattle.wd_accept.specs.declared.error.VerifyError.{VerifyError}
use Rattle.wd_accept.specs.declared.error.VerifyError.TheVariants as error

-- the number of the answer's Limit: the last Limit in postorder, where the outermost select has ORDER BY
abbrev pub answer_limit : Answer → Option ℕ
answer_limit read = if read.ordered then final_limit read.plan 0 else None

-- a text spells a valid certificate of a plan, by which the answer's Limit goes by `keys` (`listed` is true) or does not
abbrev pub SpellsListed : Bool → List ℕ → List TableRule → Answer → Type 0
SpellsListed listed certificate tables read =
    (said : CertificateRecord) × Spells said certificate × IsValidCertificate tables read.plan said × (goes_by_keys said.nodes (answer_limit read) ≡ listed)

-- the certificate is valid for the plan that reads the texts of a schema and a query, and the answer's Limit goes by `keys`
abbrev pub IsListAccepted : List ℕ → List ℕ → List ℕ → Type 0
IsListAccepted schema query certificate = ForAnswer schema query (SpellsListed true certificate)

-- the plan that reads the texts has one list: over each instance that meets the schema, in any order of its rows, under all valid
-- choices, one list of rows or one fault
abbrev pub HaveOneList : List ℕ → List ℕ → Type 0
HaveOneList schema query = (read : Answer) (reads : Reads schema query read) → HasOneList reads.tables read.plan

-- why the texts of a schema, a query and a certificate are refused: as for `verify`, or there is no answer's Limit, or the valid
-- certificate's limit there is null
abbrev pub HasListCause : List ℕ → List ℕ → List ℕ → VerifyError → Type 0
HasListCause schema query certificate (error.Texts refusal) = HasTextCause schema query refusal
HasListCause schema query certificate (error.Certificate refusal) = ForReading schema query (RefusesPlan refusal certificate)
HasListCause schema query certificate error.Unlisted = ForAnswer schema query (SpellsListed false certificate)

-- ---- laws

-- texts for which a certificate is accepted have one list, and the certificate is accepted by `verify` too
abbrev pub ListedHasOneList : Type 0
ListedHasOneList = (schema query certificate : List ℕ) → IsListAccepted schema query certificate → IsAccepted schema query certificate × HaveOneList schema query

-- texts that have a meaning, and a certificate that is accepted for their list, are refused only where memory runs out
abbrev pub ListedIsTaken : Type 0
ListedIsTaken = (schema query certificate : List ℕ) (e : VerifyError)
    → HaveMeaning schema query → IsListAccepted schema query certificate → HasListCause schema query certificate e → verify_number e ≡ None

-- there is an answer's Limit exactly where the outermost select has ORDER BY
abbrev pub OrderedHaveLimit : Type 0
OrderedHaveLimit = (schema query : List ℕ) (read : Answer) → Reads schema query read → is_some (answer_limit read) ≡ read.ordered
