-- The verdict on whether a query has one list of rows.
use Rattle.std.specs.Prelude.{◌≡◌, ℕ, true, List, Option, Some, None}
use Rattle.std.specs.declared.alloc.Global.{Global}
use Rattle.std.specs.declared.vec.Vec.{Vec}
use Rattle.wd_schema.specs.Tables.{TableRule}
use Rattle.wd_certificate.specs.Certificates.{certificate_of, nodes_of}
use Rattle.wd_certificate.specs.Json.{Spells}
use Rattle.wd_certificate.specs.declared.certificate.Certificate.{Certificate}
use Rattle.wd_rules.specs.Lists.{goes_by_keys}
use Rattle.wd_analyse.specs.Analysis.{IsAnswer}
use Rattle.wd_analyse.specs.Lists.{IsLack}
use Rattle.wd_analyse.specs.declared.analysis.Analysis.{Analysis}
use Rattle.wd_analyse.specs.declared.analysis.Reason.{Reason}
use Rattle.wd_resolve.specs.Answers.{Answer}
use Rattle.wd_query.specs.Readings.{ForAnswer}
use Rattle.wd_accept.specs.Lists.{IsListAccepted, answer_limit}
use Rattle.wd_witness_text.specs.declared.witness.Witness.{Witness}
use Rattle.wd_decide.specs.Verdicts.{IsVerdict, IsVerdictOf}
use Rattle.wd_decide.specs.declared.list.ListReason.{ListReason}
use Rattle.wd_decide.specs.declared.list.ListReason.TheVariants as reason
use Rattle.wd_decide.specs.declared.list.ListVerdict.{ListVerdict}
use Rattle.wd_decide.specs.declared.list.ListVerdict.TheVariants as list
use Rattle.wd_decide.specs.declared.verdict.Verdict.{Verdict}
use Rattle.wd_decide.specs.declared.verdict.Verdict.TheVariants.{Deterministic, Depends, Unknown}

-- why a certificate shows no order of the answer's rows: there is no answer's Limit, or its sort keys do not determine this column, the
-- least such, by the facts that the analysis keeps
abbrev pub IsListReason : List TableRule → Answer → ListReason → Type 0
IsListReason tables read reason.NoOrder = answer_limit read ≡ None
IsListReason tables read (reason.Column node column) = (answer_limit read ≡ Some node) × IsLack tables read.plan (Some column)

-- the reason, by the answer's Limit and what its sort keys lack
abbrev pub reason_of : Option ℕ → Option ℕ → ListReason
reason_of None lack = reason.NoOrder
reason_of (Some node) None = reason.NoOrder
reason_of (Some node) (Some column) = reason.Column node column

-- the verdict on the list, by the verdict: its certificate where the answer's Limit goes by `keys`, else why it does not
abbrev pub IsOfVerdict : List TableRule → Answer → Verdict → ListVerdict → Type 0
IsOfVerdict tables read (Deterministic certificate) (list.Listed reported) = (certificate ≡ reported) × (goes_by_keys (nodes_of reported) (answer_limit read) ≡ true)
IsOfVerdict tables read (Deterministic certificate) (list.Unlisted r) = IsListReason tables read r
IsOfVerdict tables read (Depends found) (list.Depends witness) = found ≡ witness
IsOfVerdict tables read (Unknown found) (list.Unknown reasons) = found ≡ reasons
IsOfVerdict tables read verdict listed = ⊥

-- an analysis of the plan gives a verdict, and the verdict gives the verdict on the list
pub record IsListVerdictOf (tables : List TableRule) (read : Answer) (listed : ListVerdict) : Type 0 where
  pub analysis : Analysis
  pub verdict : Verdict
  pub analysed : IsAnswer tables read.plan analysis
  pub of_analysis : IsVerdictOf tables read.plan analysis verdict
  pub of_verdict : IsOfVerdict tables read verdict listed

-- the verdict on the list is that of the plan that reads the two texts
abbrev pub IsListVerdict : List ℕ → List ℕ → ListVerdict → Type 0
IsListVerdict schema query listed = ForAnswer schema query (λ tables read. IsListVerdictOf tables read listed)

-- ---- what the report of a certificate means, and that of a witness

-- a certificate that is reported is a verdict's, and a text that spells it is accepted for the list, so that `verify_list` takes it
pub record IsListSound (schema query : List ℕ) (certificate : Certificate) : Type 0 where
  pub plain : IsVerdict schema query (Deterministic certificate)
  pub accepted : (text : List ℕ) → Spells (certificate_of certificate) text → IsListAccepted schema query text

abbrev pub ListedAreSound : Type 0
ListedAreSound = (schema query : List ℕ) (certificate : Certificate) → IsListVerdict schema query (list.Listed certificate) → IsListSound schema query certificate

-- witnesses and reasons that are reported are those of the verdict on the query
pub record OthersAreVerdicts : Type 0 where
  pub depends : (schema query : List ℕ) (witness : Witness) → IsListVerdict schema query (list.Depends witness) → IsVerdict schema query (Depends witness)
  pub unknown : (schema query : List ℕ) (reasons : Vec Reason Global) → IsListVerdict schema query (list.Unknown reasons) → IsVerdict schema query (Unknown reasons)
  pub unlisted : (schema query : List ℕ) (r : ListReason) → IsListVerdict schema query (list.Unlisted r) → (certificate : Certificate) × IsVerdict schema query (Deterministic certificate)
