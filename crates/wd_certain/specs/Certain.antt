-- What is certified by a simpler plan.
use Rattle.std.specs.Prelude.{◌≡◌, ◌≢◌, ◌⊎◌, ℕ, List, [], true, false}
use Rattle.wd_schema.specs.Tables.{TableRule}
use Rattle.wd_plan.specs.Fits.{fits}
use Rattle.wd_plan.specs.Plans.{PlanTree, plan_of}
use Rattle.wd_analyse.specs.Analysis.{IsAnswer}
use Rattle.wd_analyse.specs.declared.analysis.Analysis.{Analysis}
use Rattle.wd_analyse.specs.declared.analysis.Analysis.TheVariants.{Certified, Open}
use Rattle.wd_certificate.specs.Certificates.{certificate_of}
use Rattle.wd_query.specs.Causes.{HasTextCause}
use Rattle.wd_query.specs.Readings.{ForReading}
use Rattle.wd_query.specs.declared.error.TextError.{TextError}
use Rattle.wd_rules.specs.Validity.{IsValidCertificate}
use Rattle.wd_simpler.specs.Simpler.{simpler}
use Rattle.wd_certain.specs.declared.certain.Certain.{Certain}

-- the simpler plan of a plan, with a certificate that is valid for it
pub record IsCertainOf (certain : Certain) (tables : List TableRule) (plan : PlanTree) : Type 0 where
  pub simpler : plan_of certain.plan ≡ simpler tables plan
  pub fits : fits tables (plan_of certain.plan) ≡ true
  pub valid : IsValidCertificate tables (plan_of certain.plan) (certificate_of certain.certificate)

-- the simpler plan of the plan that reads the texts of a schema and a query, with a valid certificate
abbrev pub IsCertain : List ℕ → List ℕ → Certain → Type 0
IsCertain schema query certain = ForReading schema query (IsCertainOf certain)

-- the analysis of the simpler plan leaves something open, or that plan does not fit the schema
abbrev pub IsOpenStill : List TableRule → PlanTree → Type 0
IsOpenStill tables plan = (fits tables (simpler tables plan) ≡ false) ⊎ ((analysis : Analysis) × IsAnswer tables (simpler tables plan) analysis × IsOpen analysis)
  where
    IsOpen : Analysis → Type 0
    IsOpen (Open reasons marks) = reasons.items ≢ []
    IsOpen (Certified certificate) = ⊥

-- why nothing is certified: a text is refused for a cause that it has, or something stays open
abbrev pub IsUncertain : List ℕ → List ℕ → Type 0
IsUncertain schema query = ((refusal : TextError) × HasTextCause schema query refusal) ⊎ ForReading schema query IsOpenStill
