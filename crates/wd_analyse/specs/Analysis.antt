-- What the analysis of a plan answers.
use Rattle.std.specs.Prelude.{◌≡◌, ◌≢◌, [], List}
use Rattle.wd_schema.specs.Tables.{TableRule}
use Rattle.wd_plan.specs.Plans.{PlanTree}
use Rattle.wd_certificate.specs.Certificates.{certificate_of, nodes_of}
use Rattle.wd_rules.specs.Validity.{IsValidCertificate, version_needed}
use Rattle.wd_analyse.specs.declared.analysis.Analysis.{Analysis}
use Rattle.wd_analyse.specs.declared.analysis.Analysis.TheVariants.{Certified, Open}
use Rattle.wd_analyse.specs.Findings.{AreFindings, Finding, PlanFindings, entries_in, in_postorder, marks_in, reasons_in}

-- a certificate that is valid, or at least one reason
abbrev pub IsSound : List TableRule → PlanTree → Analysis → Type 0
IsSound tables plan (Certified certificate) = IsValidCertificate tables plan (certificate_of certificate)
IsSound tables plan (Open reasons marks) = reasons.items ≢ []

-- the entries, and the least version for the plan, where there are no reasons; else all reasons and all marks
abbrev pub Tells : PlanTree → List Finding → Analysis → Type 0
Tells plan fs (Certified certificate) = (reasons_in fs ≡ []) × (nodes_of certificate ≡ entries_in fs) × (certificate.version ≡ version_needed plan)
Tells plan fs (Open reasons marks) = (reasons.items ≢ []) × (reasons.items ≡ reasons_in fs) × (marks.items ≡ marks_in fs)

-- the analysis tells what is found at the plan's nodes
pub record IsExact (tables : List TableRule) (plan : PlanTree) (analysis : Analysis) : Type 0 where
  pub found : PlanFindings
  pub are : AreFindings tables plan 0 found
  pub tells : Tells plan (in_postorder found) analysis

pub record IsAnswer (tables : List TableRule) (plan : PlanTree) (analysis : Analysis) : Type 0 where
  pub sound : IsSound tables plan analysis
  pub exact : IsExact tables plan analysis
