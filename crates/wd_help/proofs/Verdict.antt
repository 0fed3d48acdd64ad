-- A text in whose plan nothing is open has the verdict DETERMINISTIC.
use Rattle.std.proofs.Common.{ℕ, List, refl, subst, sym}
use Rattle.wd_schema.specs.Schemas.{schema_of}
use Rattle.wd_plan.specs.Plans.{plan_of}
use Rattle.wd_analyse.specs.Analysis.{IsAnswer}
use Rattle.wd_analyse.specs.declared.analysis.Analysis.{Analysis}
use Rattle.wd_analyse.specs.declared.analysis.Analysis.TheVariants.{Certified, Open}
use Rattle.wd_query.specs.declared.read.PlannedQuery.{PlannedQuery}
use Rattle.wd_query.specs.Readings.{IsRead}
use Rattle.wd_resolve.specs.Answers.{resolved_of}
use Rattle.wd_certificate.specs.declared.certificate.Certificate.{Certificate}
use Rattle.wd_decide.specs.Verdicts.{IsVerdict}
use Rattle.wd_decide.specs.declared.verdict.Verdict.TheVariants.{Deterministic}
use Rattle.wd_least.specs.First.{Analyses, IsCertified, IsMended}
use Rattle.wd_least.specs.declared.least.Mended.{Mended}
use Rattle.wd_help.specs.Helps.{IsHelp, help_of}

-- the verdict on such a text, and its certificate
pub record IsDecided (schema query : List ℕ) : Type 0 where
  pub certificate : Certificate
  pub decided : IsVerdict schema query (Deterministic certificate)

pub decided : (schema query : List ℕ) (planned : PlannedQuery) (certificate : Certificate) → IsRead schema query planned
    → IsAnswer (schema_of planned.schema) (plan_of planned.resolved.plan) (Certified certificate) → IsDecided schema query
decided schema query planned certificate read is = record {
  certificate = certificate;
  decided = (resolved_of planned.resolved, read.reads, (Certified certificate, subst (λ tables. IsAnswer tables (plan_of planned.resolved.plan) (Certified certificate)) (sym read.tables) is, refl));
}

certified : (schema query : List ℕ) (planned : PlannedQuery) (analysis : Analysis) → IsRead schema query planned
    → IsAnswer (schema_of planned.schema) (plan_of planned.resolved.plan) analysis → IsCertified analysis → IsDecided schema query
certified schema query planned (Certified certificate) read is holds = decided schema query planned certificate read is
certified schema query planned (Open reasons marks) read is holds = absurd holds

pub nothing_open : (schema query : List ℕ) → Analyses IsCertified schema query → IsDecided schema query
nothing_open schema query closed = certified schema query closed.planned closed.analysis closed.read closed.is closed.holds

-- a mended text is a help
pub is_help : (schema query : List ℕ) (mended : Mended) → IsMended schema query mended → IsHelp schema query (help_of mended)
is_help schema query mended is = let d = nothing_open schema mended.text.items is.closed in record { put = is.put; certificate = d.certificate; decided = d.decided }
