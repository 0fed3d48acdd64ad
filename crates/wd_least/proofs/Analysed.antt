-- What an analysis says of the texts whose plan it reads.
use Rattle.std.proofs.Common.{◌≡◌, ◌≢◌, ℕ, List, [], ◌∷◌, Option, Some, refl, sym, subst, slice_get}
use Rattle.std.specs.declared.alloc.Global.{Global}
use Rattle.std.specs.declared.vec.Vec.{Vec}
use Rattle.wd_schema.specs.Schemas.{schema_of}
use Rattle.wd_plan.specs.Plans.{plan_of}
use Rattle.wd_analyse.specs.Analysis.{IsAnswer, IsSound}
use Rattle.wd_analyse.specs.declared.analysis.Analysis.{Analysis}
use Rattle.wd_analyse.specs.declared.analysis.Analysis.TheVariants.{Open}
use Rattle.wd_analyse.specs.declared.analysis.Mark.{Mark}
use Rattle.wd_analyse.specs.declared.analysis.Reason.{Reason}
use Rattle.wd_query.specs.declared.read.PlannedQuery.{PlannedQuery}
use Rattle.wd_query.specs.Readings.{IsRead}
use Rattle.wd_least.specs.First.{Analyses, BeginWith, IsFirstOpen, OpensWith}

-- this holds of the analysis of a plan that the texts read as
pub analyses : (P : Analysis → Type 0) (schema query : List ℕ) (planned : PlannedQuery) (analysis is_what : Analysis) → IsRead schema query planned
    → IsAnswer (schema_of planned.schema) (plan_of planned.resolved.plan) analysis → analysis ≡ is_what → P is_what → Analyses P schema query
analyses P schema query planned analysis is_what read is e holds = record {
  planned = planned;
  read = read;
  analysis = analysis;
  is = is;
  holds = subst P (sym e) holds;
}

-- the first of some reasons
record HasFirst (reasons : List Reason) (first : Option Reason) : Type 0 where
  reason : Reason
  is : first ≡ Some reason
  begins : BeginWith reason reasons

has_first : (reasons : List Reason) (first : Option Reason) → reasons ≢ [] → first ≡ slice_get reasons 0 → HasFirst reasons first
has_first [] first some e = absurd (some refl)
has_first (reason ∷ reasons) first some e = record { reason = reason; is = e; begins = refl }

-- the first of the reasons is what is open first
pub first_open : (schema query : List ℕ) (planned : PlannedQuery) (analysis : Analysis) (reasons : Vec Reason Global) (marks : Vec Mark Global) (first : Option Reason)
    → IsRead schema query planned → IsAnswer (schema_of planned.schema) (plan_of planned.resolved.plan) analysis → analysis ≡ Open reasons marks
    → first ≡ slice_get reasons.items 0 → IsFirstOpen schema query first
first_open schema query planned analysis reasons marks first read is e at =
    let some = (subst (IsSound (schema_of planned.schema) (plan_of planned.resolved.plan)) e is.sound) in
    let f = has_first reasons.items first some at in
    subst (IsFirstOpen schema query) (sym f.is) (analyses (OpensWith f.reason) schema query planned analysis (Open reasons marks) read is e f.begins)
