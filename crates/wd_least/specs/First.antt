-- The first of some lists of sort keys with which nothing is open in a query.
use Rattle.std.specs.Prelude.{◌≡◌, ◌⊎◌, ℕ, List, [], ◌∷◌, Option, Some, None, IsSome, String, ⊤, string_bytes}
use Rattle.std.specs.declared.alloc.Global.{Global}
use Rattle.wd_schema.specs.Schemas.{schema_of}
use Rattle.wd_plan.specs.Plans.{plan_of}
use Rattle.wd_analyse.specs.Analysis.{IsAnswer}
use Rattle.wd_analyse.specs.declared.analysis.Analysis.{Analysis}
use Rattle.wd_analyse.specs.declared.analysis.Analysis.TheVariants.{Certified, Open}
use Rattle.wd_analyse.specs.declared.analysis.Reason.{Reason}
use Rattle.wd_query.specs.Causes.{HasTextCause, text_number}
use Rattle.wd_query.specs.Readings.{IsRead}
use Rattle.wd_query.specs.declared.error.TextError.{TextError}
use Rattle.wd_query.specs.declared.read.PlannedQuery.{PlannedQuery}
use Rattle.wd_sites.specs.declared.site.KeyPlace.{KeyPlace}
use Rattle.wd_sites.specs.declared.site.PlanSite.{PlanSite}
use Rattle.wd_keys.specs.Changes.{ArePut, ComeInOrder, IsKeyChange}
use Rattle.wd_keys.specs.declared.change.Change.{Change}
use Rattle.wd_least.specs.Sites.{places_at}
use Rattle.wd_least.specs.declared.least.Mended.{Mended}

-- a change at each of the places, which puts the keys in
abbrev pub AreKeyChanges : List ℕ → List KeyPlace → List Change → Type 0
AreKeyChanges keys [] [] = ⊤
AreKeyChanges keys [] (change ∷ changes) = ⊥
AreKeyChanges keys (place ∷ places) [] = ⊥
AreKeyChanges keys (place ∷ places) (change ∷ changes) = IsKeyChange place keys change × AreKeyChanges keys places changes

-- an analysis leaves nothing open
abbrev pub IsCertified : Analysis → Type 0
IsCertified (Certified certificate) = ⊤
IsCertified (Open reasons marks) = ⊥

-- an analysis leaves something open
abbrev pub IsOpen : Analysis → Type 0
IsOpen (Certified certificate) = ⊥
IsOpen (Open reasons marks) = ⊤

-- the two texts have a plan, and P holds of the analysis of the plan
pub record Analyses (P : Analysis → Type 0) (schema query : List ℕ) : Type 0 where
  pub planned : PlannedQuery
  pub read : IsRead schema query planned
  pub analysis : Analysis
  pub is : IsAnswer (schema_of planned.schema) (plan_of planned.resolved.plan) analysis
  pub holds : P analysis

-- a text is refused, for a cause that it has
pub record IsRefused (schema query : List ℕ) : Type 0 where
  pub error : TextError
  pub cause : HasTextCause schema query error
  pub number : IsSome (text_number error)

-- a text is refused, or something is open in it
abbrev pub IsLeftOpen : List ℕ → List ℕ → Type 0
IsLeftOpen schema query = IsRefused schema query ⊎ Analyses IsOpen schema query

-- the query's text with changes put in, in which nothing is open
pub record IsMended (schema query : List ℕ) (mended : Mended) : Type 0 where
  pub put : ArePut query mended.changes.items mended.text.items
  pub closed : Analyses IsCertified schema mended.text.items

-- the changes put the keys in, and nothing is open in the changed text
pub record Serves (schema query : List ℕ) (places : List KeyPlace) (keys : List ℕ) (mended : Mended) : Type 0 where
  pub are : AreKeyChanges keys places mended.changes.items
  pub mends : IsMended schema query mended

-- the keys can't be put in, or leave something open, or make a text that is refused
pub record Fails (schema query : List ℕ) (places : List KeyPlace) (keys : List ℕ) : Type 0 where
  pub changes : List Change
  pub are : AreKeyChanges keys places changes
  pub fails : (ComeInOrder query 0 changes → ⊥) ⊎ ((after : List ℕ) × ArePut query changes after × IsLeftOpen schema after)

-- what is answered for the text with some keys
abbrev pub AnswersKeys : List ℕ → Mended → Option Mended → Type 0
AnswersKeys schema mended None = IsLeftOpen schema mended.text.items
AnswersKeys schema mended (Some found) = (found ≡ mended) × Analyses IsCertified schema mended.text.items

-- what is answered for a list of keys
abbrev pub IsTried : List ℕ → List ℕ → List KeyPlace → List ℕ → Option Mended → Type 0
IsTried schema query places keys None = Fails schema query places keys
IsTried schema query places keys (Some mended) = Serves schema query places keys mended

-- the first of the lists that succeeds, where each list before it fails; none where all fail
abbrev pub IsFirst : List ℕ → List ℕ → List KeyPlace → List (String Global) → Option Mended → Type 0
IsFirst schema query places [] None = ⊤
IsFirst schema query places [] (Some mended) = ⊥
IsFirst schema query places (keys ∷ lists) None = Fails schema query places (string_bytes keys) × IsFirst schema query places lists None
IsFirst schema query places (keys ∷ lists) (Some mended) =
    Serves schema query places (string_bytes keys) mended ⊎ (Fails schema query places (string_bytes keys) × IsFirst schema query places lists (Some mended))

-- reasons begin with this one
abbrev pub BeginWith : Reason → List Reason → Type 0
BeginWith reason [] = ⊥
BeginWith reason (first ∷ reasons) = first ≡ reason

-- an analysis has this reason first
abbrev pub OpensWith : Reason → Analysis → Type 0
OpensWith reason (Certified certificate) = ⊥
OpensWith reason (Open reasons marks) = BeginWith reason reasons.items

-- what is open first in a query: nothing where the text is refused or nothing is open
abbrev pub IsFirstOpen : List ℕ → List ℕ → Option Reason → Type 0
IsFirstOpen schema query None = IsRefused schema query ⊎ Analyses IsCertified schema query
IsFirstOpen schema query (Some reason) = Analyses (OpensWith reason) schema query

-- the first of the lists that succeeds, put at the places of what is open first
abbrev pub IsMendedFor : List ℕ → List ℕ → List PlanSite → List (String Global) → Option Reason → Option Mended → Type 0
IsMendedFor schema query sites lists None found = found ≡ None
IsMendedFor schema query sites lists (Some reason) found = IsFirst schema query (places_at reason [] sites) lists found

pub record IsMendedFirst (schema query : List ℕ) (sites : List PlanSite) (lists : List (String Global)) (found : Option Mended) : Type 0 where
  pub first : Option Reason
  pub opens : IsFirstOpen schema query first
  pub mended : IsMendedFor schema query sites lists first found
