-- A search through candidates, each by its evaluations, and how it ends.
use Rattle.std.specs.Prelude.{◌≡◌, ◌⊎◌, ℕ, ◌+◌, ◌/◌, ◌<◌, All, List, [], ◌∷◌, ◌++◌, take}
use Rattle.wd_value.specs.Rows.{Instance}
use Rattle.wd_plan.specs.Plans.{PlanTree}
use Rattle.wd_partition.specs.declared.turn.Turn.{Turn}
use Rattle.wd_seek.specs.Evaluations.{AllPass, ShowNothing, ShowsNothing, ShowsTwo, evaluations, most_evaluations}

-- the given number of evaluations of the next candidate, but not all, show nothing
abbrev pub Begun : Turn → PlanTree → List Instance → ℕ → Type 0
Begun turn plan [] n = n ≡ 0
Begun turn plan (instance ∷ instances) n = AllPass turn plan instance n × (n < evaluations plan)

-- a search finds nothing: it goes through all candidates, or ends within one at the most evaluations
pub record FindsNothing (turn : Turn) (plan : PlanTree) (instances : List Instance) (start end : ℕ) : Type 0 where
  pub before : List Instance
  pub rest : List Instance
  pub spent : ℕ
  pub part : ℕ
  pub parts : instances ≡ before ++ rest
  pub nothing : ShowNothing turn plan before spent
  pub begun : Begun turn plan rest part
  pub total : end ≡ start + (spent + part)
  pub whole : (rest ≡ []) ⊎ (end ≡ most_evaluations)

-- a search finds two choices over a candidate, where it ends; the candidates before show nothing
pub record FindsTwo (turn : Turn) (plan : PlanTree) (instances : List Instance) (start end : ℕ) (instance : Instance) (first second : List (List ℕ)) : Type 0 where
  pub before : List Instance
  pub after : List Instance
  pub spent : ℕ
  pub flipped : ℕ
  pub parts : instances ≡ before ++ instance ∷ after
  pub nothing : ShowNothing turn plan before spent
  pub two : ShowsTwo turn plan instance flipped first second
  pub total : end ≡ start + (spent + (flipped + 2))

-- the first candidates show nothing, as many of them as the most evaluations allow
abbrev pub FirstShowNothing : Turn → PlanTree → List Instance → Type 0
FirstShowNothing turn plan instances = All (λ instance. (n : ℕ) × ShowsNothing turn plan instance n) (take (most_evaluations / evaluations plan) instances)
