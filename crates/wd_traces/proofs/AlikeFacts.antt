-- Facts that are reached and reach alike.
use Rattle.std.proofs.Common.{List, [], ◌∷◌, refl}
use Rattle.std.specs.Bool.{⊤}
use Rattle.wd_step_facts.specs.Facts.{Fact, FactList}
use Rattle.wd_traces.proofs.Once.{IsAlike}

-- the sides of one pass the tests that those of the other do
pub record IsAlikeFact (f g : Fact) : Type 0 where
  pub from : IsAlike f.from g.from
  pub to : IsAlike f.to g.to

abbrev pub AreAlike : List Fact → List Fact → Type 0
AreAlike [] [] = ⊤
AreAlike [] (g ∷ gs) = ⊥
AreAlike (f ∷ fs) [] = ⊥
AreAlike (f ∷ fs) (g ∷ gs) = IsAlikeFact f g × AreAlike fs gs

pub alike_self : (fs : List Fact) → AreAlike fs fs
alike_self [] = tt
alike_self (f ∷ fs) = (record { from = λ t. refl; to = λ t. refl }, alike_self fs)

-- other facts at the same node
abbrev pub with_list : FactList → List Fact → FactList
with_list facts list = record { columns = facts.columns; split = facts.split; list = list }
