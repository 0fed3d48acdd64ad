-- Closures worked out by the definitions.
use Rattle.std.specs.Prelude.{◌≡◌, ℕ, List, [], ◌∷◌, Some, None}
use Rattle.wd_step_facts.specs.declared.facts.Member.{Member}
use Rattle.wd_step_facts.specs.declared.facts.Member.TheVariants.{Column, Left, Right, Row}
use Rattle.wd_step_facts.specs.Facts.{FactList, key_fact}
use Rattle.wd_sets.specs.Sets.{stands_in}
use Rattle.wd_close.specs.Closure.{IsClosure, steps_of}

-- of rows of four columns: 0 determines 1; 1 determines 2; 2 and 3 determine the row
abbrev pub three_facts : FactList
three_facts = record {
  columns = 4;
  split = None;
  list = key_fact (Column 1) (0 ∷ []) ∷ key_fact (Column 2) (1 ∷ []) ∷ key_fact Row (2 ∷ 3 ∷ []) ∷ [];
}

-- of a Join's rows, 0 and 1 being the left side's columns and 2 the right side's: 0 determines the left side; 2 determines the right side
abbrev pub joined : FactList
joined = record {
  columns = 3;
  split = Some 2;
  list = key_fact Left (0 ∷ []) ∷ key_fact Right (2 ∷ []) ∷ [];
}

-- these columns determine just these members, in this number of steps
abbrev pub ComesOut : FactList → List ℕ → List Member → ℕ → Type 0
ComesOut facts columns members steps = IsClosure facts columns (stands_in members) × (steps_of facts (stands_in members) ≡ steps)

pub record ClosuresComeOut : Type 0 where
  pub no_row : ComesOut three_facts (0 ∷ []) (Column 0 ∷ Column 1 ∷ Column 2 ∷ []) 6
  pub row : ComesOut three_facts (0 ∷ 3 ∷ []) (Row ∷ Column 0 ∷ Column 1 ∷ Column 2 ∷ Column 3 ∷ []) 9
  pub one_side : ComesOut joined (0 ∷ []) (Left ∷ Column 0 ∷ Column 1 ∷ []) 4
  pub both_sides : ComesOut joined (0 ∷ 2 ∷ []) (Row ∷ Left ∷ Right ∷ Column 0 ∷ Column 1 ∷ Column 2 ∷ []) 8
