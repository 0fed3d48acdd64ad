-- The columns that are tried at a node: what they determine may be kept.
use Rattle.std.specs.Prelude.{◌≡◌, ℕ, ◌+◌, ◌-◌, ◌<◌, ◌≤◌, Bool, ◌&&◌, List, [], ◌∷◌, ◌++◌, filter, flat_map, length, map, nat_lt, Option, Some, if◌then◌else◌}
use Rattle.std.specs.List.{AllByRecursion, list_all, list_any}
use Rattle.wd_plan.specs.Expressions.{Expression}
use Rattle.wd_plan.specs.Fits.{width}
use Rattle.wd_plan.specs.Plans.{PlanTree, Join, Over, Map}
use Rattle.wd_step_facts.specs.declared.facts.Member.{Member}
use Rattle.wd_step_facts.specs.declared.facts.Member.TheVariants.{Column, Left, Right, Row}
use Rattle.wd_step_facts.specs.Facts.{Fact, FactList}
use Rattle.wd_step_facts.specs.Steps.{both_copied, copy_from, if_copied}
use Rattle.wd_sets.specs.Sets.{is_in}
use Rattle.wd_analyse.specs.Evidence.{Closing, IsClosing}
use Rattle.wd_analyse.specs.Kept.{kept_members}

-- the columns among members
abbrev pub columns_in : List Member → List ℕ
columns_in [] = []
columns_in (Column c ∷ X) = c ∷ columns_in X
columns_in (Left ∷ X) = columns_in X
columns_in (Right ∷ X) = columns_in X
columns_in (Row ∷ X) = columns_in X

-- a column as one of the first `width` columns: by itself, or at a Map by the lowest output that copies it
abbrev pub output_of : List Expression → ℕ → ℕ → Option ℕ
output_of outputs width c = if nat_lt c width then Some c else copy_from 0 outputs (c - width)

-- columns as columns of the node, if each is one or is copied by one
abbrev pub outputs_of : List Expression → ℕ → List ℕ → Option (List ℕ)
outputs_of outputs width [] = Some []
outputs_of outputs width (c ∷ X) = both_copied (output_of outputs width c) (outputs_of outputs width X)

-- the same columns, in any order
abbrev pub same_columns : List ℕ → List ℕ → Bool
same_columns X Y = list_all (is_in Y) X && list_all (is_in X) Y

abbrev pub is_tried : List (List ℕ) → List ℕ → Bool
is_tried tried X = list_any (same_columns X) tried

-- ---- in order

-- the left sides of facts as columns of the node
abbrev pub left_sides : List Expression → ℕ → List Fact → List (List ℕ)
left_sides outputs width [] = []
left_sides outputs width (fact ∷ facts) = if_copied (outputs_of outputs width (columns_in fact.from)) (left_sides outputs width facts)

-- columns, each time with the left side of one of the facts, whose columns are renumbered
abbrev pub unions_with : List ℕ → ℕ → List Fact → List (List ℕ)
unions_with X by facts = map (λ (fact : Fact). X ++ map (λ c. by + c) (columns_in fact.from)) facts

-- each left side of the left child's facts with each of the right child's
abbrev pub unions : List Fact → ℕ → List Fact → List (List ℕ)
unions kept by more = flat_map (λ (fact : Fact). unions_with (columns_in fact.from) by more) kept

abbrev pub unions_at : PlanTree → List Fact → List Fact → List (List ℕ)
unions_at (Join condition left right) kept more = unions kept (width left) more
unions_at plan kept more = []

-- the outputs of a Map; none at another node
abbrev pub outputs_in : PlanTree → List Expression
outputs_in (Over (Map outputs) input) = outputs
outputs_in plan = []

-- what is tried at a plan's top node with these given facts, whose children keep these: the left sides, nothing, and at a Join
-- the unions
abbrev pub sources : PlanTree → List Fact → List Fact → List Fact → List (List ℕ)
sources plan facts kept more = left_sides (outputs_in plan) (width plan) facts ++ ([] ∷ unions_at plan kept more)

-- the lists that were not tried before, each once
abbrev pub distinct : List (List ℕ) → List (List ℕ) → List (List ℕ)
distinct tried [] = []
distinct tried (X ∷ Xs) = if is_tried tried X then distinct tried Xs else (X ∷ distinct (tried ++ X ∷ []) Xs)

-- ---- claims

abbrev pub AreClosings : FactList → List Closing → Type 0
AreClosings facts cs = AllByRecursion (IsClosing facts) cs

abbrev pub starts : List Closing → List (List ℕ)
starts cs = map (λ (c : Closing). c.from) cs

-- columns determine something that a node with `width` columns keeps
abbrev pub gives_some : ℕ → Closing → Bool
gives_some width c = nat_lt 0 (length (kept_members width c))

-- what a node with `width` columns keeps: its sources, each once and in order, are tried up to some point, and those that determine
-- something are kept, at most 64; where fewer are kept all sources are tried
pub record Keeps (facts : FactList) (width : ℕ) (sources : List (List ℕ)) (claims : List Closing) : Type 0 where
  pub tried : List Closing
  pub untried : List (List ℕ)
  pub closings : AreClosings facts tried
  pub order : starts tried ++ untried ≡ distinct [] sources
  pub kept : claims ≡ filter (gives_some width) tried
  pub few : length claims ≤ 64
  pub all : length claims < 64 → untried ≡ []
