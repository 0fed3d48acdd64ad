-- What holds in the rows of each node of a plan that fits, over an instance that meets the schema.
use Rattle.std.specs.Prelude.{◌≡◌, ℕ, ◌↔◌, true, List, [], ◌∷◌, drop, ⊤}
use Rattle.std.specs.List.{AllByRecursion}
use Rattle.wd_value.specs.Rows.{Row, Instance}
use Rattle.wd_schema.specs.Meets.{Meets}
use Rattle.wd_schema.specs.Tables.{TableRule}
use Rattle.wd_plan.specs.Choices.{AreLawful, AtRows}
use Rattle.wd_plan.specs.Facts.{Determines, DeterminesRow, HasWidth, IsNotNullIn, IsNullableKey}
use Rattle.wd_plan.specs.Fits.{AreBelow, fits, width}
use Rattle.wd_plan.specs.Outcomes.{outcome}
use Rattle.wd_plan.specs.Plans.{Step, Map, PlanTree, Scan, Join, Over, ordering_count}
use Rattle.wd_step_facts.specs.declared.facts.Member.TheVariants as member
use Rattle.wd_step_facts.specs.Facts.{Fact, Holds, Paired, PairsRows, beside, columns_named, is_plain_fact, key_fact, unpaired}
use Rattle.wd_facts.specs.Given.{given, is_not_null, nullable_keys}

-- facts of rows with the given number of columns
abbrev pub ArePlain : ℕ → List Fact → Type 0
ArePlain columns facts = AllByRecursion (λ fact. is_plain_fact columns fact ≡ true) facts

-- facts of rows with the given number of columns that hold in these
pub record AreKept (columns : ℕ) (facts : List Fact) (rows : List Row) : Type 0 where
  pub named : ArePlain columns facts
  pub hold : AllByRecursion (Holds (unpaired rows)) facts

-- what plan and schema say of a node's rows: their width, columns that are not null, nullable keys, which name its columns
pub record Known (tables : List TableRule) (plan : PlanTree) (rows : List Row) : Type 0 where
  pub wide : HasWidth (width plan) rows
  pub not_null : (c : ℕ) → is_not_null tables plan c ≡ true → IsNotNullIn rows c
  pub keys : AllByRecursion (IsNullableKey rows) (nullable_keys tables plan)
  pub range : AllByRecursion (AreBelow (width plan)) (nullable_keys tables plan)

-- where a plan that fits has rows, what it and the schema say of them is true
abbrev pub KnownHolds : Type 0
KnownHolds = (tables : List TableRule) (plan : PlanTree) (instance : Instance) (choice : List (List ℕ))
    → fits tables plan ≡ true → Meets tables instance → AreLawful plan instance choice → AtRows (outcome plan instance choice) (Known tables plan) ⊤

-- the facts that the children of a plan's top node keep hold in the children's rows, where these have rows
abbrev pub ChildrenKeep : PlanTree → Instance → List (List ℕ) → List Fact → List Fact → Type 0
ChildrenKeep (Scan table columns) instance choice kept more = ⊤
ChildrenKeep (Join condition left right) instance choice kept more =
    AtRows (outcome left instance choice) (AreKept (width left) kept) ⊤ × AtRows (outcome right instance (drop (ordering_count left) choice)) (AreKept (width right) more) ⊤
ChildrenKeep (Over step input) instance choice kept more = AtRows (outcome input instance choice) (AreKept (width input) kept) ⊤

-- the given facts of a plan's top node hold in these rows of the node
abbrev pub InRows : List TableRule → PlanTree → List Fact → List Fact → List Row → Type 0
InRows tables plan kept more rows = AllByRecursion (Holds (unpaired rows)) (given tables plan kept more).list

-- the given facts of a Join hold in its rows, with the positions on each side
abbrev pub InPairs : List TableRule → PlanTree → List Fact → List Fact → List Row → List Row → List Row → Type 0
InPairs tables plan kept more ls rs rows = (n : Paired) × (n.rows ≡ rows) × PairsRows ls rs n × AllByRecursion (Holds n) (given tables plan kept more).list

-- the rows that a step's given facts are about: a Map's beside those of its input
abbrev pub rows_described : Step → List Row → List Row → List Row
rows_described (Map outputs) outs ins = beside outs ins
rows_described step outs ins = outs

-- where there are rows, the given facts of a plan's top node hold: at a Join with the positions on each side
abbrev pub GivenHold : List TableRule → PlanTree → Instance → List (List ℕ) → List Fact → List Fact → Type 0
GivenHold tables (Scan table columns) instance choice kept more = let plan = Scan table columns in AtRows (outcome plan instance choice) (InRows tables plan kept more) ⊤
GivenHold tables (Join condition left right) instance choice kept more =
    let plan = Join condition left right in
    AtRows (outcome left instance choice) (λ ls. AtRows (outcome right instance (drop (ordering_count left) choice)) (λ rs. AtRows (outcome plan instance choice) (InPairs tables plan kept more ls rs) ⊤) ⊤) ⊤
GivenHold tables (Over step input) instance choice kept more =
    let plan = Over step input in
    AtRows (outcome input instance choice) (λ ins. AtRows (outcome plan instance choice) (λ outs. InRows tables plan kept more (rows_described step outs ins)) ⊤) ⊤

-- the given facts of a node hold where its children's kept facts do
abbrev pub GivenFactsHold : Type 0
GivenFactsHold = (tables : List TableRule) (plan : PlanTree) (instance : Instance) (choice : List (List ℕ)) (kept more : List Fact)
    → fits tables plan ≡ true → Meets tables instance → AreLawful plan instance choice → ChildrenKeep plan instance choice kept more → GivenHold tables plan instance choice kept more

-- the facts that the children of a plan's top node keep are facts of the children's rows: they name only the children's columns and the
-- row; a node with one child has the first list
abbrev pub AreOfChildren : PlanTree → List Fact → List Fact → Type 0
AreOfChildren (Scan table columns) kept more = ⊤
AreOfChildren (Join condition left right) kept more = ArePlain (width left) kept × ArePlain (width right) more
AreOfChildren (Over step input) kept more = ArePlain (width input) kept

-- the dependencies that plans name are facts of rows that pair nothing: columns determine a column, columns determine the row
abbrev pub DependenciesAreFacts : Type 0
DependenciesAreFacts = (rows : List Row) (X : List ℕ)
    → ((c : ℕ) → Determines rows X c ↔ Holds (unpaired rows) (record { from = columns_named X; to = member.Column c ∷ [] }))
    × (DeterminesRow rows X ↔ Holds (unpaired rows) (key_fact member.Row X))
