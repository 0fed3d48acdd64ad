-- One walk over the nodes of a plan, under the orderings of a choice or under sorted ones.
use Rattle.std.specs.Prelude.{◌≡◌, ℕ, ◌+◌, ◌≤◌, Bool, true, false, List, [], length, Option, None, Result, Ok, ⊤}
use Rattle.std.specs.declared.alloc.Global.{Global}
use Rattle.std.specs.declared.vec.Vec.{Vec}
use Rattle.wd_value.specs.Rows.{Instance, Row}
use Rattle.wd_plan.specs.Outcomes.{RowsOrFault}
use Rattle.wd_plan.specs.Plans.{Step, Filter, Map, Group, Window, Distinct, Limit, PlanTree, Scan, Join, Over, WindowRule, step_classes}
use Rattle.wd_join.specs.Joins.{has_more_rows}
use Rattle.wd_nodes.specs.Results.{OkOr}
use Rattle.wd_nodes.specs.Relation.{RelationOrFault, most_rows}
use Rattle.wd_eval.specs.ClassIndexes.{AreClassIndexes, AreEmpty, IsNotEmptyIn}
use Rattle.wd_eval.specs.Nodes.{IsEvaluated, IsStopped}
use Rattle.wd_eval.specs.Ties.{AreAllPut, IsOutOfMemory, IsPutEmpty, IsStableStep, IsUnderStable, IsUntied}
use Rattle.wd_eval.specs.Windows.{AreUnserved, IsLeast, IsStepped, IsUnserved, orderings_of, step_over}
use Rattle.wd_eval.specs.declared.class_index.ClassIndex.{ClassIndex}
use Rattle.wd_eval.specs.declared.error.EvalError.{EvalError}
use Rattle.wd_eval.specs.declared.error.EvalError.TheVariants.{NotValid, TooManyRows, OutOfMemory}
use Rattle.wd_eval.specs.declared.orderings.Orderings.{Orderings}
use Rattle.wd_eval.specs.declared.orderings.Orderings.TheVariants.{Chosen, Sorted, Stable}
use Rattle.wd_eval.specs.declared.turned.Turned.{Turned}

-- ---- where a walk stands

-- the most rows that a step may have
abbrev pub most_of : Orderings → ℕ
most_of (Chosen choice next most) = most
most_of (Sorted turned made) = most_rows
most_of Stable = most_rows

-- the walk takes this choice's orderings from this number on, and a step may have so many rows
abbrev pub IsAt : Orderings → ℕ → List (List ℕ) → ℕ → Type 0
IsAt (Chosen own next m) most choice number = (orderings_of own.now ≡ choice) × (next ≡ number) × (m ≡ most)
IsAt (Sorted turned made) most choice number = ⊥
IsAt Stable most choice number = ⊥

-- the walk makes sorted orderings, and has made these so far; where none is kept, whichever they are
abbrev pub HasMade : Orderings → Bool → Option Turned → List (List ℕ) → Type 0
HasMade (Chosen choice next most) kept turned made = ⊥
HasMade (Sorted t own) kept turned made = (kept ≡ true) × (t ≡ turned) × (orderings_of own.items ≡ made)
HasMade Stable kept turned made = (kept ≡ false) × (turned ≡ None)

-- the next ordering of a choice is within it, or none is left
abbrev pub IsWithin : Orderings → Type 0
IsWithin (Chosen choice next most) = (next ≤ length choice.now) × (most ≤ most_rows)
IsWithin (Sorted turned made) = ⊤
IsWithin Stable = ⊤

-- ---- a plan

-- what a plan gives, as these tables show it: under the next orderings of a choice, each of them lawful, and under its sorted
-- orderings, which are appended to those made before
pub record IsWalked (plan : PlanTree) (tables instance : Instance) (old new : Orderings) (o : RelationOrFault) : Type 0 where
  pub chosen : (most : ℕ) (choice : List (List ℕ)) (first : ℕ) → IsAt old most choice first → (next : ℕ) × IsAt new most choice next × IsEvaluated most plan tables instance choice first (record { outcome = o; next = next })
  pub sorted : (kept : Bool) (turned : Option Turned) (made : List (List ℕ)) → HasMade old kept turned made → (more : List (List ℕ)) × HasMade new kept turned more × IsUnderStable plan tables instance turned made more o

-- why it gives nothing
pub record IsHalted (plan : PlanTree) (instance : Instance) (old : Orderings) (e : EvalError) : Type 0 where
  pub chosen : (most : ℕ) (choice : List (List ℕ)) (first : ℕ) → IsAt old most choice first → IsStopped most plan instance choice first e
  pub sorted : (kept : Bool) (turned : Option Turned) (made : List (List ℕ)) → HasMade old kept turned made → IsUntied plan instance turned (length made) e

abbrev pub IsWalkedOrHalted : PlanTree → Instance → Instance → Orderings → Orderings → Result RelationOrFault EvalError → Type 0
IsWalkedOrHalted plan tables instance old new r = OkOr (IsWalked plan tables instance old new) (IsHalted plan instance old) r

-- ---- a step

-- how many orderings the plan's last step has; a Scan and a Join have none
abbrev pub last_count : PlanTree → ℕ
last_count (Scan table columns) = 0
last_count (Join condition left right) = 0
last_count (Over step input) = length (step_classes step)

-- what is found is what a step gives over its input under the next orderings, one for each of its classes
pub record Gives (step : Step) (input : RowsOrFault) (old new : Orderings) (found : RowsOrFault) : Type 0 where
  pub chosen : (most : ℕ) (choice : List (List ℕ)) (first : ℕ) → IsAt old most choice first → IsAt new most choice (first + length (step_classes step)) × IsStepped step input choice first found
  pub sorted : (kept : Bool) (turned : Option Turned) (made : List (List ℕ)) → HasMade old kept turned made → (more : List (List ℕ)) × HasMade new kept turned more × IsStableStep step input turned made more found

-- the next orderings do not serve a step, or memory ran out
pub record Stops (step : Step) (input : RowsOrFault) (old : Orderings) (e : EvalError) : Type 0 where
  pub chosen : (most : ℕ) (choice : List (List ℕ)) (first : ℕ) → IsAt old most choice first → AreUnserved (step_classes step) input choice first e
  pub sorted : (kept : Bool) (turned : Option Turned) (made : List (List ℕ)) → HasMade old kept turned made → IsOutOfMemory e

abbrev pub GivesOrStops : {X : Type 0} → (X → RowsOrFault) → Step → RowsOrFault → Orderings → Orderings → Result X EvalError → Type 0
GivesOrStops view step input old new r = OkOr (λ x. Gives step input old new (view x)) (Stops step input old) r

-- a Group may have more rows than its input, so this is asked of it; nothing is asked of another step
abbrev pub IsFew : ℕ → Step → RowsOrFault → Type 0
IsFew most (Filter condition) input = ⊤
IsFew most (Map outputs) input = ⊤
IsFew most (Group rule) input = has_more_rows most (step_over (Group rule) [] input) ≡ false
IsFew most (Window w) input = ⊤
IsFew most Distinct input = ⊤
IsFew most (Limit limit) input = ⊤

-- a Group of too many rows
abbrev pub IsLargeGroup : ℕ → Step → RowsOrFault → Type 0
IsLargeGroup most (Filter condition) input = ⊥
IsLargeGroup most (Map outputs) input = ⊥
IsLargeGroup most (Group rule) input = has_more_rows most (step_over (Group rule) [] input) ≡ true
IsLargeGroup most (Window w) input = ⊥
IsLargeGroup most Distinct input = ⊥
IsLargeGroup most (Limit limit) input = ⊥

-- why a step gives nothing
abbrev pub Halts : Step → RowsOrFault → Orderings → EvalError → Type 0
Halts step input old (NotValid place) = Stops step input old (NotValid place)
Halts step input old TooManyRows = IsLargeGroup (most_of old) step input
Halts step input old OutOfMemory = ⊤

-- what a step gives, of no more rows than allowed, or why nothing
abbrev pub GivesOrHalts : {X : Type 0} → (X → RowsOrFault) → Step → RowsOrFault → Orderings → Orderings → Result X EvalError → Type 0
GivesOrHalts view step input old new r = OkOr (λ x. IsFew (most_of old) step input × Gives step input old new (view x)) (Halts step input old) r

-- ---- the next orderings of a Window

-- the partitions of its classes under them
pub record AreNextIndexes (w : WindowRule) (rows : List Row) (old new : Orderings) (indexes : List ClassIndex) : Type 0 where
  pub chosen : (most : ℕ) (choice : List (List ℕ)) (first : ℕ) → IsAt old most choice first → IsAt new most choice (first + length w.classes) × AreClassIndexes w rows choice first (length w.classes) indexes
  pub sorted : (kept : Bool) (turned : Option Turned) (made : List (List ℕ)) → HasMade old kept turned made
      → (more : List (List ℕ)) × HasMade new kept turned more × AreAllPut w.classes (Ok rows) turned made more × AreClassIndexes w rows more (length made) (length w.classes) indexes

-- those, or why they do not serve its classes
abbrev pub AreNextIndexesOrUnserved : WindowRule → List Row → Orderings → Orderings → Result (Vec ClassIndex Global) EvalError → Type 0
AreNextIndexesOrUnserved w rows old new r = OkOr (λ v. AreNextIndexes w rows old new v.items) (Stops (Window w) (Ok rows) old) r

-- so many are there and empty
pub record AreNextEmpty (count : ℕ) (old new : Orderings) : Type 0 where
  pub chosen : (most : ℕ) (choice : List (List ℕ)) (first : ℕ) → IsAt old most choice first → IsAt new most choice (first + count) × AreEmpty count choice first
  pub sorted : (kept : Bool) (turned : Option Turned) (made : List (List ℕ)) → HasMade old kept turned made → (more : List (List ℕ)) × HasMade new kept turned more × IsPutEmpty count made more

-- one of them is missing or not empty, or memory ran out
pub record AreNotEmpty (count : ℕ) (old : Orderings) (e : EvalError) : Type 0 where
  pub chosen : (most : ℕ) (choice : List (List ℕ)) (first : ℕ) → IsAt old most choice first → IsUnserved (IsLeast (IsNotEmptyIn count choice first)) e
  pub sorted : (kept : Bool) (turned : Option Turned) (made : List (List ℕ)) → HasMade old kept turned made → IsOutOfMemory e

abbrev pub AreNextEmptyOrUnserved : {X : Type 0} → ℕ → Orderings → Orderings → Result X EvalError → Type 0
AreNextEmptyOrUnserved count old new r = OkOr (λ empty. AreNextEmpty count old new) (AreNotEmpty count old) r
