-- The partitions of a Window's classes.
use Rattle.std.specs.Prelude.{◌≡◌, ℕ, ◌+◌, ◌<◌, ◌≤◌, Bool, ◌&&◌, true, nat_eq, List, [], length, slice_index_or, Result, Ok}
use Rattle.std.specs.List.{list_any}
use Rattle.std.specs.declared.alloc.Global.{Global}
use Rattle.std.specs.declared.vec.Vec.{Vec}
use Rattle.wd_value.specs.Rows.{Row}
use Rattle.wd_plan.specs.declared.window.Call.{Call}
use Rattle.wd_plan.specs.declared.window.Frame.{Frame}
use Rattle.wd_plan.specs.Outcomes.{class_at, ordering_at}
use Rattle.wd_plan.specs.Plans.{ClassRule, WindowRule}
use Rattle.wd_plan.specs.Sorting.{IsOrdering}
use Rattle.wd_frame.specs.Laws.{has_range_offset, is_descending}
use Rattle.wd_partition.specs.Members.{members_of}
use Rattle.wd_nodes.specs.Results.{OkOr}
use Rattle.wd_eval.specs.declared.class_index.ClassIndex.{ClassIndex}
use Rattle.wd_eval.specs.Windows.{AreUnserved, IsLeast, IsUnserved}
use Rattle.wd_eval.specs.declared.error.EvalError.{EvalError}

-- a call of the class with this number has a frame in RANGE with an offset
abbrev pub asks_keys : WindowRule → ℕ → Bool
asks_keys w class = list_any (λ (call : Call). nat_eq call.class class && has_range_offset call.frame) w.calls

-- the partitions of a class under a lawful ordering, row by row, with the keys where they are asked for
pub record IsClassIndex (class : ClassRule) (asked : Bool) (rows : List Row) (ordering : List ℕ) (class_index : ClassIndex) : Type 0 where
  pub lawful : IsOrdering class rows ordering
  pub members : class_index.partitions ≡ members_of class asked rows ordering
  pub direction : class_index.desc ≡ is_descending class.order

-- those of a Window's class, with the keys where its calls ask for them
abbrev pub IsClassIndexIn : WindowRule → ℕ → List Row → List ℕ → ClassIndex → Type 0
IsClassIndexIn w class rows ordering class_index = IsClassIndex (class_at w class) (asks_keys w class) rows ordering class_index

-- the ordering with this number is there, and the partitions are those that it makes
pub record IsIndexed (class : ClassRule) (asked : Bool) (rows : List Row) (choice : List (List ℕ)) (number : ℕ) (class_index : ClassIndex) : Type 0 where
  pub present : number < length choice
  pub is : IsClassIndex class asked rows (ordering_at choice number) class_index

-- the keys are asked for if the frame is in RANGE with an offset
abbrev pub AreAskedBy : Frame → Bool → Type 0
AreAskedBy frame asked = has_range_offset frame ≡ true → asked ≡ true

-- what is so for each class and each ordering of it that makes these partitions, with keys if the frame needs them
abbrev pub WhereClassIndex : Frame → List Row → ClassIndex → (ClassRule → List ℕ → Type 0) → Type 0
WhereClassIndex frame rows class_index Holds = (class : ClassRule) (asked : Bool) (ordering : List ℕ) → AreAskedBy frame asked → IsClassIndex class asked rows ordering class_index → Holds class ordering

-- the partitions of the first n classes of a Window, under the orderings from the number `first` on
pub record AreClassIndexes (w : WindowRule) (rows : List Row) (choice : List (List ℕ)) (first n : ℕ) (indexes : List ClassIndex) : Type 0 where
  pub long : length indexes ≡ n
  pub present : first + n ≤ length choice
  pub each : (k : ℕ) (class_index : ClassIndex) → k < n → IsClassIndexIn w k rows (ordering_at choice (first + k)) (slice_index_or indexes k class_index)

-- those of all classes, or the place of the first of these orderings that is invalid
abbrev pub AreClassIndexesOrUnserved : WindowRule → List Row → List (List ℕ) → ℕ → Result (Vec ClassIndex Global) EvalError → Type 0
AreClassIndexesOrUnserved w rows choice first r = OkOr (λ v. AreClassIndexes w rows choice first (length w.classes) v.items) (AreUnserved w.classes (Ok rows) choice first) r

-- the partitions of a Window's classes
pub record AreIndexed (w : WindowRule) (rows : List Row) (orderings : List (List ℕ)) (indexes : List ClassIndex) : Type 0 where
  pub long : length indexes ≡ length w.classes
  pub each : (k : ℕ) (class_index : ClassIndex) → k < length w.classes → IsClassIndexIn w k rows (ordering_at orderings k) (slice_index_or indexes k class_index)

-- what is so for all orderings of a Window's classes that make these partitions
abbrev pub WhereIndexed : WindowRule → List Row → List ClassIndex → (List (List ℕ) → Type 0) → Type 0
WhereIndexed w rows indexes Holds = (orderings : List (List ℕ)) → AreIndexed w rows orderings indexes → Holds orderings

-- the ordering with this number is there and empty
pub record IsEmptyAt (choice : List (List ℕ)) (number : ℕ) : Type 0 where
  pub present : number < length choice
  pub empty : ordering_at choice number ≡ []

-- so many orderings from the number `first` on are there and empty
pub record AreEmpty (count : ℕ) (choice : List (List ℕ)) (first : ℕ) : Type 0 where
  pub present : first + count ≤ length choice
  pub empty : (k : ℕ) → k < count → ordering_at choice (first + k) ≡ []

-- the place is the number of one of them that is missing or not empty
pub record IsNotEmptyIn (count : ℕ) (choice : List (List ℕ)) (first place : ℕ) : Type 0 where
  pub number : ℕ
  pub within : number < count
  pub at : place ≡ first + number
  pub wrong : IsEmptyAt choice (first + number) → ⊥

-- so many orderings are there and empty, or the place of the first that is not
abbrev pub AreEmptyOrUnserved : {X : Type 0} → ℕ → List (List ℕ) → ℕ → Result X EvalError → Type 0
AreEmptyOrUnserved count choice first r = OkOr (λ empty. AreEmpty count choice first) (IsUnserved (IsLeast (IsNotEmptyIn count choice first))) r
