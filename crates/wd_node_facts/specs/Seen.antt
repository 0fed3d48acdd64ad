-- The facts that a node keeps, as the code holds them, and the given facts of the node above.
use Rattle.std.specs.Prelude.{◌≡◌, ℕ, ◌+◌, ◌-◌, Bool, true, false, List, [], ◌++◌, map, length, slice_get, Option, Some, None, ⊤, if◌then◌else◌}
use Rattle.std.specs.declared.alloc.Global.{Global}
use Rattle.std.specs.List.{list_all}
use Rattle.std.specs.declared.vec.Vec.{Vec}
use Rattle.wd_plan.specs.Fits.{width}
use Rattle.wd_plan.specs.Plans.{PlanTree, Scan, Join, Over, Map, Group}
use Rattle.wd_step_facts.specs.declared.facts.Member.{Member}
use Rattle.wd_step_facts.specs.declared.facts.Member.TheVariants as member
use Rattle.wd_step_facts.specs.Facts.{Fact, FactList, columns_named, fact_of, is_plain_fact, moved_facts}
use Rattle.wd_step_facts.specs.Steps.{facts_of_group}
use Rattle.wd_node_facts.specs.declared.facts.Keeps.{Keeps}
use Rattle.wd_node_facts.specs.declared.facts.KeptFact.{KeptFact}
use Rattle.wd_node_facts.specs.declared.facts.NodeFacts.{NodeFacts}
use Rattle.wd_node_facts.specs.declared.facts.Side.{Side}

-- the columns of each trace
abbrev pub each_columns : List (Vec ℕ Global) → List (List ℕ)
each_columns traces = map (λ (columns : Vec ℕ Global). columns.items) traces

-- the columns of a trace, if it is there
abbrev pub columns_or_none : Option (List ℕ) → List ℕ
columns_or_none None = []
columns_or_none (Some columns) = columns

-- a kept fact, by the columns of the trace that it names
abbrev pub fact_by : List (List ℕ) → KeptFact → Fact
fact_by traces kept = record { from = columns_named (columns_or_none (slice_get traces kept.trace)); to = kept.to.items }

-- the facts that a node keeps
abbrev pub facts_kept : Keeps → List Fact
facts_kept keeps = map (fact_by (each_columns keeps.traces.items)) keeps.list.items

-- the facts that a side keeps, as the node above numbers them
abbrev pub side_facts : Side → List Fact
side_facts side = moved_facts (λ c. side.by + c) side.row (facts_kept side.keeps)

-- the columns of a side's facts can be renumbered
abbrev pub IsNarrow : Side → Type 0
IsNarrow side = list_all (is_plain_fact (65536 - side.by)) (facts_kept side.keeps) ≡ true

-- the given facts of a node
abbrev pub seen_of : NodeFacts → FactList
seen_of facts = record {
  columns = facts.columns;
  split = facts.split;
  list = map fact_of facts.first.items ++ (side_facts facts.left ++ (side_facts facts.right ++ map fact_of facts.last.items));
}

pub record AreNarrow (facts : NodeFacts) : Type 0 where
  pub left : IsNarrow facts.left
  pub right : IsNarrow facts.right

-- ---- a plan's children

-- nothing is kept where there is no child
abbrev pub HasNoOther : PlanTree → List Fact → List Fact → Type 0
HasNoOther (Scan table columns) kept more = (kept ≡ []) × (more ≡ [])
HasNoOther (Join condition left right) kept more = ⊤
HasNoOther (Over step input) kept more = more ≡ []

-- the number of the child's column 0 among the columns of the facts; at a Join of the left child's
abbrev pub first_below : PlanTree → ℕ
first_below (Over (Map outputs) input) = length outputs
first_below plan = 0

-- the member that the child's row becomes
abbrev pub row_below : PlanTree → Member
row_below (Join condition left right) = member.Left
row_below plan = member.Row

-- the number of the column 0 of a Join's right child
abbrev pub first_beside : PlanTree → ℕ
first_beside (Join condition left right) = width left
first_beside plan = 0

-- the facts that are given by what the child keeps; of a Group what its one set keeps of them
abbrev pub kept_through : PlanTree → List Fact → List Fact
kept_through (Over (Group g) input) kept = facts_of_group g kept
kept_through plan kept = kept

abbrev pub is_group : PlanTree → Bool
is_group (Over (Group g) input) = true
is_group plan = false

-- a node's own facts and those of its sides; those of a Group come first
abbrev pub with_own : Bool → FactList → List Fact → List Fact → FactList
with_own first own left right = record {
  columns = own.columns;
  split = own.split;
  list = (if first then own.list else []) ++ (left ++ (right ++ (if first then [] else own.list)));
}
