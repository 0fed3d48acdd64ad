-- Sets of the members on the long sides of facts.
use Rattle.std.specs.Prelude.{◌≡◌, ◌⊎◌, ◌+◌, ◌<◌, ◌≤◌, ℕ, Bool, true, List, [], map, slice_get, Option, Some, None}
use Rattle.std.specs.Global.{Box}
use Rattle.wd_step_facts.specs.declared.facts.Given.{Given}
use Rattle.wd_step_facts.specs.declared.facts.Member.{Member}
use Rattle.wd_step_facts.specs.declared.facts.Member.TheVariants as member
use Rattle.wd_step_facts.specs.Facts.{columns_named, moved}
use Rattle.wd_sets.specs.Sets.{has, stands_in}
use Rattle.wd_sets.specs.Reaches.{by_side}
use Rattle.wd_sets.specs.declared.set.Set.{Set}
use Rattle.wd_node_facts.specs.Seen.{AreNarrow, columns_or_none, each_columns}
use Rattle.wd_node_facts.specs.declared.facts.KeptFact.{KeptFact}
use Rattle.wd_node_facts.specs.declared.facts.Side.{Side}
use Rattle.wd_traces.specs.declared.known.Known.{Known}
use Rattle.wd_traces.specs.declared.known.SideSets.{SideSets}

-- the set has these members
abbrev pub IsSetOf : Set → List Member → Type 0
IsSetOf set members = (m : Member) → has set m ≡ stands_in members m

-- the set in a slot, if there is one
abbrev pub set_in : Option (Option (Box Set)) → Option Set
set_in None = None
set_in (Some None) = None
set_in (Some (Some set)) = Some set.value

-- the sets in the slots have the members of the sides with their numbers
abbrev pub AreSets : (ℕ → List Member) → List (Option (Box Set)) → Type 0
AreSets sides sets = (n : ℕ) (set : Set) → set_in (slice_get sets n) ≡ Some set → IsSetOf set (sides n)

-- a set was put at a number
abbrev pub IsPut : ℕ → Set → List (Option (Box Set)) → List (Option (Box Set)) → Type 0
IsPut number set old new = (n : ℕ) (other : Set) → set_in (slice_get new n) ≡ Some other → ((n ≡ number) × (other ≡ set)) ⊎ (set_in (slice_get old n) ≡ Some other)

-- ---- sides by their numbers

abbrev pub from_of : Option Given → List Member
from_of None = []
from_of (Some fact) = fact.from.items

abbrev pub to_of : Option Given → List Member
to_of None = []
to_of (Some fact) = fact.to.items

abbrev pub kept_to : Option KeptFact → List Member
kept_to None = []
kept_to (Some kept) = kept.to.items

-- the columns of a child's trace, as the node above numbers them
abbrev pub trace_side : Side → ℕ → List Member
trace_side side n = map (moved (λ c. side.by + c) side.row) (columns_named (columns_or_none (slice_get (each_columns side.keeps.traces.items) n)))

-- what a child's kept fact determines, as the node above numbers it
abbrev pub kept_side : Side → ℕ → List Member
kept_side side n = map (moved (λ c. side.by + c) side.row) (kept_to (slice_get side.keeps.list.items n))

pub record AreGivenSets (list : List Given) (sets : SideSets) : Type 0 where
  pub from : AreSets (λ n. from_of (slice_get list n)) sets.from.items
  pub to : AreSets (λ n. to_of (slice_get list n)) sets.to.items

pub record AreSideSets (side : Side) (sets : SideSets) : Type 0 where
  pub from : AreSets (trace_side side) sets.from.items
  pub to : AreSets (kept_side side) sets.to.items

-- the members of a set are columns between two numbers
abbrev pub IsBetween : ℕ → ℕ → Set → Type 0
IsBetween from to set = (m : Member) → has set m ≡ true → (c : ℕ) × (m ≡ member.Column c) × (from ≤ c) × (c < to)

-- the members of a set are columns that a side of a Join reaches
abbrev pub IsHalf : Member → Option ℕ → ℕ → Set → Type 0
IsHalf side split columns set = (m : Member) → has set m ≡ true → (c : ℕ) × (m ≡ member.Column c) × ((h : Member → Bool) → h side ≡ true → by_side split columns h c ≡ true)

-- the sets of a node's facts, and of the columns on the sides of a Join
pub record AreKnown (known : Known) : Type 0 where
  pub narrow : AreNarrow known.facts
  pub first : AreGivenSets known.facts.first.items known.first
  pub left : AreSideSets known.facts.left known.left
  pub right : AreSideSets known.facts.right known.right
  pub last : AreGivenSets known.facts.last.items known.last
  pub on_left : IsHalf member.Left known.facts.split known.facts.columns known.on_left
  pub on_right : IsHalf member.Right known.facts.split known.facts.columns known.on_right
