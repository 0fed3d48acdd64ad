-- The queue of reached members, and the counters of the facts.
use Rattle.std.specs.Prelude.{◌≡◌, ℕ, ◌+◌, ◌-◌, Bool, true, false, ◌&&◌, List, filter, [], ◌∷◌, ◌++◌, length, get_or, set, replicate, slice_get, nat_eq, nat_lt, Option, Some, None, if◌then◌else◌}
use Rattle.std.specs.List.{range_with_len}
use Rattle.wd_step_facts.specs.declared.facts.Member.{Member}
use Rattle.wd_step_facts.specs.declared.facts.Member.TheVariants.{Column, Left, Right, Row}
use Rattle.wd_step_facts.specs.Facts.{Fact, FactList}
use Rattle.wd_sets.specs.declared.set.Set.{Set}
use Rattle.wd_sets.specs.Sets.{has, place, stands_in}
use Rattle.wd_close.specs.Closure.{are_named, columns_between, is_split_within}

-- a set of just the members of a list
abbrev pub Mirrors : Set → List Member → Type 0
Mirrors set list = (m : Member) → has set m ≡ stands_in list m

-- ---- the queue

abbrev pub added : List Member → Member → List Member
added q m = if stands_in q m then q else q ++ m ∷ []

abbrev pub all_added : List Member → List Member → List Member
all_added q [] = q
all_added q (m ∷ ms) = all_added (added q m) ms

abbrev pub row_if : Member → List Member → List Member
row_if m q = if stands_in q m then added q Row else q

abbrev pub with_left : Option ℕ → List Member → List Member
with_left None q = q
with_left (Some split) q = row_if Right (all_added q (columns_between 0 split))

abbrev pub with_right : Option ℕ → ℕ → List Member → List Member
with_right None columns q = q
with_right (Some split) columns q = row_if Left (all_added q (columns_between split columns))

abbrev pub with_sides : Option ℕ → List Member → List Member
with_sides None q = q
with_sides (Some split) q = added (added q Left) Right

-- the queue with what a reached member determines without any fact
abbrev pub brought : FactList → List Member → Member → List Member
brought facts q (Column c) = q
brought facts q Left = with_left facts.split q
brought facts q Right = with_right facts.split facts.columns q
brought facts q Row = with_sides facts.split (all_added q (columns_between 0 facts.columns))

-- ---- the counters

-- the counters, with those of these facts decremented
abbrev pub fallen : List ℕ → List ℕ → List ℕ
fallen counters [] = counters
fallen counters (i ∷ is) = fallen (set counters i (get_or counters i 0 - 1)) is

abbrev pub is_done : List ℕ → ℕ → Bool
is_done counters i = nat_lt i (length counters) && nat_eq (get_or counters i 0) 0

abbrev pub with_fact : List Member → Option Fact → List Member
with_fact q None = q
with_fact q (Some fact) = all_added q fact.to

-- a fact whose counter is at 0 adds its right side
abbrev pub fired_one : List Fact → List ℕ → List Member → ℕ → List Member
fired_one list counters q i = if is_done counters i then with_fact q (slice_get list i) else q

abbrev pub fired : List Fact → List ℕ → List Member → List ℕ → List Member
fired list counters q [] = q
fired list counters q (i ∷ is) = fired list counters (fired_one list counters q i) is

-- the uses of facts, with this one appended where it reaches what was not reached yet
abbrev pub used_one : List Fact → List ℕ → List Member → List ℕ → ℕ → List ℕ
used_one list counters q uses i = if nat_lt (length q) (length (fired_one list counters q i)) then uses ++ i ∷ [] else uses

abbrev pub used : List Fact → List ℕ → List Member → List ℕ → List ℕ → List ℕ
used list counters q uses [] = uses
used list counters q uses (i ∷ is) = used list counters (fired_one list counters q i) (used_one list counters q uses i) is

-- ---- the facts that watch each member, at the member's place

abbrev pub is_number : Option ℕ → ℕ → Bool
is_number None i = false
is_number (Some n) i = nat_eq n i

abbrev pub is_last : List ℕ → ℕ → Bool
is_last list i = is_number (slice_get list (length list - 1)) i

abbrev pub watched_one : List (List ℕ) → ℕ → Member → List (List ℕ)
watched_one watchers i m = set watchers (place m) (get_or watchers (place m) [] ++ i ∷ [])

-- a fact watches a member, once: it does already where it is the last of the member's list
abbrev pub watched_once : List (List ℕ) → ℕ → Member → List (List ℕ)
watched_once watchers i m = if is_last (get_or watchers (place m) []) i then watchers else watched_one watchers i m

-- a fact watches each of these members
abbrev pub watched_each : List (List ℕ) → ℕ → List Member → List (List ℕ)
watched_each watchers i [] = watchers
watched_each watchers i (m ∷ ms) = watched_each (watched_once watchers i m) i ms

-- how many of the members it did not watch yet
abbrev pub count_new : List (List ℕ) → ℕ → List Member → ℕ
count_new watchers i [] = 0
count_new watchers i (m ∷ ms) = (if is_last (get_or watchers (place m) []) i then 0 else 1) + count_new (watched_once watchers i m) i ms

-- each fact, from this number on, watches the members of its left side
abbrev pub watched : List (List ℕ) → ℕ → List Fact → List (List ℕ)
watched watchers i [] = watchers
watched watchers i (fact ∷ facts) = watched (watched_each watchers i fact.from) (i + 1) facts

-- how many members each fact watches
abbrev pub counted : List (List ℕ) → ℕ → List Fact → List ℕ
counted watchers i [] = []
counted watchers i (fact ∷ facts) = count_new watchers i fact.from ∷ counted (watched_each watchers i fact.from) (i + 1) facts

-- the facts that watch the member at a place of the queue
abbrev pub watching : List (List ℕ) → List Member → ℕ → List ℕ
watching watchers q k = get_or watchers (place (get_or q k Row)) []

-- ---- facts made ready

-- for facts that name what they may: which watch each member, how many members each waits for, and which wait for none
pub record AreReady (facts : FactList) (watchers : List (List ℕ)) (counters ready : List ℕ) : Type 0 where
  pub split : is_split_within facts.split facts.columns ≡ true
  pub named : are_named facts ≡ true
  pub stand : watchers ≡ watched (replicate (facts.columns + 3) []) 0 facts.list
  pub wait : counters ≡ counted (replicate (facts.columns + 3) []) 0 facts.list
  pub done : ready ≡ filter (is_done counters) (range_with_len 0 (length counters))
