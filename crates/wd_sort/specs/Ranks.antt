-- The ranks of values under a sort key.
use Rattle.std.specs.Prelude.{◌≡◌, ℕ, zero, suc, ◌+◌, ◌<◌, All, Contains, List, map, length, get_or, IsSorted, if◌then◌else◌}
use Rattle.std.specs.declared.cmp.Ordering.{Ordering}
use Rattle.std.specs.Ordering.{is_lt, nat_cmp}
use denote.Ref.{Bor}
use Rattle.wd_value.specs.Order.{compare}
use Rattle.wd_value.specs.declared.order.SortKey.{SortKey}
use Rattle.wd_value.specs.declared.value.Value.{Value}
use Rattle.wd_value.specs.declared.value.Value.TheVariants.{Null}
use Rattle.wd_sort.specs.declared.ranks.Entry.{Entry}

-- the value at a place of a list of references, and NULL past the last
abbrev pub value_in : List (Bor Value) → ℕ → Value
value_in values place = get_or (map (λ v. v.now) values) place Null

-- numbers below the count of the values that compare as these do
pub record AreRanks (key : SortKey) (values : List (Bor Value)) (ranks : List ℕ) : Type 0 where
  pub long : length ranks ≡ length values
  pub below : (k : ℕ) → k < length values → get_or ranks k 0 < length values
  pub alike : (i j : ℕ) → i < length values → j < length values → nat_cmp (get_or ranks i 0) (get_or ranks j 0) ≡ compare key (value_in values i) (value_in values j)

-- ---- sorted values

-- entries compare as their values do
abbrev pub compare_entries : SortKey → Entry → Entry → Ordering
compare_entries key a b = compare key a.value.now b.value.now

-- an entry has the value at its place
pub record IsEntry (values : List (Bor Value)) (entry : Entry) : Type 0 where
  pub within : entry.place < length values
  pub is : entry.value.now ≡ value_in values entry.place

-- the values sorted, each with its place
pub record AreSortedEntries (key : SortKey) (values : List (Bor Value)) (entries : List Entry) : Type 0 where
  pub long : length entries ≡ length values
  pub each : All (IsEntry values) entries
  pub all : (p : ℕ) → p < length values → Contains (map (λ e. e.place) entries) p
  pub sorted : IsSorted (compare_entries key) entries

-- 1 where the value at a place is greater than the one before, else 0
abbrev pub step_to : SortKey → List Value → ℕ → ℕ
step_to key values zero = 0
step_to key values (suc i) = if is_lt (compare key (get_or values i Null) (get_or values (suc i) Null)) then 1 else 0

-- how many such steps there are up to a place
abbrev pub steps_before : SortKey → List Value → ℕ → ℕ
steps_before key values zero = 0
steps_before key values (suc i) = steps_before key values i + step_to key values i
