-- What columns determine by facts: what they determine in each row list in which the facts hold (SQL, functional dependencies).
use Rattle.std.specs.Prelude.{◌≡◌, ℕ, ◌+◌, ◌-◌, ◌↔◌, Bool, true, ◌&&◌, List, [], ◌∷◌, count_by, sum_by, nat_lt, nat_le, slice_get, Option, Some, None, is_some}
use Rattle.std.specs.List.{AllByRecursion, list_all, range_with_len}
use Rattle.wd_step_facts.specs.declared.facts.Member.{Member}
use Rattle.wd_step_facts.specs.declared.facts.Member.TheVariants.{Column, Left, Right, Row}
use Rattle.wd_step_facts.specs.Facts.{Fact, FactList, Paired, Holds, columns_named, key_fact}
use Rattle.wd_sets.specs.Reaches.{also, reaches, reaches_each}
use Rattle.wd_sets.specs.Sets.{stands_in}

-- ---- names

-- whether facts may name a member: a column of theirs, a side where there are sides, the row
abbrev pub is_named : FactList → Member → Bool
is_named facts (Column c) = nat_lt c facts.columns
is_named facts Left = is_some facts.split
is_named facts Right = is_some facts.split
is_named facts Row = true

-- facts that name nothing else
abbrev pub are_named : FactList → Bool
are_named facts = list_all (λ (fact : Fact). list_all (is_named facts) fact.from && list_all (is_named facts) fact.to) facts.list

-- the left side's columns are among all columns
abbrev pub is_split_within : Option ℕ → ℕ → Bool
is_split_within None columns = true
is_split_within (Some split) columns = nat_le split columns

-- ---- what columns determine

abbrev pub columns_between : ℕ → ℕ → List Member
columns_between a b = columns_named (range_with_len a (b - a))

-- at a Join each side determines its columns, and both together the row
abbrev pub side_facts : Option ℕ → ℕ → List Fact
side_facts None columns = []
side_facts (Some split) columns =
    record { from = Left ∷ []; to = columns_between 0 split }
    ∷ record { from = Right ∷ []; to = columns_between split columns }
    ∷ record { from = Left ∷ Right ∷ []; to = Row ∷ [] }
    ∷ []

-- in all rows in which the facts hold, and the facts of the sides, the columns determine the member
abbrev pub Follows : FactList → List ℕ → Member → Type 0
Follows facts columns m =
    (n : Paired) → AllByRecursion (Holds n) (side_facts facts.split facts.columns) → AllByRecursion (Holds n) facts.list → Holds n (key_fact m columns)

-- a set has just what columns determine
abbrev pub IsClosure : FactList → List ℕ → (Member → Bool) → Type 0
IsClosure facts columns has = (m : Member) → (has m ≡ true) ↔ ((is_named facts m ≡ true) × Follows facts columns m)

-- ---- derivations

-- facts, by their numbers, show that members determine others: they are used one after another, each where its left side is reached by
-- the members so far, to which its right side is then added; each of the others is reached by the members in the end
abbrev pub Derives : FactList → List ℕ → (Member → Bool) → (Member → Bool) → Type 0
Derives facts [] has others = (m : Member) → others m ≡ true → reaches facts has m ≡ true
Derives facts (n ∷ uses) has others =
    (fact : Fact) × (slice_get facts.list n ≡ Some fact) × (reaches_each facts has fact.from ≡ true) × Derives facts uses (also has fact.to) others

-- ---- steps

-- all that facts over this number of columns may name
abbrev pub all_members : ℕ → List Member
all_members columns = Row ∷ Left ∷ Right ∷ columns_between 0 columns

-- the steps to a set: one for each of its members, and for each fact one for each different member of its left side that is in the set
abbrev pub steps_of : FactList → (Member → Bool) → ℕ
steps_of facts has =
    let all = all_members facts.columns in
    count_by has all + sum_by (λ (fact : Fact). count_by (λ m. has m && stands_in fact.from m) all) facts.list
