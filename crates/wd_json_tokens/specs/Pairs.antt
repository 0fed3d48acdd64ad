-- What is held of an object's members while they are read.
use Rattle.std.specs.Prelude.{◌≡◌, ◌≢◌, ℕ, List, Bool, true, false, Option, Some, None, option_map}
use Rattle.std.specs.Ordering.{nat_cmp, is_lt}
use Rattle.std.specs.Cmp.Lexicographic.{slice_cmp}
use Rattle.serde_json.specs.Data.{Data, Members, no_members, member}
use Rattle.serde_json.specs.Find.{get_member}
use Rattle.wd_json.specs.Json.{two_members_json}
use Rattle.wd_json_tokens.specs.Forms.{IsForm}

-- the value of a member, if it was found, is the JSON value of this x, or of none
abbrev pub Fills : {A : Type 0} → (A → Data) → Option (Option A) → Option Data → Type 0
Fills form None v = v ≡ None
Fills form (Some o) v = (d : Data) × (v ≡ Some d) × IsForm form o d

-- the members, with this one in front if it was found
abbrev pub with_member : List ℕ → Option Data → Members → Members
with_member name None ms = ms
with_member name (Some d) ms = member name d ms

-- the first name comes before the second
abbrev pub ComesBefore : List ℕ → List ℕ → Type 0
ComesBefore k l = is_lt (slice_cmp nat_cmp k l) ≡ true

-- the object of two members with these names, whose values are the JSON values of a pair
abbrev pub pair_json : {A B : Type 0} → List ℕ → List ℕ → (A → Data) → (B → Data) → A × B → Data
pair_json first second f g p = two_members_json first (f p.0) second (g p.1)

-- both parts of a pair as they are seen
abbrev pub both_seen : {X Y A B : Type 0} → (X → A) → (Y → B) → X × Y → A × B
both_seen s t p = (s p.0, t p.1)

-- a slot's value as it is seen
abbrev pub slot_seen : {X A : Type 0} → (X → A) → Option (Option X) → Option (Option A)
slot_seen s slot = option_map (option_map s) slot

-- a member has a name that is neither of these
abbrev pub HasOther : List ℕ → List ℕ → Members → Type 0
HasOther first second ms = (k : List ℕ) × (d : Data) × (get_member k ms ≡ Some d) × (k ≢ first) × (k ≢ second)

-- the members have these two names at most, with these values, or another name too
abbrev pub HoldsPair : {A B : Type 0} → List ℕ → List ℕ → (A → Data) → (B → Data) → Option (Option A) → Option (Option B) → Bool → Members → Type 0
HoldsPair first second f g a b true ms = HasOther first second ms
HoldsPair first second f g a b false ms = (v : Option Data) × (w : Option Data) × Fills f a v × Fills g b w × (ms ≡ with_member first v (with_member second w no_members))
