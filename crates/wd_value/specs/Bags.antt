-- How often an element appears in a list, and lists with each element equally often.
use Rattle.std.specs.Prelude.{◌≡◌, ℕ, Bool, List, count_by, nat_eq}
use Rattle.std.specs.List.{range_with_len}

-- how often an element appears in a list, by a test of equality
abbrev pub times : {X : Type 0} → (X → X → Bool) → X → List X → ℕ
times eq x xs = count_by (eq x) xs

-- each element appears equally often in both lists
abbrev pub SameBag : {X : Type 0} → (X → X → Bool) → List X → List X → Type 0
SameBag {X} eq xs ys = (x : X) → times eq x xs ≡ times eq x ys

-- the positions of a list of n elements, in order
abbrev pub positions : ℕ → List ℕ
positions n = range_with_len 0 n

-- each position below n appears once in the list, and nothing else does
abbrev pub EachOnce : ℕ → List ℕ → Type 0
EachOnce n ps = SameBag nat_eq (positions n) ps
