-- Where peer groups start, and how many members are of lower groups.
use Rattle.std.proofs.Common.{◌≡◌, ◌∙◌, ℕ, zero, suc, ◌+◌, ◌<◌, ◌≤◌, Bool, true, false, cond, List, [], ◌∷◌, map, take, length, get_or, count_by, nat_lt, refl, sym, ap, arith, ◌⊎◌, inl, inr}
use Rattle.std.proofs.lemmas.Bool.{cases_lt}
use Rattle.std.proofs.lemmas.Bool.Decides.{nat_tests}
use Rattle.std.proofs.lemmas.List.{get_or-map, take_all}
use Rattle.std.proofs.lemmas.List.Sums.{count_by_more_no, count_by_more_yes, sum_by-cons}
use Rattle.wd_value.specs.Rows.{Row, row_at}
use Rattle.wd_plan.specs.Partitions.{group_of}
use Rattle.wd_plan.specs.Plans.{ClassRule}
use Rattle.wd_calls.specs.Values.{IsRising, IsStart, IsStartBefore, group_at}

strict : (a b : ℕ) → a ≤ b → (a ≡ b → ⊥) → a < b
strict a b le differ = omega (arith, differ)

-- ---- from place to place

pub start_kept : (groups : List ℕ) (place before : ℕ) → IsRising groups → place < length groups → IsStartBefore groups place before → group_at groups before ≡ group_at groups place → IsStart groups place before
start_kept groups zero before rising l is same = let first = is.first refl in record { reached = omega arith; same = same; lower = λ q k. absurd (omega arith) }
start_kept groups (suc p) before rising l is same =
    let at = is.start p (omega arith) in
    let reached = at.reached in
    let alike = at.same in
    record { reached = omega arith; same = same; lower = λ q k. let less = at.lower q k in omega arith }

pub start_here : (groups : List ℕ) (place before : ℕ) → IsRising groups → place < length groups → IsStartBefore groups place before → (group_at groups before ≡ group_at groups place → ⊥) → IsStart groups place place
start_here groups zero before rising l is differ = record { reached = omega arith; same = refl; lower = λ q k. absurd (omega arith) }
start_here groups (suc p) before rising l is differ =
    let at = is.start p (omega arith) in
    let alike = at.same in
    let up : group_at groups p ≤ group_at groups (suc p) = rising p (suc p) 0 (omega arith) l in
    let less : group_at groups p < group_at groups (suc p) = strict (group_at groups p) (group_at groups (suc p)) up (λ e. differ (alike ∙ e)) in
    record { reached = omega arith; same = refl; lower = λ q k. below q (let le = cases_lt q p in omega arith) less }
  where
    below : (q : ℕ) → q ≤ p → group_at groups p < group_at groups (suc p) → group_at groups q < group_at groups (suc p)
    below q le less = elim (cases_lt q p) [
      | inl lt ↦ (let up : group_at groups q ≤ group_at groups p = rising q p 0 (omega arith) (omega arith) in omega arith)
      | inr same ↦ (let here : q ≡ p = omega arith in let alike = ap (group_at groups) here in omega arith)
    ]

pub next_start : (groups : List ℕ) (place start : ℕ) → IsStart groups place start → IsStartBefore groups (place + 1) start
next_start groups place start is = record { first = λ e. absurd (omega arith); start = λ p e. let same : place ≡ p = omega arith in rw (sym same) is }

pub first_start : (groups : List ℕ) → IsStartBefore groups 0 0
first_start groups = record { first = λ e. refl; start = λ p e. absurd (omega arith) }

-- ---- counts of members before a point

count_to_point : (p : ℕ → Bool) (xs : List ℕ) (i : ℕ) → i ≤ length xs → ((k : ℕ) → k < i → p (get_or xs k 0) ≡ true) → ((k : ℕ) → i ≤ k → k < length xs → p (get_or xs k 0) ≡ false) → count_by p xs ≡ i
count_to_point p xs i h below after =
    ap (count_by p) (sym (take_all (length xs) xs (omega arith))) ∙ up (length xs) h (omega arith)
  where
    before : (n : ℕ) → n ≤ i → count_by p (take n xs) ≡ n
    before zero le = refl
    before (suc n) le =
        let here = count_by_more_yes p xs n 0 (omega arith) (below n (omega arith)) in
        let next : n + 1 ≡ suc n = omega arith in
        ap (λ m. count_by p (take m xs)) (sym next) ∙ here ∙ ap (λ m. m + 1) (before n (omega arith)) ∙ next

    up : (n : ℕ) → i ≤ n → n ≤ length xs → count_by p (take n xs) ≡ i
    up zero le within = before zero (omega arith) ∙ omega arith
    up (suc n) le within = elim (cases_lt i (suc n)) [
      | inl less ↦ (
          let here = count_by_more_no p xs n 0 (omega arith) (after n (omega arith) (omega arith)) in
          let next : n + 1 ≡ suc n = omega arith in
          ap (λ m. count_by p (take m xs)) (sym next) ∙ here ∙ up n (omega arith) (omega arith))
      | inr same ↦ before (suc n) (omega arith) ∙ omega arith
    ]

count_map : {X Y : Type 0} (p : Y → Bool) (f : X → Y) (xs : List X) → count_by p (map f xs) ≡ count_by (λ x. p (f x)) xs
count_map p f [] = refl
count_map p f (x ∷ xs) = sum_by-cons (λ y. cond (p y) 1 0) (f x) (map f xs) ∙ ap (λ n. cond (p (f x)) 1 0 + n) (count_map p f xs) ∙ sym (sum_by-cons (λ y. cond (p (f y)) 1 0) x xs)

-- the members of lower groups stand before the start
lower_count : (groups : List ℕ) (place start : ℕ) → IsRising groups → place < length groups → IsStart groups place start → count_by (λ g. nat_lt g (group_at groups place)) groups ≡ start
lower_count groups place start rising l is =
    let reached = is.reached in
    count_to_point (λ g. nat_lt g (group_at groups place)) groups start (omega arith)
    (λ k h. yes (get_or groups k 0) (group_at groups place) (is.lower k h))
    (λ k h m. no (get_or groups k 0) (group_at groups place) (above k h m (cases_lt start k)))
  where
    yes : (a b : ℕ) → a < b → nat_lt a b ≡ true
    yes a b lt = grind (arith, nat_tests)

    no : (a b : ℕ) → b ≤ a → nat_lt a b ≡ false
    no a b le = grind (arith, nat_tests)

    above : (k : ℕ) → start ≤ k → k < length groups → (start < k) ⊎ (k ≤ start) → group_at groups place ≤ get_or groups k 0
    above k h m (inl lt) = let up : group_at groups start ≤ group_at groups k = rising start k 0 (omega arith) m in let same = is.same in omega arith
    above k h m (inr le) = let here : start ≡ k = omega arith in let alike = ap (group_at groups) here in let same = is.same in omega arith

-- how many members are of lower groups, from where the group starts
pub lower-is : (class : ClassRule) (partition : List Row) (groups : List ℕ) (place start : ℕ) → groups ≡ map (group_of class partition) partition → IsRising groups → place < length groups → place < length partition → IsStart groups place start
    → start ≡ count_by (λ q. nat_lt (group_of class partition q) (group_of class partition (row_at partition place))) partition
lower-is class partition groups place start are rising within there is =
    let group = group_of class partition in
    sym (lower_count groups place start rising within is)
    ∙ ap (λ gs. count_by (λ g. nat_lt g (group_at gs place)) gs) are
    ∙ count_map (λ g. nat_lt g (get_or (map group partition) place 0)) group partition
    ∙ ap (λ n. count_by (λ q. nat_lt (group q) n) partition) (get_or-map group partition place [] 0 there)
