-- Marks of the positions that stand in the first part of a list.
use Rattle.std.proofs.Common.{◌≡◌, ◌≢◌, ℕ, zero, suc, ◌+◌, ◌<◌, ◌≤◌, Bool, true, false, cond, eqb, List, [], ◌∷◌, take, get_or, length, count_by, refl, sym, ◌∙◌, ap, subst, arith, ◌^◌}
use Rattle.std.proofs.Common.{◌⊎◌, inl, inr}
use Rattle.std.proofs.lemmas.Bool.{cases_lt}
use Rattle.std.proofs.lemmas.Bool.Decides.{Decides-eqb}
use Rattle.std.proofs.lemmas.List.{get_or_past}
use Rattle.std.proofs.lemmas.List.FromFn.{length-range_with_len}
use Rattle.std.proofs.lemmas.List.Sums.{count_by-le-length, sum_by_more_le}
use Rattle.wd_value.specs.Bags.{EachOnce, positions, times}
use Rattle.wd_value.proofs.Perms.{Perm-from_SameBag, Perm-length, count_by-cons}
use Rattle.wd_plan.proofs.Places.{found_at_place, place-get_or, range-times, times-get_or, times-range, times-range-le}
use Rattle.wd_plan.specs.Partitions.{place_in}
use Rattle.wd_partition.specs.Seen.{AreSeen}

-- ---- lists that have each position once

pub length_once : (n : ℕ) (xs : List ℕ) → EachOnce n xs → length xs ≡ n
length_once n xs once = sym (Perm-length (Perm-from_SameBag eqb Decides-eqb (positions n) xs once)) ∙ length-range_with_len 0 n

pub not_long : (n : ℕ) (xs : List ℕ) → length xs ≢ n → EachOnce n xs → ⊥
not_long n xs long once = long (length_once n xs once)

pub not_past : (n : ℕ) (xs : List ℕ) (i : ℕ) → i < length xs → n ≤ get_or xs i 0 → EachOnce n xs → ⊥
not_past n xs i within past once =
    let p = get_or xs i 0 in
    let some : 0 < times eqb p xs = times-get_or xs i 0 within in
    let same : times eqb p (positions n) ≡ times eqb p xs = once p in
    let below : p < 0 + n = range-times p 0 n (omega arith) in
    omega arith

itself : (n : ℕ) → eqb n n ≡ true
itself n = (Decides-eqb n n).1 refl

pub not_twice : (n : ℕ) (xs : List ℕ) (marks : List Bool) (i : ℕ) → AreSeen n (take i xs) marks → i < length xs → get_or marks (get_or xs i 0) false ≡ true → EachOnce n xs → ⊥
not_twice n xs marks i seen within marked once =
    let p = get_or xs i 0 in
    let before : times eqb p (take i xs) ≡ 1 = seen.once p ∙ ap (λ b. cond {A = ℕ} b 1 0) marked in
    let here : cond {A = ℕ} (eqb p p) 1 0 ≡ 1 = ap (λ b. cond {A = ℕ} b 1 0) (itself p) in
    let two : times eqb p (take i xs) + cond {A = ℕ} (eqb p p) 1 0 ≤ times eqb p xs = sum_by_more_le (λ q. cond (eqb p q) 1 0) xs i 0 within in
    let same : times eqb p (positions n) ≡ times eqb p xs = once p in
    let one : times eqb p (positions n) ≤ 1 = times-range-le p 0 n in
    omega arith

pub below_once : (n : ℕ) (xs : List ℕ) (i : ℕ) → EachOnce n xs → i < length xs → get_or xs i 0 < n
below_once n xs i once within =
    let p = get_or xs i 0 in
    let some : 0 < times eqb p xs = times-get_or xs i 0 within in
    let same : times eqb p (positions n) ≡ times eqb p xs = once p in
    let below : p < 0 + n = range-times p 0 n (omega arith) in
    omega arith

pub at_most_once : (n : ℕ) (xs : List ℕ) (p : ℕ) → EachOnce n xs → times eqb p xs ≤ 1
at_most_once n xs p once =
    let same : times eqb p (positions n) ≡ times eqb p xs = once p in
    let one : times eqb p (positions n) ≤ 1 = times-range-le p 0 n in
    omega arith

pub own_place : (n : ℕ) (xs : List ℕ) (i : ℕ) → EachOnce n xs → i < length xs → place_in xs (get_or xs i 0) ≡ i
own_place n xs i once within = place-get_or xs i 0 within (at_most_once n xs (get_or xs i 0) once)

pub found_once : (n : ℕ) (xs : List ℕ) (p : ℕ) → EachOnce n xs → p < n → (place_in xs p < length xs) × (get_or xs (place_in xs p) 0 ≡ p)
found_once n xs p once low =
    let same : times eqb p (positions n) ≡ times eqb p xs = once p in
    let some : 0 < times eqb p (positions n) = times-range p 0 n (omega arith) (omega arith) in
    found_at_place xs p 0 (omega arith)

-- ---- the marks

-- as many marks as there are places: each one is set
all_marked : (marks : List Bool) (p : ℕ) → count_by (λ b. b) marks ≡ length marks → p < length marks → get_or marks p false ≡ true
all_marked [] p e l = absurd (omega arith)
all_marked (true ∷ marks) zero e l = refl
all_marked (true ∷ marks) (suc p) e l = all_marked marks p (let c = count_by-cons (λ b. b) true marks in omega arith) (omega arith)
all_marked (false ∷ marks) p e l = absurd (let c = count_by-cons (λ b. b) false marks in let m = count_by-le-length (λ b. b) marks in omega arith)

at_place : (n : ℕ) (xs : List ℕ) (marks : List Bool) → AreSeen n xs marks → length xs ≡ n → (p : ℕ) → (p < n) ⊎ (n ≤ p) → times eqb p (positions n) ≡ times eqb p xs
at_place n xs marks seen long p (inl l) =
    let marked = all_marked marks p (seen.number ∙ long ∙ sym seen.long) (subst (λ m. p < m) (sym seen.long) l) in
    let here : times eqb p xs ≡ 1 = seen.once p ∙ ap (λ b. cond {A = ℕ} b 1 0) marked in
    let some : 0 < times eqb p (positions n) = times-range p 0 n (omega arith) (omega arith) in
    let one : times eqb p (positions n) ≤ 1 = times-range-le p 0 n in
    omega arith
at_place n xs marks seen long p (inr l) =
    let past : get_or marks p false ≡ false = get_or_past marks p false (subst (λ m. m ≤ p) (sym seen.long) l) in
    let here : times eqb p xs ≡ 0 = seen.once p ∙ ap (λ b. cond {A = ℕ} b 1 0) past in
    none_past (times eqb p (positions n)) refl ∙ sym here
  where
    none_past : (k : ℕ) → times eqb p (positions n) ≡ k → k ≡ 0
    none_past zero e = refl
    none_past (suc k) e = absurd (let below : p < 0 + n = range-times p 0 n (omega arith) in omega arith)

pub seen_all : (n : ℕ) (xs : List ℕ) (marks : List Bool) → AreSeen n xs marks → length xs ≡ n → EachOnce n xs
seen_all n xs marks seen long p = at_place n xs marks seen long p (cases_lt p n)

-- a list of positions, each of them once, is as short as the rows are few
pub short_once : (n : ℕ) (ps list : List ℕ) → n < 2 ^ 32 → EachOnce n ps → list ≡ ps → length list < 2 ^ 32
short_once n ps list few once is = subst (λ m. m < 2 ^ 32) (sym (ap length is ∙ length_once n ps once)) few
