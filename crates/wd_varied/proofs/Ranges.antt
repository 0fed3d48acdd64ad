-- A range that is one longer, filtered.
use Rattle.std.proofs.Common.{◌≡◌, ℕ, zero, suc, ◌+◌, ◌-◌, ◌≤◌, Bool, true, false, All, List, [], ◌∷◌, ◌++◌, filter, length, refl, sym, ◌∙◌, ap, arith}
use Rattle.std.specs.List.{range_with_len}
use Rattle.std.proofs.lemmas.List.Elements.{All-cons, All-nil, filter-append}
use Rattle.wd_plan.specs.Plans.{PlanTree}
use Rattle.wd_varied.specs.Sizes.{is_size, sizes}

range_more : (a n : ℕ) → range_with_len a (suc n) ≡ range_with_len a n ++ (a + n) ∷ []
range_more a zero = let e : a ≡ a + 0 = omega arith in ap (λ k. k ∷ []) e
range_more a (suc n) =
    let rest = range_more (a + 1) n in
    let last : (a + 1) + n ≡ a + suc n = omega arith in
    ap (λ l. a ∷ l) (rest ∙ ap (λ k. range_with_len (a + 1) n ++ k ∷ []) last)

pub next_size : (p : ℕ → Bool) (made : List ℕ) (rows : ℕ) → 2 ≤ rows → made ≡ filter p (range_with_len 2 (rows - 2)) → made ++ filter p (rows ∷ []) ≡ filter p (range_with_len 2 ((rows + 1) - 2))
next_size p made rows h before =
    let one : (rows + 1) - 2 ≡ suc (rows - 2) = omega (arith, h) in
    let here : rows ≡ 2 + (rows - 2) = omega (arith, h) in
    ap (λ l. l ++ filter p (rows ∷ [])) before
    ∙ ap (λ k. filter p (range_with_len 2 (rows - 2)) ++ filter p (k ∷ [])) here
    ∙ sym (filter-append p (range_with_len 2 (rows - 2)) ((2 + (rows - 2)) ∷ []))
    ∙ ap (filter p) (sym (range_more 2 (rows - 2)))
    ∙ ap (λ n. filter p (range_with_len 2 n)) (sym one)

few_of : (p : ℕ → Bool) (a n : ℕ) → length (filter p (range_with_len a n)) ≤ n
few_of p a zero = omega arith
few_of p a (suc n) = by (p a) refl (few_of p (a + 1) n)
  where
    by : (b : Bool) → p a ≡ b → length (filter p (range_with_len (a + 1) n)) ≤ n → length (filter p (range_with_len a (suc n))) ≤ suc n
    by true e rest = rw e (omega (arith, rest))
    by false e rest = rw e (omega (arith, rest))

small_of : (p : ℕ → Bool) (a n most : ℕ) → a + n ≤ most + 1 → All (λ k. k ≤ most) (filter p (range_with_len a n))
small_of p a zero most h = All-nil (λ k. k ≤ most)
small_of p a (suc n) most h = by (p a) refl (small_of p (a + 1) n most (omega (arith, h)))
  where
    by : (b : Bool) → p a ≡ b → All (λ k. k ≤ most) (filter p (range_with_len (a + 1) n)) → All (λ k. k ≤ most) (filter p (range_with_len a (suc n)))
    by true e rest = rw e (All-cons (λ k. k ≤ most) a (filter p (range_with_len (a + 1) n)) (omega (arith, h)) rest)
    by false e rest = rw e rest

large_of : (p : ℕ → Bool) (a n least : ℕ) → least ≤ a → All (λ k. least ≤ k) (filter p (range_with_len a n))
large_of p a zero least h = All-nil (λ k. least ≤ k)
large_of p a (suc n) least h = by (p a) refl (large_of p (a + 1) n least (omega (arith, h)))
  where
    by : (b : Bool) → p a ≡ b → All (λ k. least ≤ k) (filter p (range_with_len (a + 1) n)) → All (λ k. least ≤ k) (filter p (range_with_len a (suc n)))
    by true e rest = rw e (All-cons (λ k. least ≤ k) a (filter p (range_with_len (a + 1) n)) h rest)
    by false e rest = rw e rest

pub large_sizes : (plan : PlanTree) → All (λ k. 2 ≤ k) (sizes plan)
large_sizes plan = large_of (is_size plan) 2 63 2 (omega arith)

pub few_sizes : (plan : PlanTree) → length (sizes plan) ≤ 63
few_sizes plan = few_of (is_size plan) 2 63

pub small_sizes : (plan : PlanTree) → All (λ k. k ≤ 64) (sizes plan)
small_sizes plan = small_of (is_size plan) 2 63 64 (omega arith)
