-- What passes a test without gaps is a range of the list.
use Rattle.std.proofs.Common.{◌≡◌, ℕ, suc, ◌+◌, ◌<◌, Bool, true, false, List, [], ◌∷◌, map, filter, length, take, drop, get_or, refl, ◌∙◌, ap, arith}
use Rattle.std.specs.List.{enumerate_from}
use Rattle.std.proofs.lemmas.Bool.{false_from_ne_true}

module _ {X : Type 0} (t : ℕ → X → Bool) (d : X) where
  -- what passes, of a list whose places are counted from n
  abbrev passing : ℕ → List X → List X
  passing n xs = map (λ (m : ℕ × X). m.1) (filter (λ (m : ℕ × X). t m.0 m.1) (enumerate_from n xs))

  -- the element at place i passes
  abbrev Passes : ℕ → List X → ℕ → Type 0
  Passes n xs i = t (n + i) (get_or xs i d) ≡ true

  first : (n : ℕ) (x : X) (xs : List X) → t n x ≡ true → Passes n (x ∷ xs) 0
  first n x xs e = ap (λ m. t m x) (omega arith) ∙ e

  first_is : (n : ℕ) (x : X) (xs : List X) → Passes n (x ∷ xs) 0 → t n x ≡ true
  first_is n x xs e = ap (λ m. t m x) (omega arith) ∙ e

  next : (n : ℕ) (x : X) (xs : List X) (i : ℕ) → Passes (n + 1) xs i → Passes n (x ∷ xs) (suc i)
  next n x xs i e = ap (λ m. t m (get_or xs i d)) (omega arith) ∙ e

  next_is : (n : ℕ) (x : X) (xs : List X) (i : ℕ) → Passes n (x ∷ xs) (suc i) → Passes (n + 1) xs i
  next_is n x xs i e = ap (λ m. t m (get_or xs i d)) (omega arith) ∙ e

  -- nothing passes
  abbrev IsNone : ℕ → List X → Type 0
  IsNone n xs = (i : ℕ) → i < length xs → Passes n xs i → ⊥

  none_passes : (n : ℕ) (xs : List X) → IsNone n xs → passing n xs ≡ []
  none_passes n [] h = refl
  none_passes n (x ∷ xs) h = rw (false_from_ne_true (t n x) (λ e. h 0 (omega arith) (first n x xs e))) (none_passes (n + 1) xs (λ i l e. h (suc i) (omega arith) (next n x xs i e)))

  -- what stands before one that passes does too
  abbrev IsPrefix : ℕ → List X → Type 0
  IsPrefix n xs = (i j : ℕ) → i < j → j < length xs → Passes n xs j → Passes n xs i

  prefix_step : (n : ℕ) (x : X) (xs : List X) (b : Bool) → t n x ≡ b → IsPrefix n (x ∷ xs) → (count : ℕ) × (passing (n + 1) xs ≡ take count xs) → (count : ℕ) × (passing n (x ∷ xs) ≡ take count (x ∷ xs))
  prefix_step n x xs true e h r = (suc r.0, rw e (ap (λ l. x ∷ l) r.1))
  prefix_step n x xs false e h r = (0, rw e (none_passes (n + 1) xs (λ i l f. let k : t n x ≡ true = first_is n x xs (h 0 (suc i) (omega arith) (omega arith) (next n x xs i f)) in cc)))

  prefix_passes : (n : ℕ) (xs : List X) → IsPrefix n xs → (count : ℕ) × (passing n xs ≡ take count xs)
  prefix_passes n [] h = (0, refl)
  prefix_passes n (x ∷ xs) h = prefix_step n x xs (t n x) refl h (prefix_passes (n + 1) xs (λ i j l k e. next_is n x xs i (h (suc i) (suc j) (omega arith) (omega arith) (next n x xs j e))))

  -- what stands between two that pass does too
  abbrev pub HasNoGap : ℕ → List X → Type 0
  HasNoGap n xs = (i j k : ℕ) → i < j → j < k → k < length xs → Passes n xs i → Passes n xs k → Passes n xs j

  range_step : (n : ℕ) (x : X) (xs : List X) (b : Bool) → t n x ≡ b → HasNoGap n (x ∷ xs) → (start : ℕ) × (count : ℕ) × (passing (n + 1) xs ≡ take count (drop start xs)) → (start : ℕ) × (count : ℕ) × (passing n (x ∷ xs) ≡ take count (drop start (x ∷ xs)))
  range_step n x xs true e h r =
      let p = prefix_passes (n + 1) xs (λ i j l k f. next_is n x xs i (h 0 (suc i) (suc j) (omega arith) (omega arith) (omega arith) (first n x xs e) (next n x xs j f))) in
      (0, suc p.0, rw e (ap (λ l. x ∷ l) p.1))
  range_step n x xs false e h r = (suc r.0, r.1, rw e r.2)

  pub range_passes : (n : ℕ) (xs : List X) → HasNoGap n xs → (start : ℕ) × (count : ℕ) × (passing n xs ≡ take count (drop start xs))
  range_passes n [] h = (0, 0, refl)
  range_passes n (x ∷ xs) h = range_step n x xs (t n x) refl h (range_passes (n + 1) xs (λ i j k a b within f g. next_is n x xs j (h (suc i) (suc j) (suc k) (omega arith) (omega arith) (omega arith) (next n x xs i f) (next n x xs k g))))
