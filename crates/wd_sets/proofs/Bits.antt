-- Bits of words.
use Rattle.std.proofs.Common.{◌≡◌, ℕ, Bool, subst, ◌*◌, ◌/◌, ◌%◌, ◌^◌, ◌<◌, ◌≢◌, ◌≤◌, ◌+◌, zero, suc, true, false, max, ◌||◌, List, length, get_or, set, refl, sym, ◌∙◌, ap, arith, eq-eqb, bit_or, nat_eq, nat_lt, inl, inr, ◌⊎◌, w64, if◌then◌else◌}
use Rattle.std.specs.Int.{bit_at}
use Rattle.std.proofs.lemmas.Nat.{or_lt}
use Rattle.std.proofs.lemmas.Nat.Bits.{bit_at-lt, bit_at-suc, bit_at-zero, bit_at_lowest, bit_at_or, bit_at_set_same, bit_at_set_other}
use Rattle.std.proofs.lemmas.List.{get_or-set_same, get_or-set_other, get_or_past}
use Rattle.std.proofs.lemmas.Bool.{cases_eq, false≢true}
use Rattle.wd_step_facts.specs.declared.facts.Member.{Member}
use Rattle.wd_step_facts.specs.declared.facts.Member.TheVariants.{Column, Left, Right, Row}
use Rattle.wd_sets.specs.Sets.{has_bit, place}

abbrev bit_put : List ℕ → ℕ → List ℕ
bit_put words k = set words (k / 64) (bit_or (get_or words (k / 64) 0) (1 * 2 ^ (k % 64) % 18446744073709551616))

in_word : (words : List ℕ) (k i : ℕ) → k / 64 < length words → i / 64 ≡ k / 64 → i ≢ k → has_bit (bit_put words k) i ≡ has_bit words i
in_word words k i h e ne =
    ap (λ w. nat_eq (bit_at w (i % 64)) 1) (ap (λ x. get_or (bit_put words k) x 0) e ∙ get_or-set_same words (k / 64) (bit_or (get_or words (k / 64) 0) (1 * 2 ^ (k % 64) % 18446744073709551616)) 0 h)
    ∙ ap (λ b. nat_eq b 1) (bit_at_set_other w64 (get_or words (k / 64) 0) (k % 64) (omega arith) (i % 64) (λ f. ne (omega (arith, e, f))))
    ∙ ap (λ x. nat_eq (bit_at (get_or words x 0) (i % 64)) 1) (sym e)

other_word : (words : List ℕ) (k i : ℕ) → i / 64 ≢ k / 64 → has_bit (bit_put words k) i ≡ has_bit words i
other_word words k i ne = ap (λ x. nat_eq (bit_at x (i % 64)) 1) (get_or-set_other words (k / 64) (i / 64) (bit_or (get_or words (k / 64) 0) (1 * 2 ^ (k % 64) % 18446744073709551616)) 0 ne)

same_bit : (words : List ℕ) (k : ℕ) → k / 64 < length words → has_bit (bit_put words k) k ≡ true
same_bit words k h =
    ap (λ w. nat_eq (bit_at w (k % 64)) 1) (get_or-set_same words (k / 64) (bit_or (get_or words (k / 64) 0) (1 * 2 ^ (k % 64) % 18446744073709551616)) 0 h)
    ∙ ap (λ b. nat_eq b 1) (bit_at_set_same w64 (get_or words (k / 64) 0) (k % 64) (omega arith))

pub bits_put : (words : List ℕ) (k : ℕ) → k / 64 < length words → (i : ℕ) → has_bit (bit_put words k) i ≡ (nat_eq i k || has_bit words i)
bits_put words k h i = by (cases_eq i k)
  where
    apart : i ≢ k → nat_eq i k ≡ false
    apart ne = grind (arith, ne)

    word : i ≢ k → (i / 64 ≡ k / 64) ⊎ (i / 64 ≡ k / 64 → ⊥) → has_bit (bit_put words k) i ≡ has_bit words i
    word ne (inl e) = in_word words k i h e ne
    word ne (inr f) = other_word words k i f

    by : (i ≡ k) ⊎ (i ≡ k → ⊥) → has_bit (bit_put words k) i ≡ (nat_eq i k || has_bit words i)
    by (inl e) = ap (λ x. has_bit (bit_put words k) x) e ∙ same_bit words k h ∙ sym (ap (λ b. b || has_bit words i) (eq-eqb i k e))
    by (inr ne) = word ne (cases_eq (i / 64) (k / 64)) ∙ sym (ap (λ b. b || has_bit words i) (apart ne))

-- ---- the bits of two words together

two : (x y : ℕ) → x < 2 → y < 2 → nat_eq (max x y) 1 ≡ (nat_eq x 1 || nat_eq y 1)
two zero zero a b = refl
two zero (suc zero) a b = refl
two (suc zero) zero a b = refl
two (suc zero) (suc zero) a b = refl
two (suc (suc x)) y a b = absurd (omega arith)
two x (suc (suc y)) a b = absurd (omega arith)

or_bits : (a b i : ℕ) → nat_eq (bit_at (bit_or a b) i) 1 ≡ (nat_eq (bit_at a i) 1 || nat_eq (bit_at b i) 1)
or_bits a b i = ap (λ n. nat_eq n 1) (bit_at_or a b i) ∙ two (bit_at a i) (bit_at b i) (bit_at-lt a i) (bit_at-lt b i)

-- ---- words that are joined one after another

order : (m n : ℕ) → (m < n) ⊎ (n ≤ m)
order m zero = inr (omega arith)
order zero (suc n) = inl (omega arith)
order (suc m) (suc n) = by (order m n)
  where
    by : (m < n) ⊎ (n ≤ m) → (suc m < suc n) ⊎ (suc n ≤ suc m)
    by (inl h) = inl (omega (arith, h))
    by (inr h) = inr (omega (arith, h))

below : (i at : ℕ) → i < at → nat_lt i at ≡ true
below i at h = grind (arith, h)

above : (i at : ℕ) → at ≤ i → nat_lt i at ≡ false
above i at h = grind (arith, h)

-- a bit past the last word
past : (words : List ℕ) (i : ℕ) → length words ≤ i / 64 → has_bit words i ≡ false
past words i h = ap (λ w. nat_eq (bit_at w (i % 64)) 1) (get_or_past words (i / 64) 0 h) ∙ ap (λ b. nat_eq b 1) (bit_at-zero (i % 64))

or_false : (b : Bool) → b ≡ (b || false)
or_false true = refl
or_false false = refl

-- whether a bit is set, after the first words of two lists were joined
abbrev pub joined : List ℕ → List ℕ → ℕ → ℕ → Bool
joined old others at i = if nat_lt (i / 64) at then has_bit old i || has_bit others i else has_bit old i

module _ (old others : List ℕ) (i : ℕ) where
  abbrev pick : Bool → Bool
  pick b = if b then has_bit old i || has_bit others i else has_bit old i

  pub joined_none : has_bit old i ≡ joined old others 0 i
  joined_none = ap pick (sym (above (i / 64) 0 (omega arith)))

  pub joined_next : (words : List ℕ) (at word : ℕ) → at < length words → word ≡ bit_or (get_or words at 0) (get_or others at 0) → has_bit words i ≡ joined old others at i → has_bit (set words at word) i ≡ joined old others (at + 1) i
  joined_next words at word h is so_far = by (cases_eq (i / 64) at)
    where
      more : i / 64 ≢ at → nat_lt (i / 64) (at + 1) ≡ nat_lt (i / 64) at
      more ne = grind (arith, ne)

      by : (i / 64 ≡ at) ⊎ (i / 64 ≡ at → ⊥) → has_bit (set words at word) i ≡ joined old others (at + 1) i
      by (inl e) =
          ap (λ x. nat_eq (bit_at (get_or (set words at word) x 0) (i % 64)) 1) e
          ∙ ap (λ w. nat_eq (bit_at w (i % 64)) 1) (get_or-set_same words at word 0 h ∙ is)
          ∙ or_bits (get_or words at 0) (get_or others at 0) (i % 64)
          ∙ ap (λ x. nat_eq (bit_at (get_or words x 0) (i % 64)) 1 || nat_eq (bit_at (get_or others x 0) (i % 64)) 1) (sym e)
          ∙ ap (λ b. b || has_bit others i) (so_far ∙ ap pick (above (i / 64) at (omega (arith, e))))
          ∙ ap pick (sym (below (i / 64) (at + 1) (omega (arith, e))))
      by (inr ne) =
          ap (λ w. nat_eq (bit_at w (i % 64)) 1) (get_or-set_other words at (i / 64) word 0 ne)
          ∙ so_far
          ∙ ap pick (sym (more ne))

  pub joined_all : (at : ℕ) → length others ≤ at → joined old others at i ≡ (has_bit old i || has_bit others i)
  joined_all at h = by (order (i / 64) at)
    where
      by : (i / 64 < at) ⊎ (at ≤ i / 64) → joined old others at i ≡ (has_bit old i || has_bit others i)
      by (inl l) = ap pick (below (i / 64) at l)
      by (inr l) = ap pick (above (i / 64) at l) ∙ or_false (has_bit old i) ∙ ap (λ b. has_bit old i || b) (sym (past others i (omega (arith, l, h))))

-- ---- words within others

-- the bits of the first words are among those of two lists
abbrev pub Within : List ℕ → List ℕ → List ℕ → ℕ → Type 0
Within words first second at = (i : ℕ) → i / 64 < at → has_bit words i ≡ true → (has_bit first i || has_bit second i) ≡ true

pub within_next : (words first second : List ℕ) (at : ℕ) → bit_or (get_or words at 0) (bit_or (get_or first at 0) (get_or second at 0)) ≡ bit_or (get_or first at 0) (get_or second at 0) → Within words first second at → Within words first second (at + 1)
within_next words first second at same before i l has = by (cases_eq (i / 64) at)
  where
    own : i / 64 ≡ at → (has_bit first i || has_bit second i) ≡ true
    own e =
        let among : bit_or (get_or words (i / 64) 0) (bit_or (get_or first (i / 64) 0) (get_or second (i / 64) 0)) ≡ bit_or (get_or first (i / 64) 0) (get_or second (i / 64) 0) = subst (λ x. bit_or (get_or words x 0) (bit_or (get_or first x 0) (get_or second x 0)) ≡ bit_or (get_or first x 0) (get_or second x 0)) (sym e) same in
        sym (or_bits (get_or first (i / 64) 0) (get_or second (i / 64) 0) (i % 64))
        ∙ sym (ap (λ w. nat_eq (bit_at w (i % 64)) 1) among)
        ∙ or_bits (get_or words (i / 64) 0) (bit_or (get_or first (i / 64) 0) (get_or second (i / 64) 0)) (i % 64)
        ∙ ap (λ b. b || nat_eq (bit_at (bit_or (get_or first (i / 64) 0) (get_or second (i / 64) 0)) (i % 64)) 1) has

    by : (i / 64 ≡ at) ⊎ (i / 64 ≡ at → ⊥) → (has_bit first i || has_bit second i) ≡ true
    by (inl e) = own e
    by (inr ne) = before i (omega (arith, l, ne)) has

pub within_all : (words first second : List ℕ) (at : ℕ) → length words ≤ at → Within words first second at → (i : ℕ) → has_bit words i ≡ true → (has_bit first i || has_bit second i) ≡ true
within_all words first second at h before i has = by (order (i / 64) at)
  where
    by : (i / 64 < at) ⊎ (at ≤ i / 64) → (has_bit first i || has_bit second i) ≡ true
    by (inl l) = before i l has
    by (inr l) = absurd (false≢true (sym (past words i (omega (arith, l, h))) ∙ has))

-- ---- words that are not within others

-- two words that differ have a bit in which they do
differs : (k a b : ℕ) → a < 2 ^ k → b < 2 ^ k → a ≢ b → (i : ℕ) × (i < k) × (bit_at a i ≢ bit_at b i)
differs zero a b f g ne = absurd (ne (omega arith))
differs (suc k) a b f g ne = by (cases_eq (a % 2) (b % 2)) (λ apart. differs k (a / 2) (b / 2) (omega arith) (omega arith) apart)
  where
    by : (a % 2 ≡ b % 2) ⊎ (a % 2 ≡ b % 2 → ⊥) → (a / 2 ≢ b / 2 → (i : ℕ) × (i < k) × (bit_at (a / 2) i ≢ bit_at (b / 2) i)) → (i : ℕ) × (i < suc k) × (bit_at a i ≢ bit_at b i)
    by (inl e) later =
        let found = later (λ h. ne (omega (arith, e, h))) in
        (suc found.0, omega (arith, found.1), λ h. found.2 (sym (bit_at-suc a found.0) ∙ h ∙ bit_at-suc b found.0))
    by (inr other) later = (0, omega arith, λ h. other (sym (bit_at_lowest a) ∙ h ∙ bit_at_lowest b))

-- a bit that more words have
more : (x y : ℕ) → x < 2 → y < 2 → max x y ≢ y → (nat_eq x 1 ≡ true) × (nat_eq y 1 ≡ false)
more zero zero a b ne = absurd (ne refl)
more zero (suc zero) a b ne = absurd (ne refl)
more (suc zero) zero a b ne = (refl, refl)
more (suc zero) (suc zero) a b ne = absurd (ne refl)
more (suc (suc x)) y a b ne = absurd (omega arith)
more x (suc (suc y)) a b ne = absurd (omega arith)

pub outside : (words first second : List ℕ) (at : ℕ) → get_or words at 0 < 2 ^ 64 → get_or first at 0 < 2 ^ 64 → get_or second at 0 < 2 ^ 64
    → bit_or (get_or words at 0) (bit_or (get_or first at 0) (get_or second at 0)) ≢ bit_or (get_or first at 0) (get_or second at 0)
    → (i : ℕ) × (has_bit words i ≡ true) × ((has_bit first i || has_bit second i) ≡ false)
outside words first second at f g h ne =
    let word = get_or words at 0 in
    let among = bit_or (get_or first at 0) (get_or second at 0) in
    let both = or_lt 64 (get_or first at 0) (get_or second at 0) g h in
    let found = differs 64 (bit_or word among) among (or_lt 64 word among f both) both ne in
    let own = more (bit_at word found.0) (bit_at among found.0) (bit_at-lt word found.0) (bit_at-lt among found.0) (λ e. found.2 (bit_at_or word among found.0 ∙ e)) in
    let i : ℕ = at * 64 + found.0 in
    let quotient : i / 64 ≡ at = omega (arith, found.1) in
    let rest : i % 64 ≡ found.0 = omega (arith, found.1) in (
      i,
      (λ j. nat_eq (bit_at (get_or words (quotient j) 0) (rest j)) 1) ∙ own.0,
      (λ j. nat_eq (bit_at (get_or first (quotient j) 0) (rest j)) 1 || nat_eq (bit_at (get_or second (quotient j) 0) (rest j)) 1) ∙ sym (or_bits (get_or first at 0) (get_or second at 0) found.0) ∙ own.1,
    )

-- each bit is a member's
pub member_at : (i : ℕ) → (m : Member) × (place m ≡ i)
member_at zero = (Row, refl)
member_at (suc zero) = (Left, refl)
member_at (suc (suc zero)) = (Right, refl)
member_at (suc (suc (suc c))) = (Column c, omega arith)
