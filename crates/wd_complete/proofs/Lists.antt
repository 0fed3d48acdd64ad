-- Elements that stand in lists, and columns that stand in others.
use Rattle.std.proofs.Common.{◌≡◌, ◌⊎◌, inl, inr, ℕ, zero, suc, ◌<◌, Bool, true, false, cond, ◌&&◌, ◌||◌, List, [], ◌∷◌, ◌++◌, filter, length, get_or, map, nat_eq, refl, sym, ◌∙◌, ap, subst, arith, true≢false}
use Rattle.std.specs.List.{AllByRecursion, Contains, list_any, list_all}
use Rattle.std.proofs.lemmas.Bool.{eq-eqb, eqb-true, and_parts}

-- ---- elements

-- x stands in the list, by recursion over it
abbrev pub Among : {X : Type 0} → X → List X → Type 0
Among x [] = ⊥
Among x (y ∷ ys) = (y ≡ x) ⊎ Among x ys

pub among_from : {X : Type 0} (x : X) (xs : List X) → Contains xs x → Among x xs
among_from x [] (k, within, is) = absurd (omega (arith, within))
among_from x (y ∷ ys) (zero, within, is) = inl is
among_from x (y ∷ ys) (suc k, within, is) = inr (among_from x ys (k, omega (arith, within), is))

pub contains_from : {X : Type 0} (x : X) (xs : List X) → Among x xs → Contains xs x
contains_from x [] at = absurd at
contains_from x (y ∷ ys) (inl is) = (0, omega arith, is)
contains_from x (y ∷ ys) (inr at) = let r = contains_from x ys at in (suc r.0, (let w = r.1 in omega (arith, w)), r.2)

pub all_at : {X : Type 0} (P : X → Type 0) (x : X) (xs : List X) → AllByRecursion P xs → Among x xs → P x
all_at P x [] all at = absurd at
all_at P x (y ∷ ys) all (inl e) = subst P e all.0
all_at P x (y ∷ ys) all (inr at) = all_at P x ys all.1 at

pub all_from : {X : Type 0} (P : X → Type 0) (xs : List X) → ((x : X) → Among x xs → P x) → AllByRecursion P xs
all_from P [] h = tt
all_from P (y ∷ ys) h = (h y (inl refl), all_from P ys (λ x at. h x (inr at)))

pub among_front : {X : Type 0} (x : X) (xs ys : List X) → Among x xs → Among x (xs ++ ys)
among_front x [] ys at = absurd at
among_front x (z ∷ xs) ys (inl e) = inl e
among_front x (z ∷ xs) ys (inr at) = inr (among_front x xs ys at)

pub among_back : {X : Type 0} (x : X) (xs ys : List X) → Among x ys → Among x (xs ++ ys)
among_back x [] ys at = at
among_back x (z ∷ xs) ys at = inr (among_back x xs ys at)

pub among_map : {X Y : Type 0} (f : X → Y) (x : X) (xs : List X) → Among x xs → Among (f x) (map f xs)
among_map f x [] at = absurd at
among_map f x (y ∷ ys) (inl e) = inl (ap f e)
among_map f x (y ∷ ys) (inr at) = inr (among_map f x ys at)

pub among_filter : {X : Type 0} (p : X → Bool) (x : X) (xs : List X) → Among x xs → p x ≡ true → Among x (filter p xs)
among_filter p x [] at e = absurd at
among_filter p x (y ∷ ys) (inl f) e = let here : p y ≡ true = ap p f ∙ e in subst (λ b. Among x (cond b (y ∷ filter p ys) (filter p ys))) (sym here) (inl f)
among_filter p x (y ∷ ys) (inr at) e = by (p y) (among_filter p x ys at e)
  where
    by : (b : Bool) → Among x (filter p ys) → Among x (cond b (y ∷ filter p ys) (filter p ys))
    by true later = inr later
    by false later = later

pub among_get : {X : Type 0} (k : ℕ) (xs : List X) (d : X) → k < length xs → Among (get_or xs k d) xs
among_get k [] d h = absurd (omega (arith, h))
among_get zero (x ∷ xs) d h = inl refl
among_get (suc k) (x ∷ xs) d h = inr (among_get k xs d (omega (arith, h)))

-- ---- columns

-- whether a column stands in some
abbrev pub stands : List ℕ → ℕ → Bool
stands X c = list_any (nat_eq c) X

pub or_true : (a b : Bool) → (a || b) ≡ true → (a ≡ true) ⊎ (b ≡ true)
or_true true b h = inl refl
or_true false b h = inr h

pub true_or : (a b : Bool) → b ≡ true → (a || b) ≡ true
true_or true b h = refl
true_or false b h = h

pub stands_among : (X : List ℕ) (c : ℕ) → stands X c ≡ true → Among c X
stands_among [] c h = absurd (true≢false (sym h))
stands_among (x ∷ X) c h = by (or_true (nat_eq c x) (stands X c) h) (stands_among X c)
  where
    by : (nat_eq c x ≡ true) ⊎ (stands X c ≡ true) → (stands X c ≡ true → Among c X) → Among c (x ∷ X)
    by (inl e) later = inl (sym (eqb-true c x e))
    by (inr e) later = inr (later e)

pub among_stands : (X : List ℕ) (c : ℕ) → Among c X → stands X c ≡ true
among_stands [] c at = absurd at
among_stands (x ∷ X) c (inl e) = ap (λ b. b || stands X c) (eq-eqb c x (sym e))
among_stands (x ∷ X) c (inr at) = true_or (nat_eq c x) (stands X c) (among_stands X c at)

-- each of some columns stands in others
abbrev pub Within : List ℕ → List ℕ → Type 0
Within X Y = (c : ℕ) → Among c X → Among c Y

pub all_within : (X Y : List ℕ) → list_all (stands Y) X ≡ true → Within X Y
all_within [] Y h c at = absurd at
all_within (x ∷ X) Y h c (inl e) = subst (λ z. Among z Y) e (stands_among Y x (and_parts (stands Y x) (list_all (stands Y) X) h).0)
all_within (x ∷ X) Y h c (inr at) = all_within X Y (and_parts (stands Y x) (list_all (stands Y) X) h).1 c at

pub within_all : (X Y : List ℕ) → Within X Y → list_all (stands Y) X ≡ true
within_all [] Y h = refl
within_all (x ∷ X) Y h = λ i. among_stands Y x (h x (inl refl)) i && within_all X Y (λ c at. h c (inr at)) i
