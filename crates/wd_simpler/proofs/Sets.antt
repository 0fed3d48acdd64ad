-- Sets to which columns are added one after another.
use Rattle.std.proofs.Common.{◌≡◌, ℕ, ◌+◌, ◌<◌, ◌⊎◌, inl, inr, Bool, true, false, ◌&&◌, ◌||◌, List, [], ◌∷◌, ◌++◌, flat_map, take, length, get_or, nat_eq, nat_lt, refl, sym, ◌∙◌, ap, subst, arith, add-one, zero-add}
use Rattle.std.proofs.lemmas.Bool.{cases_order, eq-eqb, le-ltb, lt-ltb, ne_eqb}
use Rattle.std.proofs.Math.Bool.{or_assoc, or-false}
use Rattle.std.proofs.lemmas.List.{flat_map_more, take_more}
use Rattle.std.proofs.lemmas.List.Folds.{list_any-append}
use Rattle.wd_plan.specs.Plans.{has}
use Rattle.wd_step_facts.proofs.Added.{range_more}
use Rattle.wd_value.specs.Bags.{positions}
use Rattle.wd_sets.specs.Sets.{has_column}
use Rattle.wd_sets.specs.declared.set.Set.{Set}
use Rattle.wd_simpler.specs.Sets.{HasAlso}

or_turned : (x y : Bool) → (x || y) ≡ (y || x)
or_turned true true = refl
or_turned true false = refl
or_turned false true = refl
or_turned false false = refl

has-append : (xs ys : List ℕ) (c : ℕ) → has (xs ++ ys) c ≡ (has xs c || has ys c)
has-append xs ys c = list_any-append (nat_eq c) xs ys

pub also_none : (set : Set) → HasAlso set [] set
also_none set c = sym (or-false (has_column set c))

-- a member put in
pub also_one : (a b : Set) (x : ℕ) → ((c : ℕ) → has_column b c ≡ (nat_eq c x || has_column a c)) → HasAlso a (x ∷ []) b
also_one a b x h c = h c ∙ or_turned (nat_eq c x) (has_column a c) ∙ ap (λ e. has_column a c || e) (sym (or-false (nat_eq c x)))

-- columns, and then others
pub also_then : (a b d : Set) (xs ys : List ℕ) → HasAlso a xs b → HasAlso b ys d → HasAlso a (xs ++ ys) d
also_then a b d xs ys m n c =
    n c ∙ ap (λ x. x || has ys c) (m c) ∙ or_assoc (has_column a c) (has xs c) (has ys c) ∙ ap (λ x. has_column a c || x) (sym (has-append xs ys c))

-- the second ones first
pub also_turned : (a b d : Set) (xs ys : List ℕ) → HasAlso a ys b → HasAlso b xs d → HasAlso a (xs ++ ys) d
also_turned a b d xs ys m n c =
    also_then a b d ys xs m n c ∙ ap (λ x. has_column a c || x) (has-append ys xs c ∙ or_turned (has ys c) (has xs c) ∙ sym (has-append xs ys c))

-- one column more of a list
pub also_next : (a b d : Set) (xs : List ℕ) (i x : ℕ) → i < length xs → x ≡ get_or xs i 0 → HasAlso a (take i xs) b → HasAlso b (x ∷ []) d → HasAlso a (take (i + 1) xs) d
also_next a b d xs i x h is m n =
    subst (λ (l : List ℕ). HasAlso a l d) (sym (take_more xs i 0 h)) (also_then a b d (take i xs) (get_or xs i 0 ∷ []) m (subst (λ y. HasAlso b (y ∷ []) d) is n))

-- the columns of one element more of a list
pub also_more : {X : Type 0} (f : X → List ℕ) (a b d : Set) (xs : List X) (i : ℕ) (x : X) → i < length xs → x ≡ get_or xs i x → HasAlso a (flat_map f (take i xs)) b → HasAlso b (f x) d → HasAlso a (flat_map f (take (i + 1) xs)) d
also_more f a b d xs i x h is m n =
    subst (λ l. HasAlso a (flat_map f l) d) (sym (take_more xs i x h))
    (subst (λ (l : List ℕ). HasAlso a l d) (flat_map_more f [] (take i xs) (get_or xs i x)) (subst (λ y. HasAlso a (flat_map f (take i xs) ++ f y) d) is (also_then a b d (flat_map f (take i xs)) (f x) m n)))

-- one column more of the first ones
pub also_position : (a b d : Set) (n : ℕ) → HasAlso a (positions n) b → HasAlso b (n ∷ []) d → HasAlso a (positions (n + 1)) d
also_position a b d n m k = subst (λ (l : List ℕ). HasAlso a l d) (sym (ap positions (add-one n) ∙ range_more 0 n n (zero-add n))) (also_then a b d (positions n) (n ∷ []) m k)

-- ---- the columns after the first so many

-- one more that is in the set
pub beside_in : (s : ℕ → Bool) (first i c : ℕ) (old new : Bool) → s (first + i) ≡ true → old ≡ (nat_lt c i && s (first + c)) → new ≡ (nat_eq c i || old) → new ≡ (nat_lt c (i + 1) && s (first + c))
beside_in s first i c old new here before is = by (cases_order c i)
  where
    by : (c ≡ i) ⊎ ((c < i) ⊎ (i < c)) → new ≡ (nat_lt c (i + 1) && s (first + c))
    by (inl e) = is ∙ ap (λ b. b || old) (eq-eqb c i e) ∙ (λ t. sym (lt-ltb c (i + 1) (omega (arith, e))) t && sym (ap (λ k. s (first + k)) e ∙ here) t)
    by (inr (inl h)) = is ∙ ap (λ b. b || old) (ne_eqb c i (λ e. omega (arith, h, e))) ∙ before ∙ ap (λ b. b && s (first + c)) (lt-ltb c i h ∙ sym (lt-ltb c (i + 1) (omega (arith, h))))
    by (inr (inr h)) = is ∙ ap (λ b. b || old) (ne_eqb c i (λ e. omega (arith, h, e))) ∙ before ∙ ap (λ b. b && s (first + c)) (le-ltb c i (omega (arith, h)) ∙ sym (le-ltb c (i + 1) (omega (arith, h))))

-- one more that is not
pub beside_out : (s : ℕ → Bool) (first i c : ℕ) (old : Bool) → s (first + i) ≡ false → old ≡ (nat_lt c i && s (first + c)) → old ≡ (nat_lt c (i + 1) && s (first + c))
beside_out s first i c old here before = by (cases_order c i)
  where
    by : (c ≡ i) ⊎ ((c < i) ⊎ (i < c)) → old ≡ (nat_lt c (i + 1) && s (first + c))
    by (inl e) = before ∙ ap (λ b. b && s (first + c)) (le-ltb c i (omega (arith, e))) ∙ sym (ap (λ k. s (first + k)) e ∙ here) ∙ ap (λ b. b && s (first + c)) (sym (lt-ltb c (i + 1) (omega (arith, e))))
    by (inr (inl h)) = before ∙ ap (λ b. b && s (first + c)) (lt-ltb c i h ∙ sym (lt-ltb c (i + 1) (omega (arith, h))))
    by (inr (inr h)) = before ∙ ap (λ b. b && s (first + c)) (le-ltb c i (omega (arith, h)) ∙ sym (le-ltb c (i + 1) (omega (arith, h))))

-- all of so many
pub beside_all : (s : ℕ → Bool) (first count c : ℕ) (found : Bool) → c < count → found ≡ (nat_lt c count && s (first + c)) → found ≡ s (first + c)
beside_all s first count c found h is = is ∙ ap (λ b. b && s (first + c)) (lt-ltb c count h)
