-- A list that is rewritten from its start on.
use Rattle.std.proofs.Common.{◌≡◌, ◌∙◌, ℕ, ◌+◌, ◌<◌, ◌≤◌, ◌⊎◌, inl, inr, List, map, set, get_or, length, length-set, sym, arith}
use Rattle.std.proofs.lemmas.Grind.{get_or-set_at}
use Rattle.std.proofs.lemmas.List.{ext_get_or, get_or-map, get_or-set_other, length-map}

-- the elements before i are those of f, the others the old ones
pub record Rewritten (f : ℕ → ℕ) (old : List ℕ) (i : ℕ) (new : List ℕ) : Type 0 where
  pub long : length new ≡ length old
  pub done : (k : ℕ) → k < i → get_or new k 0 ≡ f k
  pub left : (k : ℕ) → i ≤ k → k < length old → get_or new k 0 ≡ get_or old k 0

-- before the next place, or at it
pub before_or_at : (k i : ℕ) → k < i + 1 → (k < i) ⊎ (k ≡ i)
before_or_at k i low = grind (arith)

pub Rewritten-start : (f : ℕ → ℕ) (old : List ℕ) → Rewritten f old 0 old
Rewritten-start f old = record { long = λ j. length old; done = λ k low. absurd (omega arith); left = λ k low high j. get_or old k 0 }

pub Rewritten-more : (f : ℕ → ℕ) (old : List ℕ) (i : ℕ) (new : List ℕ) (v : ℕ) → Rewritten f old i new → i < length old → v ≡ f i → Rewritten f old (i + 1) (set new i v)
Rewritten-more f old i new v r low is = record {
  long = length-set new i v ∙ r.long;
  done = λ k l. by_case k (before_or_at k i l);
  left = λ k l h. get_or-set_other new i k v 0 (λ e. absurd (omega arith)) ∙ r.left k (omega arith) h;
}
  where
    by_case : (k : ℕ) → (k < i) ⊎ (k ≡ i) → get_or (set new i v) k 0 ≡ f k
    by_case k (inl l) = get_or-set_other new i k v 0 (λ e. absurd (omega arith)) ∙ r.done k l
    by_case k (inr e) = get_or-set_at new i k v 0 e (let long = r.long in omega arith) ∙ is ∙ (λ j. f (sym e j))

-- all of it
pub Rewritten-map : (g : ℕ → ℕ) (xs old new : List ℕ) (i : ℕ) → length xs ≡ length old → i ≡ length old → Rewritten (λ k. g (get_or xs k 0)) old i new → new ≡ map g xs
Rewritten-map g xs old new i long end r =
    ext_get_or 0 new (map g xs) (r.long ∙ sym (length-map xs g ∙ long))
    (λ k low. let long' = r.long in r.done k (omega arith) ∙ sym (get_or-map g xs k 0 0 (omega arith)))
