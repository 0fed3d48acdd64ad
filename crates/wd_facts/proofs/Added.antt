-- Lists that grow at their end, and what is left of them.
use Rattle.std.proofs.Common.{◌≡◌, ℕ, zero, suc, ◌+◌, ◌<◌, Bool, false, List, [], ◌∷◌, ◌++◌, length, get_or, Option, Some, None, option_map, map, add-one, refl, sym, ◌∙◌, ap, arith, subst, ◌⊎◌, inl, inr}
use Rattle.std.proofs.lemmas.Bool.{cases_eq}
use Rattle.std.specs.List.{range_with_len}
use Rattle.std.proofs.lemmas.List.{append_assoc}
use Rattle.wd_plan.specs.declared.window.Call.{Call}
use Rattle.wd_plan.specs.Expressions.{Expression}
use Rattle.wd_plan.specs.Outcomes.{class_at}
use Rattle.wd_plan.specs.Plans.{WindowRule}
use Rattle.wd_step_facts.specs.Facts.{Fact}
use Rattle.wd_step_facts.specs.Steps.{both_copied, call_facts, calls_facts, copied_keys, copies, copy_from, if_copied, output_facts, outputs_facts}
use Rattle.wd_facts.specs.Known.{IsKnown}

pub moved_next : (by : ℕ) (front keys : List (List ℕ)) (X : List ℕ) → (front ++ (map (λ c. by + c) X ∷ [])) ++ map (map (λ c. by + c)) keys ≡ front ++ map (map (λ c. by + c)) (X ∷ keys)
moved_next by front keys X = append_assoc front (map (λ c. by + c) X ∷ []) (map (map (λ c. by + c)) keys)

-- ---- columns by their copies

-- some columns, after those of the front
abbrev pub after : List ℕ → Option (List ℕ) → Option (List ℕ)
after front rest = option_map (λ Y. front ++ Y) rest

after_both : (front : List ℕ) (d : ℕ) (rest : Option (List ℕ)) → after (front ++ (d ∷ [])) rest ≡ after front (both_copied (Some d) rest)
after_both front d None = refl
after_both front d (Some Y) = ap Some (append_assoc front (d ∷ []) Y)

pub copies_next : (outputs : List Expression) (front X : List ℕ) (c d : ℕ) → copy_from 0 outputs c ≡ Some d → after (front ++ (d ∷ [])) (copies outputs X) ≡ after front (copies outputs (c ∷ X))
copies_next outputs front X c d e = after_both front d (copies outputs X) ∙ ap (λ o. after front (both_copied o (copies outputs X))) (sym e)

pub copies_stop : (outputs : List Expression) (front X : List ℕ) (c : ℕ) → copy_from 0 outputs c ≡ None → None ≡ after front (copies outputs (c ∷ X))
copies_stop outputs front X c e = ap (λ o. after front (both_copied o (copies outputs X))) (sym e)

pub copied_next : (outputs : List Expression) (front keys : List (List ℕ)) (X : List ℕ) → (front ++ if_copied (copies outputs X) []) ++ copied_keys outputs keys ≡ front ++ copied_keys outputs (X ∷ keys)
copied_next outputs front keys X = append_assoc front (if_copied (copies outputs X) []) (copied_keys outputs keys) ∙ ap (λ l. front ++ l) (by (copies outputs X))
  where
    by : (o : Option (List ℕ)) → if_copied o [] ++ copied_keys outputs keys ≡ if_copied o (copied_keys outputs keys)
    by None = refl
    by (Some Y) = refl

-- ---- what is known of the first columns

last_known : (known : List Bool) (b : Bool) → get_or (known ++ b ∷ []) (length known) false ≡ b
last_known [] b = refl
last_known (x ∷ known) b = last_known known b

known_before : (known : List Bool) (b : Bool) (c : ℕ) → c < length known → get_or (known ++ b ∷ []) c false ≡ get_or known c false
known_before [] b c below = absurd (omega (arith, below))
known_before (x ∷ known) b zero below = refl
known_before (x ∷ known) b (suc c) below = known_before known b c (omega (arith, below))

long : (known : List Bool) (b : Bool) → length (known ++ b ∷ []) ≡ suc (length known)
long [] b = refl
long (x ∷ known) b = ap suc (long known b)

pub known_next : (test : ℕ → Bool) (known : List Bool) (b : Bool) → IsKnown test known → b ≡ test (length known) → IsKnown test (known ++ b ∷ [])
known_next test known b h e c below = by (cases_eq c (length known))
  where
    by : (c ≡ length known) ⊎ (c ≡ length known → ⊥) → get_or (known ++ b ∷ []) c false ≡ test c
    by (inl is) = subst (λ n. get_or (known ++ b ∷ []) n false ≡ test n) (sym is) (last_known known b ∙ e)
    by (inr apart) = let shorter : c < length known = omega (arith, below, long known b, apart) in known_before known b c shorter ∙ h c shorter
