-- Of some facts only those whose counters are at 0 matter.
use Rattle.std.proofs.Common.{◌≡◌, ℕ, Bool, true, false, cond, List, [], ◌∷◌, ◌++◌, length, filter, refl, sym, ◌∙◌, ap, arith, ◌⊎◌, inl, inr, slice_get, nat_lt, if◌then◌else◌}
use Rattle.std.proofs.lemmas.Bool.{ltb-true}
use Rattle.wd_step_facts.specs.declared.facts.Member.{Member}
use Rattle.wd_step_facts.specs.Facts.{Fact}
use Rattle.wd_close.specs.Reached.{fired, fired_one, is_done, used, used_one, with_fact}
use Rattle.wd_close.proofs.Lists.{bool_cases}

not_more : (n : ℕ) → nat_lt n n ≡ false
not_more n = by (bool_cases (nat_lt n n))
  where
    by : (nat_lt n n ≡ true) ⊎ (nat_lt n n ≡ false) → nat_lt n n ≡ false
    by (inl e) = absurd (omega (arith, ltb-true n n e))
    by (inr e) = e

module _ (list : List Fact) (cs : List ℕ) where
  none_fired : (q : List Member) (i : ℕ) → is_done cs i ≡ false → fired_one list cs q i ≡ q
  none_fired q i e = ap (λ (b : Bool). if b then with_fact q (slice_get list i) else q) e

  none_used : (q : List Member) (uses : List ℕ) (i : ℕ) → is_done cs i ≡ false → used_one list cs q uses i ≡ uses
  none_used q uses i e =
      ap (λ (r : List Member). if nat_lt (length q) (length r) then uses ++ i ∷ [] else uses) (none_fired q i e)
      ∙ ap (λ (b : Bool). if b then uses ++ i ∷ [] else uses) (not_more (length q))

  pub fired_done : (q : List Member) (is : List ℕ) → fired list cs q (filter (is_done cs) is) ≡ fired list cs q is
  fired_done q [] = refl
  fired_done q (i ∷ is) = by (fired_done (fired_one list cs q i) is) (fired_done q is) (bool_cases (is_done cs i))
    where
      pick : (b : Bool) → is_done cs i ≡ b → fired list cs q (filter (is_done cs) (i ∷ is)) ≡ fired list cs q (cond b (i ∷ filter (is_done cs) is) (filter (is_done cs) is))
      pick b e = ap (λ (b : Bool). fired list cs q (cond b (i ∷ filter (is_done cs) is) (filter (is_done cs) is))) e

      by : fired list cs (fired_one list cs q i) (filter (is_done cs) is) ≡ fired list cs (fired_one list cs q i) is → fired list cs q (filter (is_done cs) is) ≡ fired list cs q is → (is_done cs i ≡ true) ⊎ (is_done cs i ≡ false) → fired list cs q (filter (is_done cs) (i ∷ is)) ≡ fired list cs q (i ∷ is)
      by with without (inl e) = pick true e ∙ with
      by with without (inr e) = pick false e ∙ without ∙ ap (λ r. fired list cs r is) (sym (none_fired q i e))

  pub used_done : (q : List Member) (uses is : List ℕ) → used list cs q uses (filter (is_done cs) is) ≡ used list cs q uses is
  used_done q uses [] = refl
  used_done q uses (i ∷ is) = by (used_done (fired_one list cs q i) (used_one list cs q uses i) is) (used_done q uses is) (bool_cases (is_done cs i))
    where
      pick : (b : Bool) → is_done cs i ≡ b → used list cs q uses (filter (is_done cs) (i ∷ is)) ≡ used list cs q uses (cond b (i ∷ filter (is_done cs) is) (filter (is_done cs) is))
      pick b e = ap (λ (b : Bool). used list cs q uses (cond b (i ∷ filter (is_done cs) is) (filter (is_done cs) is))) e

      by : used list cs (fired_one list cs q i) (used_one list cs q uses i) (filter (is_done cs) is) ≡ used list cs (fired_one list cs q i) (used_one list cs q uses i) is → used list cs q uses (filter (is_done cs) is) ≡ used list cs q uses is → (is_done cs i ≡ true) ⊎ (is_done cs i ≡ false) → used list cs q uses (filter (is_done cs) (i ∷ is)) ≡ used list cs q uses (i ∷ is)
      by with without (inl e) = pick true e ∙ with
      by with without (inr e) = pick false e ∙ without ∙ sym (λ j. used list cs (none_fired q i e j) (none_used q uses i e j) is)
