-- The columns that are new among those from a number on.
use Rattle.std.proofs.Common.{◌≡◌, ◌||◌, ℕ, ◌+◌, ◌-◌, ◌<◌, ◌≤◌, Bool, true, false, List, [], ◌∷◌, ◌++◌, filter, append_assoc, refl, sym, ap, ◌∙◌}
use Rattle.std.specs.List.{range_with_len}
use Rattle.wd_step_facts.specs.declared.facts.Member.{Member}
use Rattle.wd_step_facts.specs.Facts.{columns_named}
use Rattle.wd_close.proofs.Ranges.{range_more, range_none}
use Rattle.wd_analyse.specs.Evidence.{Closing}
use Rattle.wd_analyse.specs.Kept.{is_new, new_one}

abbrev pub new_from : Closing → ℕ → ℕ → List Member
new_from c a b = columns_named (filter (is_new c) (range_with_len a (b - a)))

one_more : (c : Closing) (a : ℕ) (xs : List ℕ) → columns_named (new_one c a) ++ columns_named (filter (is_new c) xs) ≡ columns_named (filter (is_new c) (a ∷ xs))
one_more c a xs = by (is_new c a) refl
  where
    by : (b : Bool) → is_new c a ≡ b → columns_named (new_one c a) ++ columns_named (filter (is_new c) xs) ≡ columns_named (filter (is_new c) (a ∷ xs))
    by true e = rw e refl
    by false e = rw e refl

pub new_step : (front : List Member) (c : Closing) (a b : ℕ) → a < b → (front ++ columns_named (new_one c a)) ++ new_from c (a + 1) b ≡ front ++ new_from c a b
new_step front c a b h =
    append_assoc front (columns_named (new_one c a)) (new_from c (a + 1) b)
    ∙ ap (λ l. front ++ l) (one_more c a (range_with_len (a + 1) (b - (a + 1))) ∙ ap (λ r. columns_named (filter (is_new c) r)) (sym (range_more a b h)))

pub new_none : (c : Closing) (a b : ℕ) → b ≤ a → new_from c a b ≡ []
new_none c a b h = ap (λ r. columns_named (filter (is_new c) r)) (range_none a b h)

-- a column that is in one place or the other, when one more goes over
pub in_or_left : (here now left : Bool) → ((now || here) || left) ≡ (here || (now || left))
in_or_left true true left = refl
in_or_left true false left = refl
in_or_left false now left = ap (λ b. b || left) (or_false now)
  where
    or_false : (b : Bool) → (b || false) ≡ b
    or_false true = refl
    or_false false = refl
