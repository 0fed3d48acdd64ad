-- Ranges, a step on and at the end.
use Rattle.std.proofs.Common.{◌≡◌, ℕ, suc, ◌+◌, ◌-◌, ◌<◌, ◌≤◌, List, [], ◌∷◌, ap, arith, Bool, true, false, cond, filter, ◌∙◌, ◌++◌, refl, sym}
use Rattle.std.specs.List.{range_with_len}
use Rattle.wd_step_facts.specs.declared.facts.Member.{Member}
use Rattle.wd_step_facts.specs.declared.facts.Member.TheVariants.{Column}
use Rattle.wd_step_facts.specs.Facts.{columns_named}
use Rattle.wd_close.specs.Closure.{columns_between}
use Rattle.wd_close.specs.Reached.{added, all_added}

pub range_more : (a b : ℕ) → a < b → range_with_len a (b - a) ≡ a ∷ range_with_len (a + 1) (b - (a + 1))
range_more a b h = let e : b - a ≡ suc (b - (a + 1)) = omega (arith, h) in ap (range_with_len a) e

pub range_none : (a b : ℕ) → b ≤ a → range_with_len a (b - a) ≡ []
range_none a b h = let e : b - a ≡ 0 = omega (arith, h) in ap (range_with_len a) e

pub columns_more : (q : List Member) (a b : ℕ) → a < b → all_added q (columns_between a b) ≡ all_added (added q (Column a)) (columns_between (a + 1) b)
columns_more q a b h = ap (λ r. all_added q (columns_named r)) (range_more a b h)

pub columns_none : (q : List Member) (a b : ℕ) → b ≤ a → all_added q (columns_between a b) ≡ q
columns_none q a b h = ap (λ r. all_added q (columns_named r)) (range_none a b h)

-- a list with those of a range that pass after it: one more passes
pub next_kept : (test : ℕ → Bool) (a b : ℕ) (old new all : List ℕ) → a < b → test a ≡ true → new ≡ old ++ a ∷ [] → old ++ filter test (range_with_len a (b - a)) ≡ all → new ++ filter test (range_with_len (a + 1) (b - (a + 1))) ≡ all
next_kept test a b old new all h e is before =
    let rest = filter test (range_with_len (a + 1) (b - (a + 1))) in
    ap (λ l. l ++ rest) is ∙ pushed old rest ∙ ap (λ l. old ++ l) (sym (ap (filter test) (range_more a b h) ∙ ap (λ t. cond t (a ∷ rest) rest) e)) ∙ before
  where
    pushed : (l rest : List ℕ) → (l ++ a ∷ []) ++ rest ≡ l ++ a ∷ rest
    pushed [] rest = refl
    pushed (x ∷ l) rest = ap (λ r. x ∷ r) (pushed l rest)

-- one does not
pub next_left : (test : ℕ → Bool) (a b : ℕ) (old all : List ℕ) → a < b → test a ≡ false → old ++ filter test (range_with_len a (b - a)) ≡ all → old ++ filter test (range_with_len (a + 1) (b - (a + 1))) ≡ all
next_left test a b old all h e before =
    let rest = filter test (range_with_len (a + 1) (b - (a + 1))) in
    ap (λ l. old ++ l) (sym (ap (filter test) (range_more a b h) ∙ ap (λ t. cond t (a ∷ rest) rest) e)) ∙ before

pub filter_none : (test : ℕ → Bool) (a b : ℕ) → b ≤ a → filter test (range_with_len a (b - a)) ≡ []
filter_none test a b h = ap (filter test) (range_none a b h)
