-- Columns in a set, and the columns from one number up to another.
use Rattle.std.proofs.Common.{◌≡◌, ℕ, suc, ◌+◌, ◌-◌, ◌<◌, Bool, false, ◌||◌, List, [], ◌∷◌, ◌++◌, sym, refl, ◌∙◌, ap, arith, nat_eq}
use Rattle.std.specs.List.{range_with_len}
use Rattle.wd_plan.proofs.Groups.{any_append}
use Rattle.wd_step_facts.specs.declared.facts.Member.{Member}
use Rattle.wd_step_facts.specs.declared.facts.Member.TheVariants.{Column}
use Rattle.wd_step_facts.specs.Facts.{columns_named}
use Rattle.wd_sets.specs.Sets.{is_in, stands_in}
use Rattle.wd_sets.specs.Reaches.{also}

-- a column stands in members where it is among their columns
named : (columns : List ℕ) (c : ℕ) → stands_in (columns_named columns) (Column c) ≡ is_in columns c
named [] c = refl
named (d ∷ columns) c = ap (λ b. nat_eq c d || b) (named columns c)

-- a set that got columns and, after them, others
pub class_set : (none first both : Member → Bool) (partition keys : List ℕ) → ((m : Member) → none m ≡ false) → ((m : Member) → first m ≡ also none (columns_named partition) m) → ((m : Member) → both m ≡ also first (columns_named keys) m) → (λ c. both (Column c)) ≡ is_in (partition ++ keys)
class_set none first both partition keys e f g = λ i c. at c i
  where
    at : (c : ℕ) → both (Column c) ≡ is_in (partition ++ keys) c
    at c =
        g (Column c) ∙ ap (λ b. b || stands_in (columns_named keys) (Column c)) (f (Column c) ∙ ap (λ b. b || stands_in (columns_named partition) (Column c)) (e (Column c)))
        ∙ (λ i. named partition c i || named keys c i) ∙ sym (any_append (nat_eq c) partition keys)

-- columns from one number up to another
abbrev pub columns_from : ℕ → ℕ → List ℕ
columns_from c n = range_with_len c (n - c)

pub columns_next : (c n : ℕ) → c < n → columns_from c n ≡ c ∷ columns_from (c + 1) n
columns_next c n h = let k : n - c ≡ suc (n - (c + 1)) = omega arith in ap (range_with_len c) k

pub columns_end : (c n : ℕ) → n ≡ c → columns_from c n ≡ []
columns_end c n e = let k : n - c ≡ 0 = omega arith in ap (range_with_len c) k
