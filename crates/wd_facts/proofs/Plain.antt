-- Members and facts that name columns and the row alone.
use Rattle.std.proofs.Common.{◌≡◌, ℕ, ◌≤◌, true, ◌&&◌, List, [], ◌∷◌, refl, arith, nat_lt}
use Rattle.std.specs.List.{list_all}
use Rattle.std.proofs.lemmas.Bool.{and_parts, false≢true, lt-ltb, ltb-true}
use Rattle.wd_step_facts.specs.declared.facts.Member.{Member}
use Rattle.wd_step_facts.specs.declared.facts.Member.TheVariants.{Column, Left, Right, Row}
use Rattle.wd_step_facts.specs.Facts.{Fact, is_column, is_plain, is_plain_fact}
use Rattle.wd_facts.specs.Laws.{ArePlain}

pub columns_plain : (width : ℕ) (X : List Member) → list_all (is_column width) X ≡ true → list_all (is_plain width) X ≡ true
columns_plain width [] e = refl
columns_plain width (Column c ∷ X) e = let parts = and_parts (nat_lt c width) (list_all (is_column width) X) e in λ i. parts.0 i && columns_plain width X parts.1 i
columns_plain width (Left ∷ X) e = absurd (false≢true e)
columns_plain width (Right ∷ X) e = absurd (false≢true e)
columns_plain width (Row ∷ X) e = absurd (false≢true e)

members_wider : (a b : ℕ) → a ≤ b → (X : List Member) → list_all (is_plain a) X ≡ true → list_all (is_plain b) X ≡ true
members_wider a b h [] e = refl
members_wider a b h (Column c ∷ X) e =
    let parts = and_parts (nat_lt c a) (list_all (is_plain a) X) e in
    let l = ltb-true c a parts.0 in
    λ i. lt-ltb c b (omega arith) i && members_wider a b h X parts.1 i
members_wider a b h (Left ∷ X) e = absurd (false≢true e)
members_wider a b h (Right ∷ X) e = absurd (false≢true e)
members_wider a b h (Row ∷ X) e = members_wider a b h X e

-- facts of rows with so many columns are facts of rows with more
pub facts_wider : (a b : ℕ) → a ≤ b → (facts : List Fact) → ArePlain a facts → list_all (is_plain_fact b) facts ≡ true
facts_wider a b h [] e = refl
facts_wider a b h (fact ∷ facts) e =
    let parts = and_parts (list_all (is_plain a) fact.from) (list_all (is_plain a) fact.to) e.0 in
    λ i. (members_wider a b h fact.from parts.0 i && members_wider a b h fact.to parts.1 i) && facts_wider a b h facts e.1 i
