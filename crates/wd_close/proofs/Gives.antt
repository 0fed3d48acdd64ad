-- What members give, in all rows in which the facts hold.
use Rattle.std.proofs.Common.{◌≡◌, ℕ, true, List, [], ◌∷◌, refl, sym, ap, subst, Some}
use Rattle.std.specs.List.{AllByRecursion}
use Rattle.std.proofs.lemmas.Bool.{false≢true}
use Rattle.wd_value.specs.Rows.{column_of, row_at}
use Rattle.wd_step_facts.specs.declared.facts.Member.{Member}
use Rattle.wd_step_facts.specs.declared.facts.Member.TheVariants.{Column, Left, Right, Row}
use Rattle.wd_step_facts.specs.Facts.{Fact, FactList, Paired, Same, Holds}
use Rattle.wd_sets.specs.Sets.{stands_in}
use Rattle.wd_close.specs.Closure.{columns_between, side_facts}
use Rattle.wd_close.proofs.Lists.{every_at, every_from, stands_one}

abbrev pub Gives : FactList → List Member → Member → Type 0
Gives facts from m = (n : Paired) → AllByRecursion (Holds n) (side_facts facts.split facts.columns) → AllByRecursion (Holds n) facts.list → Holds n (record { from = from; to = m ∷ [] })

one_row : (n : Paired) (p q : ℕ) → p ≡ q → (m : Member) → Same n p q m
one_row n p q e (Column c) = ap (λ i. column_of (row_at n.rows i) c) e
one_row n p q e Left = ap n.left e
one_row n p q e Right = ap n.right e
one_row n p q e Row = e

module _ (facts : FactList) (from : List Member) where
  pub itself_given : (m : Member) → stands_in from m ≡ true → Gives facts from m
  itself_given m e n sides hold p q k l a = (every_at (Same n p q) from a m e, tt)

  pub row_gives : Gives facts from Row → (m : Member) → Gives facts from m
  row_gives row m n sides hold p q k l a = (one_row n p q (row n sides hold p q k l a).0 m, tt)

  -- the right side of a fact whose left side is given
  pub fact_gives : (fact : Fact) → ((n : Paired) → AllByRecursion (Holds n) (side_facts facts.split facts.columns) → AllByRecursion (Holds n) facts.list → Holds n fact) → ((m : Member) → stands_in fact.from m ≡ true → Gives facts from m) → (m : Member) → stands_in fact.to m ≡ true → Gives facts from m
  fact_gives fact holds given m e n sides hold p q k l a =
      (every_at (Same n p q) fact.to (holds n sides hold p q k l (every_from (Same n p q) fact.from (λ x f. (given x f n sides hold p q k l a).0))) m e, tt)

  module _ (s : ℕ) (is : facts.split ≡ Some s) where
    of_split : (n : Paired) → AllByRecursion (Holds n) (side_facts facts.split facts.columns) → AllByRecursion (Holds n) (side_facts (Some s) facts.columns)
    of_split n a = subst (λ o. AllByRecursion (Holds n) (side_facts o facts.columns)) is a

    pub left_gives : Gives facts from Left → (m : Member) → stands_in (columns_between 0 s) m ≡ true → Gives facts from m
    left_gives left = fact_gives (record { from = Left ∷ []; to = columns_between 0 s }) (λ n sides hold. (of_split n sides).0) (λ x e. subst (Gives facts from) (sym (stands_one Left x e)) left)

    pub right_gives : Gives facts from Right → (m : Member) → stands_in (columns_between s facts.columns) m ≡ true → Gives facts from m
    right_gives right = fact_gives (record { from = Right ∷ []; to = columns_between s facts.columns }) (λ n sides hold. (of_split n sides).1.0) (λ x e. subst (Gives facts from) (sym (stands_one Right x e)) right)

    pub both_give : Gives facts from Left → Gives facts from Right → Gives facts from Row
    both_give left right = fact_gives (record { from = Left ∷ Right ∷ []; to = Row ∷ [] }) (λ n sides hold. (of_split n sides).1.1.0) each Row refl
      where
        each : (m : Member) → stands_in (Left ∷ Right ∷ []) m ≡ true → Gives facts from m
        each (Column c) e = absurd (false≢true e)
        each Left e = left
        each Right e = right
        each Row e = absurd (false≢true e)
