-- What the facts name, and the facts by their numbers.
use Rattle.std.proofs.Common.{◌≡◌, ℕ, zero, suc, ◌≤◌, true, nat_lt, ◌&&◌, List, [], ◌∷◌, refl, sym, ap, arith, subst, Option, Some, None, is_some}
use Rattle.std.specs.List.{AllByRecursion, list_all}
use Rattle.std.proofs.lemmas.Bool.{and_parts, leb-true, lt-ltb, ltb-true}
use Rattle.wd_step_facts.specs.declared.facts.Member.{Member}
use Rattle.wd_step_facts.specs.declared.facts.Member.TheVariants.{Column, Left, Right, Row}
use Rattle.wd_step_facts.specs.Facts.{Fact, FactList, columns_named}
use Rattle.wd_sets.specs.Sets.{stands_in}
use Rattle.wd_close.specs.Closure.{all_members, are_named, columns_between, is_named, is_split_within, side_facts}
use Rattle.wd_close.proofs.Lists.{all_from, between_from, between_has}

abbrev pub IsNamed : FactList → Fact → Type 0
IsNamed facts fact = (list_all (is_named facts) fact.from ≡ true) × (list_all (is_named facts) fact.to ≡ true)

abbrev pub HasSplit : FactList → Type 0
HasSplit facts = (split : ℕ) → facts.split ≡ Some split → split ≤ facts.columns

pub has_split : (facts : FactList) → is_split_within facts.split facts.columns ≡ true → HasSplit facts
has_split facts h split e = leb-true split facts.columns (subst (λ o. is_split_within o facts.columns ≡ true) e h)

pub all_named : (facts : FactList) → are_named facts ≡ true → AllByRecursion (IsNamed facts) facts.list
all_named facts = each facts.list
  where
    each : (list : List Fact) → list_all (λ (fact : Fact). list_all (is_named facts) fact.from && list_all (is_named facts) fact.to) list ≡ true → AllByRecursion (IsNamed facts) list
    each [] e = tt
    each (fact ∷ list) e =
        let parts = and_parts (list_all (is_named facts) fact.from && list_all (is_named facts) fact.to) (list_all (λ (fact : Fact). list_all (is_named facts) fact.from && list_all (is_named facts) fact.to) list) e in
        (and_parts (list_all (is_named facts) fact.from) (list_all (is_named facts) fact.to) parts.0, each list parts.1)

-- columns that lie within
pub columns_in : (facts : FactList) (columns : List ℕ) → list_all (λ c. nat_lt c facts.columns) columns ≡ true → list_all (is_named facts) (columns_named columns) ≡ true
columns_in facts [] e = refl
columns_in facts (c ∷ columns) e =
    let parts = and_parts (nat_lt c facts.columns) (list_all (λ c. nat_lt c facts.columns) columns) e in
    λ i. parts.0 i && columns_in facts columns parts.1 i

pub columns_named_in : (facts : FactList) (a b : ℕ) → b ≤ facts.columns → (x : Member) → stands_in (columns_between a b) x ≡ true → is_named facts x ≡ true
columns_named_in facts a b h x e = let r = between_from a b x e in subst (λ y. is_named facts y ≡ true) (sym r.is) (lt-ltb r.number facts.columns (omega (arith, r.high, h)))

pub named_in : (facts : FactList) (m : Member) → is_named facts m ≡ true → stands_in (all_members facts.columns) m ≡ true
named_in facts (Column c) e = between_has 0 facts.columns c (omega arith) (ltb-true c facts.columns e)
named_in facts Left e = refl
named_in facts Right e = refl
named_in facts Row e = refl

pub sides_named : (facts : FactList) → HasSplit facts → AllByRecursion (IsNamed facts) (side_facts facts.split facts.columns)
sides_named facts within = by facts.split refl
  where
    by : (o : Option ℕ) → facts.split ≡ o → AllByRecursion (IsNamed facts) (side_facts o facts.columns)
    by None e = tt
    by (Some s) e =
        let side : is_some facts.split ≡ true = ap is_some e in (
          ((λ i. side i && true), all_from (is_named facts) (columns_between 0 s) (columns_named_in facts 0 s (within s e))),
          (
            ((λ i. side i && true), all_from (is_named facts) (columns_between s facts.columns) (columns_named_in facts s facts.columns (omega arith))),
            (((λ i. side i && (side i && true)), refl), tt),
          ),
        )

-- ---- the facts by their numbers

abbrev pub left_at : List Fact → ℕ → List Member
left_at [] i = []
left_at (f ∷ fs) zero = f.from
left_at (f ∷ fs) (suc i) = left_at fs i

abbrev pub right_at : List Fact → ℕ → List Member
right_at [] i = []
right_at (f ∷ fs) zero = f.to
right_at (f ∷ fs) (suc i) = right_at fs i

pub right_named : (facts : FactList) (list : List Fact) (i : ℕ) → AllByRecursion (IsNamed facts) list → list_all (is_named facts) (right_at list i) ≡ true
right_named facts [] i a = refl
right_named facts (f ∷ fs) zero a = a.0.1
right_named facts (f ∷ fs) (suc i) a = right_named facts fs i a.1
