-- Members that the facts add nothing to miss only what does not follow: two rows that are the same on just these members show it.
use Rattle.std.proofs.Common.{◌≡◌, ℕ, zero, suc, pos, ◌+◌, ◌<◌, Bool, true, false, cond, ◌&&◌, List, [], ◌∷◌, map, length, get_or, refl, sym, ◌∙◌, ap, arith}
use Rattle.std.specs.List.{AllByRecursion, list_all, range_with_len}
use Rattle.std.proofs.lemmas.Bool.{and_parts, false≢true, ltb-true}
use Rattle.std.proofs.lemmas.List.{get_or-map}
use Rattle.wd_value.specs.declared.value.Value.{Value}
use Rattle.wd_value.specs.declared.value.Value.TheVariants.{Int, Null}
use Rattle.wd_value.specs.Rows.{column_of}
use Rattle.wd_step_facts.specs.declared.facts.Member.{Member}
use Rattle.wd_step_facts.specs.declared.facts.Member.TheVariants.{Column, Left, Right, Row}
use Rattle.wd_step_facts.specs.Facts.{Fact, FactList, Paired, Same, Holds}
use Rattle.wd_close.specs.Closure.{is_named, side_facts}
use Rattle.wd_close.proofs.Gives.{Gives}
use Rattle.wd_close.proofs.Names.{IsNamed}

-- where its left side is among the members, so is its right side
abbrev pub IsClosed : (Member → Bool) → Fact → Type 0
IsClosed has fact = list_all has fact.from ≡ true → list_all has fact.to ≡ true

range_at : (a n k d : ℕ) → k < n → get_or (range_with_len a n) k d ≡ a + k
range_at a zero k d h = absurd (omega arith)
range_at a (suc n) zero d h = omega arith
range_at a (suc n) (suc k) d h = range_at (a + 1) n k d (omega arith) ∙ omega arith

range_long : (a n : ℕ) → length (range_with_len a n) ≡ n
range_long a zero = refl
range_long a (suc n) = ap suc (range_long (a + 1) n)

made_at : (f : ℕ → Value) (n c : ℕ) → c < n → column_of (map f (range_with_len 0 n)) c ≡ f c
made_at f n c h = get_or-map f (range_with_len 0 n) c 0 Null (omega (arith, range_long 0 n)) ∙ ap f (range_at 0 n c 0 h ∙ omega arith)

same_back : (n : Paired) (p q : ℕ) (X : List Member) → AllByRecursion (Same n p q) X → AllByRecursion (Same n q p) X
same_back n p q [] a = tt
same_back n p q (Column c ∷ X) a = (sym a.0, same_back n p q X a.1)
same_back n p q (Left ∷ X) a = (sym a.0, same_back n p q X a.1)
same_back n p q (Right ∷ X) a = (sym a.0, same_back n p q X a.1)
same_back n p q (Row ∷ X) a = (sym a.0, same_back n p q X a.1)

same_itself : (n : Paired) (p : ℕ) (X : List Member) → AllByRecursion (Same n p p) X
same_itself n p [] = tt
same_itself n p (Column c ∷ X) = (refl, same_itself n p X)
same_itself n p (Left ∷ X) = (refl, same_itself n p X)
same_itself n p (Right ∷ X) = (refl, same_itself n p X)
same_itself n p (Row ∷ X) = (refl, same_itself n p X)

-- one label for both positions, or one for each
abbrev label : Bool → ℕ → ℕ
label b p = cond b 0 p

module _ (facts : FactList) (has : Member → Bool) (no_row : has Row ≡ false) where
  abbrev zero_value : ℕ → Value
  zero_value c = Int (pos 0)

  abbrev bit_value : ℕ → Value
  bit_value c = Int (pos (cond (has (Column c)) 0 1))

  abbrev model : Paired
  model = record {
    rows = map zero_value (range_with_len 0 facts.columns) ∷ map bit_value (range_with_len 0 facts.columns) ∷ [];
    left = label (has Left);
    right = label (has Right);
  }

  same_label : (b : Bool) → b ≡ true → label b 0 ≡ label b 1
  same_label b e = ap (λ x. label x 0) e ∙ sym (ap (λ x. label x 1) e)

  same_up : (m : Member) → is_named facts m ≡ true → has m ≡ true → Same model 0 1 m
  same_up (Column c) e f =
      let k = ltb-true c facts.columns e in
      made_at zero_value facts.columns c k ∙ (λ i. Int (pos (cond (sym f i) 0 1))) ∙ sym (made_at bit_value facts.columns c k)
  same_up Left e f = same_label (has Left) f
  same_up Right e f = same_label (has Right) f
  same_up Row e f = absurd (false≢true (sym no_row ∙ f))

  bit_is : (b : Bool) → ◌≡◌ {A = Value} (Int (pos 0)) (Int (pos (cond b 0 1))) → b ≡ true
  bit_is true e = refl
  bit_is false e = cc

  label_is : (b : Bool) → label b 0 ≡ label b 1 → b ≡ true
  label_is true e = refl
  label_is false e = absurd (omega arith)

  same_down : (m : Member) → is_named facts m ≡ true → Same model 0 1 m → has m ≡ true
  same_down (Column c) e f =
      let k = ltb-true c facts.columns e in
      bit_is (has (Column c)) (sym (made_at zero_value facts.columns c k) ∙ f ∙ made_at bit_value facts.columns c k)
  same_down Left e f = label_is (has Left) f
  same_down Right e f = label_is (has Right) f
  same_down Row e f = absurd (omega arith)

  all_up : (X : List Member) → list_all (is_named facts) X ≡ true → list_all has X ≡ true → AllByRecursion (Same model 0 1) X
  all_up [] e f = tt
  all_up (m ∷ X) e f =
      let a = and_parts (is_named facts m) (list_all (is_named facts) X) e in
      let b = and_parts (has m) (list_all has X) f in
      (same_up m a.0 b.0, all_up X a.1 b.1)

  all_down : (X : List Member) → list_all (is_named facts) X ≡ true → AllByRecursion (Same model 0 1) X → list_all has X ≡ true
  all_down [] e a = refl
  all_down (m ∷ X) e a =
      let b = and_parts (is_named facts m) (list_all (is_named facts) X) e in
      λ i. same_down m b.0 a.0 i && all_down X b.1 a.1 i

  fact_holds : (fact : Fact) → IsNamed facts fact → IsClosed has fact → Holds model fact
  fact_holds fact named closed zero zero k l a = same_itself model 0 fact.to
  fact_holds fact named closed zero (suc zero) k l a = all_up fact.to named.1 (closed (all_down fact.from named.0 a))
  fact_holds fact named closed (suc zero) zero k l a = same_back model 0 1 fact.to (all_up fact.to named.1 (closed (all_down fact.from named.0 (same_back model 1 0 fact.from a))))
  fact_holds fact named closed (suc zero) (suc zero) k l a = same_itself model 1 fact.to
  fact_holds fact named closed (suc (suc p)) q k l a = absurd (omega arith)
  fact_holds fact named closed zero (suc (suc q)) k l a = absurd (omega arith)
  fact_holds fact named closed (suc zero) (suc (suc q)) k l a = absurd (omega arith)

  all_hold : (list : List Fact) → AllByRecursion (IsNamed facts) list → AllByRecursion (IsClosed has) list → AllByRecursion (Holds model) list
  all_hold [] named closed = tt
  all_hold (fact ∷ list) named closed = (fact_holds fact named.0 closed.0, all_hold list named.1 closed.1)

-- members to which no fact adds one have each member that they give
pub closed_has : (facts : FactList) (has : Member → Bool) (from : List Member) (m : Member) → (has Row ≡ true → has m ≡ true) → AllByRecursion (IsNamed facts) (side_facts facts.split facts.columns) → AllByRecursion (IsNamed facts) facts.list → AllByRecursion (IsClosed has) (side_facts facts.split facts.columns) → AllByRecursion (IsClosed has) facts.list → list_all (is_named facts) from ≡ true → list_all has from ≡ true → is_named facts m ≡ true → Gives facts from m → has m ≡ true
closed_has facts has from m by_row sides_named named sides_closed closed from_named from_has named_m gives = by (has Row) refl
  where
    by : (b : Bool) → has Row ≡ b → has m ≡ true
    by true e = by_row e
    by false e = same_down facts has e m named_m (gives (model facts has e) (all_hold facts has e (side_facts facts.split facts.columns) sides_named sides_closed) (all_hold facts has e facts.list named closed) 0 1 (omega arith) (omega arith) (all_up facts has e from from_named from_has)).0
