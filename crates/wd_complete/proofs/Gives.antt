-- What columns give at a node, by the facts there.
use Rattle.std.proofs.Common.{◌≡◌, inl, inr, ℕ, zero, suc, ◌+◌, ◌-◌, ◌<◌, ◌≤◌, Bool, true, false, List, [], ◌∷◌, ◌++◌, get_or, length, map, nat_eq, nat_lt, refl, sym, ◌∙◌, ap, subst, arith, Option, Some, None}
use Rattle.std.specs.List.{AllByRecursion, list_all}
use Rattle.std.proofs.lemmas.Bool.{and_parts, eq-eqb, eqb-true, lt-ltb, ltb-true, false≢true}
use Rattle.wd_plan.specs.Expressions.{Expression, Column}
use Rattle.wd_step_facts.specs.declared.facts.Member.{Member}
use Rattle.wd_step_facts.specs.declared.facts.Member.TheVariants as member
use Rattle.wd_step_facts.specs.Facts.{Fact, FactList, Holds, Same, columns_named, moved}
use Rattle.wd_step_facts.specs.Steps.{both_copied, column_fact, copy_from, if_copied, outputs_facts}
use Rattle.wd_close.specs.Closure.{Follows}
use Rattle.wd_analyse.specs.Evidence.{Closing, IsClosing}
use Rattle.wd_analyse.specs.Sources.{columns_in, left_sides, output_of, outputs_of}
use Rattle.wd_complete.proofs.Lists.{Among, Within, all_at}

-- ---- columns by their names

pub named_at : (S : Member → Type 0) (X : List ℕ) (c : ℕ) → AllByRecursion S (columns_named X) → Among c X → S (member.Column c)
named_at S [] c all at = absurd at
named_at S (x ∷ X) c all (inl e) = subst (λ d. S (member.Column d)) e all.0
named_at S (x ∷ X) c all (inr at) = named_at S X c all.1 at

pub named_from : (S : Member → Type 0) (X : List ℕ) → ((c : ℕ) → Among c X → S (member.Column c)) → AllByRecursion S (columns_named X)
named_from S [] h = tt
named_from S (x ∷ X) h = (h x (inl refl), named_from S X (λ c at. h c (inr at)))

pub moved_from : (S : Member → Type 0) (m : ℕ) (X : List ℕ) → ((c : ℕ) → Among c X → S (member.Column (m + c))) → AllByRecursion S (map (moved (λ c. m + c) member.Row) (columns_named X))
moved_from S m [] h = tt
moved_from S m (x ∷ X) h = (h x (inl refl), moved_from S m X (λ c at. h c (inr at)))

pub columns_named_in : (X : List ℕ) → columns_in (columns_named X) ≡ X
columns_named_in [] = refl
columns_named_in (x ∷ X) = ap (λ l. x ∷ l) (columns_named_in X)

-- columns that give the row
abbrev pub row_fact : List ℕ → Fact
row_fact X = record { from = columns_named X; to = member.Row ∷ [] }

-- ---- what follows

module _ (facts : FactList) where
  pub follows_own : (X : List ℕ) (c : ℕ) → Among c X → Follows facts X (member.Column c)
  follows_own X c at n sides list p q hp hq same = (named_at (Same n p q) X c same at, tt)

  -- a fact that fewer columns give the row
  pub row_follows : (X Y : List ℕ) → Among (row_fact Y) facts.list → Within Y X → Follows facts X member.Row
  row_follows X Y at within n sides list p q hp hq same =
      all_at (Holds n) (row_fact Y) facts.list list at p q hp hq (named_from (Same n p q) Y (λ c a. named_at (Same n p q) X c same (within c a)))

  pub has_row : (c : Closing) → IsClosing facts c → Follows facts c.from member.Row → c.has member.Row ≡ true
  has_row c is follows = (is.members member.Row).1 (refl, follows)

  pub has_own : (c : Closing) → IsClosing facts c → (d : ℕ) → d < facts.columns → Among d c.from → c.has (member.Column d) ≡ true
  has_own c is d low at = (is.members (member.Column d)).1 (lt-ltb d facts.columns low, follows_own c.from d at)

-- ---- left sides by a node's own columns

module _ (outputs : List Expression) (width : ℕ) where
  pub left_among : (facts : List Fact) (fact : Fact) (Y : List ℕ) → Among fact facts → outputs_of outputs width (columns_in fact.from) ≡ Some Y → Among Y (left_sides outputs width facts)
  left_among [] fact Y at e = absurd at
  left_among (f ∷ facts) fact Y (inl g) e =
      let here : outputs_of outputs width (columns_in f.from) ≡ Some Y = ap (λ (x : Fact). outputs_of outputs width (columns_in x.from)) g ∙ e in
      subst (λ o. Among Y (if_copied o (left_sides outputs width facts))) (sym here) (inl refl)
  left_among (f ∷ facts) fact Y (inr at) e = by (outputs_of outputs width (columns_in f.from)) (left_among facts fact Y at e)
    where
      by : (o : Option (List ℕ)) → Among Y (left_sides outputs width facts) → Among Y (if_copied o (left_sides outputs width facts))
      by None a = a
      by (Some Z) a = inr a

  one_more : (o : Option (List ℕ)) (xs ys : List (List ℕ)) → if_copied o (xs ++ ys) ≡ if_copied o xs ++ ys
  one_more None xs ys = refl
  one_more (Some Z) xs ys = refl

  pub left_append : (facts others : List Fact) → left_sides outputs width (facts ++ others) ≡ left_sides outputs width facts ++ left_sides outputs width others
  left_append [] others = refl
  left_append (f ∷ facts) others =
      ap (if_copied (outputs_of outputs width (columns_in f.from))) (left_append facts others) ∙ one_more (outputs_of outputs width (columns_in f.from)) (left_sides outputs width facts) (left_sides outputs width others)

  pub left_short : (facts : List Fact) → length (left_sides outputs width facts) ≤ length facts
  left_short [] = omega arith
  left_short (f ∷ facts) = by (outputs_of outputs width (columns_in f.from)) (left_short facts)
    where
      by : (o : Option (List ℕ)) → length (left_sides outputs width facts) ≤ length facts → length (if_copied o (left_sides outputs width facts)) ≤ length (f ∷ facts)
      by None h = omega (arith, h)
      by (Some Z) h = omega (arith, h)

-- columns of a table are its own
pub own_columns : (width : ℕ) (X : List ℕ) → list_all (λ c. nat_lt c width) X ≡ true → outputs_of [] width X ≡ Some X
own_columns width [] e = refl
own_columns width (x ∷ X) e =
    let p = and_parts (nat_lt x width) (list_all (λ c. nat_lt c width) X) e in
    let here : output_of [] width x ≡ Some x = rw p.0 refl in
    λ i. both_copied (here i) (own_columns width X p.1 i)

-- ---- copies

module _ (read : List ℕ) where
  -- the output with this number shows the column
  pub record IsCopy (c j : ℕ) : Type 0 where
    pub within : j < length read
    pub is : get_or read j 0 ≡ c

pub record IsCopiedFrom (read : List ℕ) (n c : ℕ) : Type 0 where
  pub number : ℕ
  pub copy : IsCopy read c number
  pub found : copy_from n (map Column read) c ≡ Some (n + number)

pub copy_found : (n : ℕ) (read : List ℕ) (c : ℕ) → Among c read → IsCopiedFrom read n c
copy_found n [] c at = absurd at
copy_found n (d ∷ read) c at = by (nat_eq c d) refl at (copy_found (n + 1) read c)
  where
    here : nat_eq c d ≡ true → copy_from n (map Column (d ∷ read)) c ≡ Some n
    here e = rw e refl

    there : nat_eq c d ≡ false → copy_from n (map Column (d ∷ read)) c ≡ copy_from (n + 1) (map Column read) c
    there e = rw e refl

    by : (b : Bool) → nat_eq c d ≡ b → Among c (d ∷ read) → (Among c read → IsCopiedFrom read (n + 1) c) → IsCopiedFrom (d ∷ read) n c
    by true e a later =
        let same = eqb-true c d e in
        let zero_more : n ≡ n + 0 = omega arith in
        record { number = 0; copy = record { within = omega arith; is = sym same }; found = here e ∙ ap Some zero_more }
    by false e (inl f) later = absurd (false≢true (sym e ∙ eq-eqb c d (sym f)))
    by false e (inr a) later =
        let k = later a in
        let more : n + 1 + k.number ≡ n + suc k.number = omega arith in
        record { number = suc k.number; copy = record { within = (let w = k.copy.within in omega (arith, w)); is = k.copy.is }; found = there e ∙ k.found ∙ ap Some more }

-- columns and the outputs that copy them
pub record AreCopies (read X Y : List ℕ) : Type 0 where
  pub each : (y : ℕ) → Among y Y → (y < length read) × Among (get_or read y 0) X
  pub found : (c : ℕ) → Among c X → (y : ℕ) × Among y Y × IsCopy read c y

pub record HaveCopies (read : List ℕ) (m : ℕ) (X : List ℕ) : Type 0 where
  pub copies : List ℕ
  pub are : AreCopies read X copies
  pub is : outputs_of (map Column read) m (columns_in (map (moved (λ c. m + c) member.Row) (columns_named X))) ≡ Some copies

pub have_copies : (read : List ℕ) (m : ℕ) (X : List ℕ) → Within X read → HaveCopies read m X
have_copies read m [] within = record { copies = []; are = record { each = λ y at. absurd at; found = λ c at. absurd at }; is = refl }
have_copies read m (x ∷ X) within =
    let k = copy_found 0 read x (within x (inl refl)) in
    let rest = have_copies read m X (λ c at. within c (inr at)) in
    let high : nat_lt (m + x) m ≡ false = not_below m x in
    let back : (m + x) - m ≡ x = omega arith in
    let zero_less : 0 + k.number ≡ k.number = omega arith in
    let here : output_of (map Column read) m (m + x) ≡ Some k.number = rw high (ap (copy_from 0 (map Column read)) back ∙ k.found ∙ ap Some zero_less) in
    record {
      copies = k.number ∷ rest.copies;
      are = record { each = each k.number k.copy rest.copies rest.are; found = found k.number k.copy rest.copies rest.are };
      is = λ i. both_copied (here i) (rest.is i);
    }
  where
    not_below : (m x : ℕ) → nat_lt (m + x) m ≡ false
    not_below m x = by (nat_lt (m + x) m) refl
      where
        by : (b : Bool) → nat_lt (m + x) m ≡ b → nat_lt (m + x) m ≡ false
        by true e = absurd (omega (arith, ltb-true (m + x) m e))
        by false e = e

    each : (n : ℕ) → IsCopy read x n → (Y : List ℕ) → AreCopies read X Y → (y : ℕ) → Among y (n ∷ Y) → (y < length read) × Among (get_or read y 0) (x ∷ X)
    each n copy Y are y (inl e) = (subst (λ k. k < length read) e copy.within, inl (sym (subst (λ k. get_or read k 0 ≡ x) e copy.is)))
    each n copy Y are y (inr at) = let r = are.each y at in (r.0, inr r.1)

    found : (n : ℕ) → IsCopy read x n → (Y : List ℕ) → AreCopies read X Y → (c : ℕ) → Among c (x ∷ X) → (y : ℕ) × Among y (n ∷ Y) × IsCopy read c y
    found n copy Y are c (inl e) = (n, inl refl, record { within = copy.within; is = copy.is ∙ e })
    found n copy Y are c (inr at) = let r = are.found c at in (r.0, inr r.1, r.2)

-- an output that copies a column gives it
pub copy_given : (m j : ℕ) (read : List ℕ) (k : ℕ) → k < length read → Among (column_fact (j + k) (m + get_or read k 0)) (outputs_facts m j (map Column read))
copy_given m j [] k h = absurd (omega (arith, h))
copy_given m j (d ∷ read) zero h = let zero_more : j ≡ j + 0 = omega arith in inr (inl (ap (λ n. column_fact n (m + d)) zero_more))
copy_given m j (d ∷ read) (suc k) h =
    let more : j + 1 + k ≡ j + suc k = omega arith in
    inr (inr (subst (λ n. Among (column_fact n (m + get_or read k 0)) (outputs_facts m (j + 1) (map Column read))) more (copy_given m (j + 1) read k (omega (arith, h)))))
