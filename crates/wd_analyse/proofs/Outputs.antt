-- Columns by a node's own.
use Rattle.std.proofs.Common.{◌≡◌, ℕ, ◌+◌, ◌-◌, ◌<◌, ◌≤◌, Bool, true, false, cond, ◌&&◌, List, [], ◌∷◌, ◌++◌, length, refl, sym, ◌∙◌, ap, subst, arith, nat_lt, Option, Some, None, option_map, append_assoc}
use Rattle.std.specs.List.{list_all}
use Rattle.std.proofs.lemmas.Bool.{and_parts, false≢true, lt-ltb, ltb-true}
use Rattle.wd_plan.specs.Expressions.{Expression}
use Rattle.wd_plan.specs.Fits.{AreBelow}
use Rattle.wd_step_facts.specs.declared.facts.Member.{Member}
use Rattle.wd_step_facts.specs.declared.facts.Member.TheVariants.{Column, Left, Right, Row}
use Rattle.wd_step_facts.specs.Facts.{Fact, is_plain, is_plain_fact}
use Rattle.wd_step_facts.specs.Steps.{both_copied, copy_from, if_copied, is_side, side_of}
use Rattle.wd_analyse.specs.Sources.{columns_in, left_sides, output_of, outputs_of}
use Rattle.wd_analyse.specs.Steps.{left_sides_by, output_by, outputs_by}

-- some columns, after those of the front
abbrev pub after : List ℕ → Option (List ℕ) → Option (List ℕ)
after front rest = option_map (λ Y. front ++ Y) rest

after_both : (front : List ℕ) (d : ℕ) (rest : Option (List ℕ)) → after (front ++ (d ∷ [])) rest ≡ after front (both_copied (Some d) rest)
after_both front d None = refl
after_both front d (Some Y) = ap Some (append_assoc front (d ∷ []) Y)

module _ (copy : ℕ → Option ℕ) (width : ℕ) (front X : List ℕ) (c : ℕ) where
  pub outputs_next : (d : ℕ) → output_by copy width c ≡ Some d → after (front ++ (d ∷ [])) (outputs_by copy width X) ≡ after front (outputs_by copy width (c ∷ X))
  outputs_next d e = after_both front d (outputs_by copy width X) ∙ ap (λ o. after front (both_copied o (outputs_by copy width X))) (sym e)

  pub outputs_stop : output_by copy width c ≡ None → None ≡ after front (outputs_by copy width (c ∷ X))
  outputs_stop e = ap (λ o. after front (both_copied o (outputs_by copy width X))) (sym e)

-- ---- by the copies among a Map's outputs

outputs_same : (outputs : List Expression) (width : ℕ) (X : List ℕ) → outputs_by (copy_from 0 outputs) width X ≡ outputs_of outputs width X
outputs_same outputs width [] = refl
outputs_same outputs width (c ∷ X) = ap (both_copied (output_of outputs width c)) (outputs_same outputs width X)

sides_same : (outputs : List Expression) (width : ℕ) (facts : List Fact) → left_sides_by (copy_from 0 outputs) width facts ≡ left_sides outputs width facts
sides_same outputs width [] = refl
sides_same outputs width (fact ∷ facts) = λ i. if_copied (outputs_same outputs width (columns_in fact.from) i) (sides_same outputs width facts i)

pub left_sides_same : (copy : ℕ → Option ℕ) (outputs : List Expression) (width : ℕ) (facts : List Fact) → ((c : ℕ) → copy c ≡ copy_from 0 outputs c) → left_sides_by copy width facts ≡ left_sides outputs width facts
left_sides_same copy outputs width facts e = ap (λ f. left_sides_by f width facts) (λ i c. e c i) ∙ sides_same outputs width facts

-- ---- they are the node's own

some_number : (a b : ℕ) → Some a ≡ Some b → a ≡ b
some_number a b h = cc

copy_by : (b : Bool) (x : Expression) (outputs : List Expression) (j c d : ℕ) → (copy_from (j + 1) outputs c ≡ Some d → d < (j + 1) + length outputs) → cond b (Some j) (copy_from (j + 1) outputs c) ≡ Some d → d < j + length (x ∷ outputs)
copy_by true x outputs j c d later h = let same = some_number j d h in omega arith
copy_by false x outputs j c d later h = let l = later h in omega arith

copy_low : (outputs : List Expression) (j c d : ℕ) → copy_from j outputs c ≡ Some d → d < j + length outputs
copy_low [] j c d e = cc
copy_low (x ∷ outputs) j c d e = copy_by (is_side c (side_of x)) x outputs j c d (copy_low outputs (j + 1) c d) e

output_low : (outputs : List Expression) (width c d : ℕ) → length outputs ≤ width → output_of outputs width c ≡ Some d → d < width
output_low outputs width c d h e = by (nat_lt c width) refl e
  where
    by : (b : Bool) → nat_lt c width ≡ b → cond b (Some c) (copy_from 0 outputs (c - width)) ≡ Some d → d < width
    by true f g = let same = some_number c d g in omega (arith, same, ltb-true c width f)
    by false f g = let low = copy_low outputs 0 (c - width) d g in omega (arith, low, h)

cons_low : (width : ℕ) (Y : List ℕ) (a : Option ℕ) (b : Option (List ℕ)) → ((d : ℕ) → a ≡ Some d → d < width) → ((Z : List ℕ) → b ≡ Some Z → AreBelow width Z) → both_copied a b ≡ Some Y → AreBelow width Y
cons_low width Y None b f g e = cc
cons_low width Y (Some d) None f g e = cc
cons_low width Y (Some d) (Some Z) f g e =
    let is : d ∷ Z ≡ Y = cc in
    subst (AreBelow width) is (λ i. lt-ltb d width (f d refl) i && g Z refl i)

none_low : (width : ℕ) (Y : List ℕ) → ◌≡◌ {A = Option (List ℕ)} (Some []) (Some Y) → AreBelow width Y
none_low width Y e = let is : [] ≡ Y = cc in subst (AreBelow width) is refl

pub outputs_low : (outputs : List Expression) (width : ℕ) (X Y : List ℕ) → length outputs ≤ width → outputs_of outputs width X ≡ Some Y → AreBelow width Y
outputs_low outputs width [] Y h e = none_low width Y e
outputs_low outputs width (c ∷ X) Y h e = cons_low width Y (output_of outputs width c) (outputs_of outputs width X) (λ d f. output_low outputs width c d h f) (λ Z f. outputs_low outputs width X Z h f) e

-- the columns of a plain fact's left side
columns_low : (n : ℕ) (X : List Member) → list_all (is_plain n) X ≡ true → list_all (λ c. nat_lt c n) (columns_in X) ≡ true
columns_low n [] e = refl
columns_low n (Column c ∷ X) e = let p = and_parts (nat_lt c n) (list_all (is_plain n) X) e in λ i. p.0 i && columns_low n X p.1 i
columns_low n (Left ∷ X) e = absurd (false≢true e)
columns_low n (Right ∷ X) e = absurd (false≢true e)
columns_low n (Row ∷ X) e = columns_low n X e

pub plain_low : (n : ℕ) (fact : Fact) → is_plain_fact n fact ≡ true → list_all (λ c. nat_lt c n) (columns_in fact.from) ≡ true
plain_low n fact e = columns_low n fact.from (and_parts (list_all (is_plain n) fact.from) (list_all (is_plain n) fact.to) e).0
