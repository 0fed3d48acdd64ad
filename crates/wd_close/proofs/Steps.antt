-- A step of the closure: a member is taken from the queue.
use Rattle.std.proofs.Common.{◌≡◌, ℕ, zero, suc, ◌+◌, ◌-◌, ◌<◌, ◌≤◌, Bool, true, false, cond, List, [], ◌∷◌, take, set, map, length, get_or, slice_get, refl, sym, ◌∙◌, ap, arith, subst, eq-eqb, ◌⊎◌, inl, inr, Some, nat_eq, if◌then◌else◌}
use Rattle.std.proofs.lemmas.Bool.{cases_eq, eqb-true}
use Rattle.std.proofs.lemmas.List.{get_or-set_same, get_or-set_other, length-set}
use Rattle.wd_step_facts.specs.declared.facts.Member.{Member}
use Rattle.wd_step_facts.specs.declared.facts.Member.TheVariants.{Column, Left, Right, Row}
use Rattle.wd_step_facts.specs.Facts.{Fact, FactList}
use Rattle.wd_sets.specs.Sets.{stands_in}
use Rattle.wd_close.specs.Closure.{is_named}
use Rattle.wd_close.specs.Reached.{all_added, fallen, fired, fired_one, is_done, with_fact}
use Rattle.wd_close.proofs.Gives.{Gives}
use Rattle.wd_close.proofs.Lists.{Front, Within, all_added_has, bool_cases, different, front_all, front_self, front_trans, front_within, lacking}
use Rattle.wd_close.proofs.Names.{left_at, right_at}
use Rattle.wd_close.proofs.Queue.{Good, good_all}

-- ---- the facts

with_fact_is : (q : List Member) (list : List Fact) (i : ℕ) → with_fact q (slice_get list i) ≡ all_added q (right_at list i)
with_fact_is q [] i = refl
with_fact_is q (f ∷ fs) zero = refl
with_fact_is q (f ∷ fs) (suc i) = with_fact_is q fs i

abbrev pub sizes : List Fact → List ℕ
sizes facts = map (λ (fact : Fact). length (different fact.from)) facts

pub sizes_at : (list : List Fact) (i : ℕ) → i < length list → get_or (sizes list) i 0 ≡ length (different (left_at list i))
sizes_at [] i h = absurd (omega (arith, h))
sizes_at (f ∷ fs) zero h = refl
sizes_at (f ∷ fs) (suc i) h = sizes_at fs i (omega (arith, h))

-- ---- counters that fall

abbrev pub occurs : ℕ → List ℕ → ℕ
occurs i [] = 0
occurs i (j ∷ js) = cond (nat_eq i j) 1 0 + occurs i js

pub fallen_long : (cs is : List ℕ) → length (fallen cs is) ≡ length cs
fallen_long cs [] = refl
fallen_long cs (i ∷ is) = fallen_long (set cs i (get_or cs i 0 - 1)) is ∙ length-set cs i (get_or cs i 0 - 1)

set_one : (cs : List ℕ) (i j : ℕ) → i < length cs → get_or (set cs j (get_or cs j 0 - 1)) i 0 ≡ get_or cs i 0 - cond (nat_eq i j) 1 0
set_one cs i j h = by (cases_eq i j)
  where
    by : (i ≡ j) ⊎ (i ≡ j → ⊥) → get_or (set cs j (get_or cs j 0 - 1)) i 0 ≡ get_or cs i 0 - cond (nat_eq i j) 1 0
    by (inl e) = subst (λ k. get_or (set cs k (get_or cs k 0 - 1)) i 0 ≡ get_or cs i 0 - cond (nat_eq i k) 1 0) e (get_or-set_same cs i (get_or cs i 0 - 1) 0 h ∙ sym (ap (λ (b : Bool). get_or cs i 0 - cond b 1 0) (eq-eqb i i refl)))
    by (inr ne) = let u : ◌≡◌ {A = ℕ} (cond (nat_eq i j) 1 0) 0 = ap (λ (b : Bool). cond b 1 0) (no (bool_cases (nat_eq i j))) in omega (arith, u, get_or-set_other cs j i (get_or cs j 0 - 1) 0 ne)
      where
        no : (nat_eq i j ≡ true) ⊎ (nat_eq i j ≡ false) → nat_eq i j ≡ false
        no (inl f) = absurd (ne (eqb-true i j f))
        no (inr f) = f

pub fallen_at : (cs is : List ℕ) (i : ℕ) → i < length cs → get_or (fallen cs is) i 0 ≡ get_or cs i 0 - occurs i is
fallen_at cs [] i h = omega arith
fallen_at cs (j ∷ is) i h = omega (arith, fallen_at (set cs j (get_or cs j 0 - 1)) is i (omega (arith, h, length-set cs j (get_or cs j 0 - 1))), set_one cs i j h)

-- ---- facts that fire

module _ (list : List Fact) (cs : List ℕ) where
  pub one_cases : (P : List Member → Type 0) (q : List Member) (i : ℕ) → P q → (is_done cs i ≡ true → P (all_added q (right_at list i))) → P (fired_one list cs q i)
  one_cases P q i p f = by (bool_cases (is_done cs i))
    where
      by : (is_done cs i ≡ true) ⊎ (is_done cs i ≡ false) → P (fired_one list cs q i)
      by (inl e) = subst P (sym (ap (λ (b : Bool). if b then with_fact q (slice_get list i) else q) e ∙ with_fact_is q list i)) (f e)
      by (inr e) = subst P (sym (ap (λ (b : Bool). if b then with_fact q (slice_get list i) else q) e)) p

  one_has : (q : List Member) (i : ℕ) (x : Member) → is_done cs i ≡ true → stands_in (right_at list i) x ≡ true → stands_in (fired_one list cs q i) x ≡ true
  one_has q i x e f = subst (λ r. stands_in r x ≡ true) (sym (ap (λ (b : Bool). if b then with_fact q (slice_get list i) else q) e ∙ with_fact_is q list i)) (all_added_has q (right_at list i) x f)

  pub front_one : (q : List Member) (i : ℕ) → Front q (fired_one list cs q i)
  front_one q i = one_cases (Front q) q i (front_self q) (λ e. front_all q (right_at list i))

  pub front_fired : (q : List Member) (is : List ℕ) → Front q (fired list cs q is)
  front_fired q [] = front_self q
  front_fired q (i ∷ is) = front_trans q (fired_one list cs q i) (fired list cs (fired_one list cs q i) is) (front_one q i) (front_fired (fired_one list cs q i) is)

  pub fired_has : (q : List Member) (is : List ℕ) (i : ℕ) (x : Member) → 0 < occurs i is → is_done cs i ≡ true → stands_in (right_at list i) x ≡ true → stands_in (fired list cs q is) x ≡ true
  fired_has q [] i x h e f = absurd (omega (arith, h))
  fired_has q (j ∷ is) i x h e f = by (λ k. fired_has (fired_one list cs q j) is i x k e f) (bool_cases (nat_eq i j))
    where
      by : (0 < occurs i is → stands_in (fired list cs (fired_one list cs q j) is) x ≡ true) → (nat_eq i j ≡ true) ⊎ (nat_eq i j ≡ false) → stands_in (fired list cs (fired_one list cs q j) is) x ≡ true
      by later (inl g) = front_within (fired_one list cs q j) (fired list cs (fired_one list cs q j) is) (front_fired (fired_one list cs q j) is) x (subst (λ k. stands_in (fired_one list cs q k) x ≡ true) (eqb-true i j g) (one_has q i x e f))
      by later (inr g) = let u : ◌≡◌ {A = ℕ} (cond (nat_eq i j) 1 0) 0 = ap (λ (b : Bool). cond b 1 0) g in later (omega (arith, h, u))

  pub fired_good : (facts : FactList) (from q : List Member) (is : List ℕ) → Good facts from q → ((i : ℕ) (x : Member) → is_done cs i ≡ true → stands_in (right_at list i) x ≡ true → is_named facts x ≡ true) → ((i : ℕ) (x : Member) → is_done cs i ≡ true → stands_in (right_at list i) x ≡ true → Gives facts from x) → Good facts from (fired list cs q is)
  fired_good facts from q [] g n f = g
  fired_good facts from q (i ∷ is) g n f = fired_good facts from (fired_one list cs q i) is (one_cases (Good facts from) q i g (λ e. good_all facts from q (right_at list i) g (λ x. n i x e) (λ x. f i x e))) n f

-- ---- the state

pub record Sides (facts : FactList) (P q : List Member) : Type 0 where
  pub row : stands_in P Row ≡ true → (x : Member) → is_named facts x ≡ true → stands_in q x ≡ true
  pub left : (s : ℕ) → facts.split ≡ Some s → stands_in P Left ≡ true → (c : ℕ) → c < s → stands_in q (Column c) ≡ true
  pub right : (s : ℕ) → facts.split ≡ Some s → stands_in P Right ≡ true → (c : ℕ) → s ≤ c → c < facts.columns → stands_in q (Column c) ≡ true
  pub both : (s : ℕ) → facts.split ≡ Some s → stands_in P Left ≡ true → stands_in P Right ≡ true → stands_in q Row ≡ true

pub record State (facts : FactList) (from : List Member) (k : ℕ) (q : List Member) (cs : List ℕ) : Type 0 where
  pub good : Good facts from q
  pub start : Within from q
  pub reached : k ≤ length q
  pub sides : Sides facts (take k q) q
  pub long : length cs ≡ length facts.list
  pub counts : (i : ℕ) → i < length facts.list → get_or cs i 0 ≡ lacking (different (left_at facts.list i)) (take k q)
  pub fires : (i : ℕ) → i < length facts.list → get_or cs i 0 ≡ 0 → Within (right_at facts.list i) q

-- the facts that stand with each member
pub record Watching (facts : FactList) (watchers : List (List ℕ)) (place : Member → ℕ) : Type 0 where
  pub once : (m : Member) → is_named facts m ≡ true → (i : ℕ) → i < length facts.list → occurs i (get_or watchers (place m) []) ≡ cond (stands_in (different (left_at facts.list i)) m) 1 0
