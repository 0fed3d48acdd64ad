-- Which facts stand with a member.
use Rattle.std.proofs.Common.{◌≡◌, ℕ, zero, suc, ◌+◌, ◌<◌, Bool, true, false, cond, ◌||◌, List, [], ◌∷◌, ◌++◌, set, map, length, get_or, replicate, refl, sym, ◌∙◌, ap, arith, subst, eq-eqb, ◌⊎◌, inl, inr, nat_eq, if◌then◌else◌}
use Rattle.std.proofs.lemmas.Bool.{false≢true, ltb-true, eqb-true}
use Rattle.std.proofs.lemmas.List.{get_or-map, get_or-replicate, get_or-set_same, get_or-set_other, length-replicate, length-set, length_push, map-set}
use Rattle.wd_step_facts.specs.declared.facts.Member.{Member}
use Rattle.wd_step_facts.specs.declared.facts.Member.TheVariants.{Column, Left, Right, Row}
use Rattle.wd_step_facts.specs.Facts.{Fact, FactList}
use Rattle.wd_sets.specs.Sets.{place, same_member, stands_in}
use Rattle.wd_close.specs.Closure.{is_named}
use Rattle.wd_close.specs.Reached.{watched_one}
use Rattle.wd_close.proofs.Lists.{Apart, apart_all, bool_cases, different, same_member-is, same_self}
use Rattle.wd_close.proofs.Names.{left_at}
use Rattle.wd_close.proofs.Steps.{Watching, occurs}

pub watched_is : {X : Type 0} (f : X → List ℕ) (xs : List X) (i : ℕ) (old new : X) (n p : ℕ) → i < length xs → old ≡ get_or xs i old → f new ≡ f old ++ n ∷ [] → i ≡ p → map f (set xs i new) ≡ set (map f xs) p (get_or (map f xs) p [] ++ n ∷ [])
watched_is f xs i old new n p h e g is =
    map-set f xs i new
    ∙ ap (set (map f xs) i) (g ∙ ap (λ l. l ++ n ∷ []) (ap f e ∙ sym (get_or-map f xs i old [] h)))
    ∙ ap (λ q. set (map f xs) q (get_or (map f xs) q [] ++ n ∷ [])) is

-- a fact with each of these members, each of which stands there once
abbrev pub put_each : List (List ℕ) → ℕ → List Member → List (List ℕ)
put_each W i [] = W
put_each W i (m ∷ ms) = put_each (watched_one W i m) i ms

-- each fact, from this number on, with the different members of its left side
abbrev pub put_all : List (List ℕ) → ℕ → List Fact → List (List ℕ)
put_all W i [] = W
put_all W i (fact ∷ facts) = put_all (put_each W i (different fact.from)) (i + 1) facts

pub place_is : (a b : Member) → place a ≡ place b → a ≡ b
place_is (Column c) (Column d) e = ap Column (omega (arith, e))
place_is (Column c) Left e = absurd (omega (arith, e))
place_is (Column c) Right e = absurd (omega (arith, e))
place_is (Column c) Row e = absurd (omega (arith, e))
place_is Left (Column d) e = absurd (omega (arith, e))
place_is Left Left e = refl
place_is Left Right e = absurd (omega (arith, e))
place_is Left Row e = absurd (omega (arith, e))
place_is Right (Column d) e = absurd (omega (arith, e))
place_is Right Left e = absurd (omega (arith, e))
place_is Right Right e = refl
place_is Right Row e = absurd (omega (arith, e))
place_is Row (Column d) e = absurd (omega (arith, e))
place_is Row Left e = absurd (omega (arith, e))
place_is Row Right e = absurd (omega (arith, e))
place_is Row Row e = refl

occurs_push : (j i : ℕ) (l : List ℕ) → occurs j (l ++ i ∷ []) ≡ occurs j l + cond (nat_eq j i) 1 0
occurs_push j i [] = omega arith
occurs_push j i (x ∷ l) = omega (arith, occurs_push j i l)

pub each_long : (W : List (List ℕ)) (i : ℕ) (d : List Member) → length (put_each W i d) ≡ length W
each_long W i [] = refl
each_long W i (x ∷ d) = each_long (watched_one W i x) i d ∙ length-set W (place x) (get_or W (place x) [] ++ i ∷ [])

-- an element after a list, or none
abbrev pub with_if : Bool → List ℕ → ℕ → List ℕ
with_if b l i = if b then l ++ i ∷ [] else l

one_is : (W : List (List ℕ)) (i : ℕ) (x m : Member) → place m < length W → get_or (watched_one W i x) (place m) [] ≡ with_if (same_member m x) (get_or W (place m) []) i
one_is W i x m h = by (bool_cases (same_member m x))
  where
    by : (same_member m x ≡ true) ⊎ (same_member m x ≡ false) → get_or (watched_one W i x) (place m) [] ≡ with_if (same_member m x) (get_or W (place m) []) i
    by (inl e) =
        subst (λ y. get_or (watched_one W i y) (place m) [] ≡ get_or W (place m) [] ++ i ∷ []) (same_member-is m x e) (get_or-set_same W (place m) (get_or W (place m) [] ++ i ∷ []) [] h)
        ∙ sym (ap (λ b. with_if b (get_or W (place m) []) i) e)
    by (inr e) =
        get_or-set_other W (place x) (place m) (get_or W (place x) [] ++ i ∷ []) [] (λ g. false≢true (sym e ∙ ap (same_member m) (sym (place_is m x g)) ∙ same_self m))
        ∙ sym (ap (λ b. with_if b (get_or W (place m) []) i) e)

pub each_is : (W : List (List ℕ)) (i : ℕ) (d : List Member) (m : Member) → place m < length W → Apart d → get_or (put_each W i d) (place m) [] ≡ with_if (stands_in d m) (get_or W (place m) []) i
each_is W i [] m h a = refl
each_is W i (x ∷ d) m h a =
    each_is (watched_one W i x) i d m (omega (arith, h, length-set W (place x) (get_or W (place x) [] ++ i ∷ []))) a.1
    ∙ ap (λ l. with_if (stands_in d m) l i) (one_is W i x m h)
    ∙ by (bool_cases (same_member m x))
  where
    by : (same_member m x ≡ true) ⊎ (same_member m x ≡ false) → with_if (stands_in d m) (with_if (same_member m x) (get_or W (place m) []) i) i ≡ with_if (same_member m x || stands_in d m) (get_or W (place m) []) i
    by (inl e) =
        let no : stands_in d m ≡ false = ap (stands_in d) (same_member-is m x e) ∙ a.0 in
        (λ j. with_if (no j) (with_if (e j) (get_or W (place m) []) i) i) ∙ sym (ap (λ b. with_if (b || stands_in d m) (get_or W (place m) []) i) e)
    by (inr e) = (λ j. with_if (stands_in d m) (with_if (e j) (get_or W (place m) []) i) i) ∙ sym (ap (λ b. with_if (b || stands_in d m) (get_or W (place m) []) i) e)

each_at : (W : List (List ℕ)) (i j : ℕ) (d : List Member) (m : Member) → place m < length W → Apart d → occurs j (get_or (put_each W i d) (place m) []) ≡ occurs j (get_or W (place m) []) + cond (stands_in d m) (cond (nat_eq j i) 1 0) 0
each_at W i j d m h a = ap (occurs j) (each_is W i d m h a) ∙ by (stands_in d m)
  where
    by : (b : Bool) → occurs j (with_if b (get_or W (place m) []) i) ≡ occurs j (get_or W (place m) []) + cond b (cond (nat_eq j i) 1 0) 0
    by true = occurs_push j i (get_or W (place m) [])
    by false = omega arith

pub each_length : (W : List (List ℕ)) (i : ℕ) (d : List Member) (m : Member) → place m < length W → Apart d → length (get_or (put_each W i d) (place m) []) ≡ length (get_or W (place m) []) + cond (stands_in d m) 1 0
each_length W i d m h a = ap length (each_is W i d m h a) ∙ by (stands_in d m)
  where
    by : (b : Bool) → length (with_if b (get_or W (place m) []) i) ≡ length (get_or W (place m) []) + cond b 1 0
    by true = length_push (get_or W (place m) []) i
    by false = omega arith

pub apart_left : (f : Fact) → Apart (different f.from)
apart_left f = apart_all [] f.from tt

off : (b : Bool) (j i : ℕ) → (j ≡ i → ⊥) → ◌≡◌ {A = ℕ} (cond b (cond (nat_eq j i) 1 0) 0) 0
off b j i ne = both b ∙ ap (λ (c : Bool). cond c 1 0) (no (bool_cases (nat_eq j i))) ∙ refl
  where
    no : (nat_eq j i ≡ true) ⊎ (nat_eq j i ≡ false) → nat_eq j i ≡ false
    no (inl f) = absurd (ne (eqb-true j i f))
    no (inr f) = f

    both : (b : Bool) → ◌≡◌ {A = ℕ} (cond b (cond (nat_eq j i) 1 0) 0) (cond (nat_eq j i) 1 0)
    both true = refl
    both false = sym (ap (λ (c : Bool). cond c 1 0) (no (bool_cases (nat_eq j i))))

on : (b : Bool) (j i : ℕ) → j ≡ i → ◌≡◌ {A = ℕ} (cond b (cond (nat_eq j i) 1 0) 0) (cond b 1 0)
on b j i e = ap (λ (c : Bool). cond b (cond c 1 0) 0) (eq-eqb j i e)

watched_past : (W : List (List ℕ)) (i j : ℕ) (fs : List Fact) (m : Member) → place m < length W → j < i → occurs j (get_or (put_all W i fs) (place m) []) ≡ occurs j (get_or W (place m) [])
watched_past W i j [] m h k = refl
watched_past W i j (f ∷ fs) m h k = watched_past (put_each W i (different f.from)) (i + 1) j fs m (omega (arith, h, each_long W i (different f.from))) (omega (arith, k)) ∙ omega (arith, each_at W i j (different f.from) m h (apart_left f), off (stands_in (different f.from) m) j i (omega (arith, k)))

pub watched_at : (W : List (List ℕ)) (i t j : ℕ) (fs : List Fact) (m : Member) → place m < length W → j ≡ i + t → t < length fs → occurs j (get_or (put_all W i fs) (place m) []) ≡ occurs j (get_or W (place m) []) + cond (stands_in (different (left_at fs t)) m) 1 0
watched_at W i t j [] m h e k = absurd (omega (arith, k))
watched_at W i zero j (f ∷ fs) m h e k = watched_past (put_each W i (different f.from)) (i + 1) j fs m (omega (arith, h, each_long W i (different f.from))) (omega (arith, e)) ∙ omega (arith, each_at W i j (different f.from) m h (apart_left f), on (stands_in (different f.from) m) j i (omega (arith, e)))
watched_at W i (suc t) j (f ∷ fs) m h e k =
    watched_at (put_each W i (different f.from)) (i + 1) t j fs m (omega (arith, h, each_long W i (different f.from))) (omega (arith, e)) (omega (arith, k))
    ∙ omega (arith, each_at W i j (different f.from) m h (apart_left f), off (stands_in (different f.from) m) j i (omega (arith, e)))

pub place_lt : (facts : FactList) (m : Member) → is_named facts m ≡ true → place m < facts.columns + 3
place_lt facts (Column c) e = omega (arith, ltb-true c facts.columns e)
place_lt facts Left e = omega arith
place_lt facts Right e = omega arith
place_lt facts Row e = omega arith

pub is_watching : (facts : FactList) → Watching facts (put_all (replicate (facts.columns + 3) []) 0 facts.list) place
is_watching facts = record { once = once }
  where
    once : (m : Member) → is_named facts m ≡ true → (i : ℕ) → i < length facts.list → occurs i (get_or (put_all (replicate (facts.columns + 3) []) 0 facts.list) (place m) []) ≡ cond (stands_in (different (left_at facts.list i)) m) 1 0
    once m n i h =
        let blank : List (List ℕ) = replicate (facts.columns + 3) [] in
        let long : length blank ≡ facts.columns + 3 = length-replicate (facts.columns + 3) [] in
        let none : occurs i (get_or blank (place m) []) ≡ 0 = ap (occurs i) (get_or-replicate (facts.columns + 3) (place m) [] [] (place_lt facts m n)) in
        omega (arith, none, watched_at blank 0 i i facts.list m (omega (arith, long, place_lt facts m n)) (omega arith) h)
