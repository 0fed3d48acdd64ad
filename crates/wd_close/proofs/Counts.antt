-- How many members of a list are in a set.
use Rattle.std.proofs.Common.{◌≡◌, ℕ, ◌+◌, Bool, true, false, cond, ◌&&◌, ◌||◌, List, [], ◌∷◌, length, refl, sym, ◌∙◌, ap, arith, subst, ⊎_elim, ◌⊎◌, inl, inr}
use Rattle.std.specs.List.{count_by}
use Rattle.std.proofs.lemmas.Bool.{false≢true}
use Rattle.std.proofs.lemmas.List.Recursion.{is_count_by}
use Rattle.wd_step_facts.specs.declared.facts.Member.{Member}
use Rattle.wd_sets.specs.Sets.{same_member, stands_in}
use Rattle.wd_close.proofs.Lists.{Apart, all_added_from, all_added_has, apart_all, bool_cases, different, lacking, not_same, or_left, or_right, same_member-is, same_self}

abbrev pub number_in : (Member → Bool) → List Member → ℕ
number_in has [] = 0
number_in has (m ∷ ms) = cond (has m) 1 0 + number_in has ms

pub number_is : (has : Member → Bool) (ms : List Member) → number_in has ms ≡ count_by has ms
number_is has ms = is_count_by (number_in has) has refl (λ x xs. one (has x) (number_in has xs)) ms
  where
    one : (b : Bool) (n : ℕ) → ◌≡◌ {A = ℕ} (cond b 1 0 + n) (cond b (1 + n) n)
    one true n = refl
    one false n = omega arith

pub in_and_lacking : (has : Member → Bool) (q : List Member) → ((x : Member) → has x ≡ stands_in q x) → (d : List Member) → number_in has d + lacking d q ≡ length d
in_and_lacking has q h [] = refl
in_and_lacking has q h (x ∷ d) =
    let u : ◌≡◌ {A = ℕ} (cond (has x) 1 0 + cond (stands_in q x) 0 1) 1 = ap (λ b. cond b 1 0 + cond (stands_in q x) 0 1) (h x) ∙ both (stands_in q x) in
    omega (arith, u, in_and_lacking has q h d)
  where
    both : (b : Bool) → ◌≡◌ {A = ℕ} (cond b 1 0 + cond b 0 1) 1
    both true = refl
    both false = refl

-- ---- different members, sizes among all

and_none : (a : Bool) → (a && false) ≡ false
and_none true = refl
and_none false = refl

and_both : (a b : Bool) → b ≡ true → (a && b) ≡ a
and_both true b e = e
and_both false b e = refl

number_same : (p r : Member → Bool) → ((m : Member) → p m ≡ r m) → (ms : List Member) → number_in p ms ≡ number_in r ms
number_same p r h [] = refl
number_same p r h (m ∷ ms) = λ i. cond (h m i) 1 0 + number_same p r h ms i

number_none : (p : Member → Bool) (ms : List Member) → ((m : Member) → stands_in ms m ≡ true → p m ≡ false) → number_in p ms ≡ 0
number_none p [] h = refl
number_none p (m ∷ ms) h =
    let u : ◌≡◌ {A = ℕ} (cond (p m) 1 0) 0 = ap (λ (b : Bool). cond b 1 0) (h m (or_left (same_member m m) (stands_in ms m) (same_self m))) in
    omega (arith, u, number_none p ms (λ x e. h x (or_right (same_member x m) (stands_in ms x) e)))

-- a member that stands once among others
number_one : (has : Member → Bool) (x : Member) (all : List Member) → Apart all → stands_in all x ≡ true → ◌≡◌ {A = ℕ} (number_in (λ m. has m && same_member m x) all) (cond (has x) 1 0)
number_one has x [] a e = absurd (false≢true e)
number_one has x (y ∷ all) a e = by (number_one has x all a.1) (bool_cases (same_member x y))
  where
    other : x ≡ y → (m : Member) → stands_in all m ≡ true → (same_member m x ≡ true) ⊎ (same_member m x ≡ false) → (has m && same_member m x) ≡ false
    other is m g (inl f) = absurd (false≢true (sym a.0 ∙ ap (λ z. stands_in all z) (sym is ∙ sym (same_member-is m x f)) ∙ g))
    other is m g (inr f) = ap (λ b. has m && b) f ∙ and_none (has m)

    by : (stands_in all x ≡ true → ◌≡◌ {A = ℕ} (number_in (λ m. has m && same_member m x) all) (cond (has x) 1 0)) → (same_member x y ≡ true) ⊎ (same_member x y ≡ false) → ◌≡◌ {A = ℕ} (number_in (λ m. has m && same_member m x) (y ∷ all)) (cond (has x) 1 0)
    by later (inl f) =
        let is : x ≡ y = same_member-is x y f in
        let head : ◌≡◌ {A = ℕ} (cond (has y && same_member y x) 1 0) (cond (has x) 1 0) = subst (λ z. ◌≡◌ {A = ℕ} (cond (has z && same_member z x) 1 0) (cond (has x) 1 0)) is (ap (λ (b : Bool). cond b 1 0) (and_both (has x) (same_member x x) (same_self x))) in
        let rest : number_in (λ m. has m && same_member m x) all ≡ 0 = number_none (λ m. has m && same_member m x) all (λ m g. other is m g (bool_cases (same_member m x))) in
        omega (arith, head, rest)
    by later (inr f) =
        let head : ◌≡◌ {A = ℕ} (cond (has y && same_member y x) 1 0) 0 = ap (λ (b : Bool). cond (has y && b) 1 0) (not_same y x f) ∙ ap (λ (b : Bool). cond b 1 0) (and_none (has y)) in
        omega (arith, head, later (sym (ap (λ b. b || stands_in all x) f) ∙ e))

number_split : (p r s : Member → Bool) → ((m : Member) → ◌≡◌ {A = ℕ} (cond (p m) 1 0) (cond (r m) 1 0 + cond (s m) 1 0)) → (ms : List Member) → number_in p ms ≡ number_in r ms + number_in s ms
number_split p r s h [] = omega arith
number_split p r s h (m ∷ ms) = omega (arith, h m, number_split p r s h ms)

parts_of : (h a b : Bool) → (a ≡ true → b ≡ false) → ◌≡◌ {A = ℕ} (cond (h && (a || b)) 1 0) (cond (h && a) 1 0 + cond (h && b) 1 0)
parts_of false a b f = refl
parts_of true true true f = absurd (false≢true (sym (f refl)))
parts_of true true false f = refl
parts_of true false true f = refl
parts_of true false false f = refl

number_among : (has : Member → Bool) (all : List Member) → Apart all → (d : List Member) → Apart d → ((x : Member) → stands_in d x ≡ true → stands_in all x ≡ true) → number_in has d ≡ number_in (λ m. has m && stands_in d m) all
number_among has all a [] b h = sym (number_none (λ m. has m && false) all (λ m e. and_none (has m)))
number_among has all a (x ∷ d) b h =
    let split = number_split (λ m. has m && (same_member m x || stands_in d m)) (λ m. has m && same_member m x) (λ m. has m && stands_in d m) (λ m. parts_of (has m) (same_member m x) (stands_in d m) (λ e. ap (λ z. stands_in d z) (same_member-is m x e) ∙ b.0)) all in
    let one = number_one has x all a (h x (or_left (same_member x x) (stands_in d x) (same_self x))) in
    omega (arith, split, one, number_among has all a d b.1 (λ y e. h y (or_right (same_member y x) (stands_in d y) e)))

same_truth : (a b : Bool) → (a ≡ true → b ≡ true) → (b ≡ true → a ≡ true) → a ≡ b
same_truth true b f g = sym (f refl)
same_truth false true f g = g refl
same_truth false false f g = refl

-- how many different members of a list are in a set, sizes among all that it may name
pub number_different : (has : Member → Bool) (all : List Member) → Apart all → (from : List Member) → ((x : Member) → stands_in from x ≡ true → stands_in all x ≡ true) → number_in has (different from) ≡ number_in (λ m. has m && stands_in from m) all
number_different has all a from h =
    number_among has all a (different from) (apart_all [] from tt) (λ x e. h x (in_from x e))
    ∙ number_same (λ m. has m && stands_in (different from) m) (λ m. has m && stands_in from m) (λ m. ap (λ b. has m && b) (same_truth (stands_in (different from) m) (stands_in from m) (in_from m) (all_added_has [] from m))) all
  where
    in_from : (x : Member) → stands_in (different from) x ≡ true → stands_in from x ≡ true
    in_from x e = ⊎_elim (λ g. absurd (false≢true g)) (λ g. g) (all_added_from [] from x e)
