-- Elements, each once, pass the tests that they passed.
use Rattle.std.proofs.Common.{◌≡◌, ℕ, Bool, true, false, cond, not, ◌&&◌, ◌||◌, List, [], ◌∷◌, map, filter, refl, sym, ◌∙◌, ap, subst, ⊎_elim}
use Rattle.std.specs.List.{list_all, list_any}
use Rattle.std.proofs.lemmas.Bool.{eqb-true, false≢true, or_cases, and_parts}
use Rattle.std.proofs.lemmas.List.Folds.{list_all-map}
use Rattle.wd_certificate.specs.declared.certificate.Target.{Target}
use Rattle.wd_certificate.specs.declared.certificate.Target.TheVariants as target
use Rattle.wd_step_facts.specs.declared.facts.Member.{Member}
use Rattle.wd_step_facts.specs.declared.facts.Member.TheVariants as member
use Rattle.wd_step_facts.specs.Facts.{columns_named}
use Rattle.wd_sets.specs.Sets.{same_member, stands_in}
use Rattle.wd_rules.specs.Rules.{member_of}
use Rattle.wd_traces.specs.Once.{columns_once, once, once_after}

-- ---- one more

-- what was met before
pub once_met : {X : Type 0} (name : X → Member) (met : Member → Bool) (x : X) (xs : List X) → met (name x) ≡ true → once_after name met (x ∷ xs) ≡ once_after name met xs
once_met name met x xs e = ap (λ b. cond b (once_after name met xs) (x ∷ once_after name (λ m. same_member m (name x) || met m) xs)) e

-- what was not
pub once_new : {X : Type 0} (name : X → Member) (met more : Member → Bool) (x : X) (xs : List X) → met (name x) ≡ false → ((m : Member) → more m ≡ (same_member m (name x) || met m)) → once_after name met (x ∷ xs) ≡ x ∷ once_after name more xs
once_new name met more x xs e h =
    ap (λ b. cond b (once_after name met xs) (x ∷ once_after name (λ m. same_member m (name x) || met m) xs)) e
    ∙ (λ i. x ∷ once_after name (λ m. sym (h m) i) xs)

-- nothing was met before the first
pub once_first : {X : Type 0} (name : X → Member) (met : Member → Bool) (xs : List X) → ((m : Member) → met m ≡ false) → once_after name met xs ≡ once name xs
once_first name met xs h = λ i. once_after name (λ m. h m i) xs

-- ---- tests

and_and : (a b c : Bool) → (a && (b && c)) ≡ ((a && b) && c)
and_and true b c = refl
and_and false b c = refl

-- elements of one name are one
abbrev pub IsName : {X : Type 0} → (X → Member) → Type 0
IsName {X = X} name = (x y : X) → same_member (name x) (name y) ≡ true → x ≡ y

module _ {X : Type 0} (name : X → Member) (is_name : IsName name) (t : X → Bool) where
  -- those that were met passed
  abbrev Passed : (Member → Bool) → Bool → Type 0
  Passed met b = (x : X) → met (name x) ≡ true → b ≡ true → t x ≡ true

  after_all : (met : Member → Bool) (b : Bool) → Passed met b → (xs : List X) → (b && list_all t (once_after name met xs)) ≡ (b && list_all t xs)
  after_all met b h [] = refl
  after_all met b h (x ∷ xs) = by (met (name x)) refl (after_all met b h xs) (after_all more (b && t x) passed xs)
    where
      more : Member → Bool
      more m = same_member m (name x) || met m

      passed : Passed more (b && t x)
      passed y e f =
          let both = and_parts b (t x) f in
          ⊎_elim (λ s. subst (λ z. t z ≡ true) (sym (is_name y x s)) both.1) (λ m. h y m both.0) (or_cases (same_member (name y) (name x)) (met (name y)) e)

      was : (c : Bool) → (c ≡ true → t x ≡ true) → (c && list_all t xs) ≡ (c && (t x && list_all t xs))
      was true g = λ i. sym (g refl) i && list_all t xs
      was false g = refl

      by : (m : Bool) → met (name x) ≡ m → (b && list_all t (once_after name met xs)) ≡ (b && list_all t xs) → ((b && t x) && list_all t (once_after name more xs)) ≡ ((b && t x) && list_all t xs)
          → (b && list_all t (cond m (once_after name met xs) (x ∷ once_after name more xs))) ≡ (b && (t x && list_all t xs))
      by true e same later = same ∙ was b (h x e)
      by false e same later = and_and b (t x) (list_all t (once_after name more xs)) ∙ later ∙ sym (and_and b (t x) (list_all t xs))

  pub once_all : (xs : List X) → list_all t (once name xs) ≡ list_all t xs
  once_all xs = after_all (λ m. false) true (λ x e f. absurd (false≢true e)) xs

-- ---- lists of members that pass the same tests

abbrev pub IsAlike : List Member → List Member → Type 0
IsAlike X Y = (t : Member → Bool) → list_all t X ≡ list_all t Y

not_not : (b : Bool) → b ≡ not (not b)
not_not true = refl
not_not false = refl

any_is : {X : Type 0} (t : X → Bool) (xs : List X) → list_any t xs ≡ not (list_all (λ x. not (t x)) xs)
any_is t [] = refl
any_is t (x ∷ xs) = by (t x) (any_is t xs)
  where
    by : (b : Bool) → list_any t xs ≡ not (list_all (λ x. not (t x)) xs) → (b || list_any t xs) ≡ not (not b && list_all (λ x. not (t x)) xs)
    by true e = refl
    by false e = e

pub alike_stand : (X Y : List Member) → IsAlike X Y → (m : Member) → stands_in X m ≡ stands_in Y m
alike_stand X Y h m = any_is (same_member m) X ∙ ap not (h (λ x. not (same_member m x))) ∙ sym (any_is (same_member m) Y)

pub alike_map : (f : Member → Member) (X Y : List Member) → IsAlike X Y → IsAlike (map f X) (map f Y)
alike_map f X Y h t = list_all-map t f X ∙ h (λ m. t (f m)) ∙ sym (list_all-map t f Y)

all_filter : (t q : Member → Bool) (X : List Member) → list_all t (filter q X) ≡ list_all (λ m. not (q m) || t m) X
all_filter t q [] = refl
all_filter t q (x ∷ X) = by (q x) (all_filter t q X)
  where
    by : (b : Bool) → list_all t (filter q X) ≡ list_all (λ m. not (q m) || t m) X → list_all t (cond b (x ∷ filter q X) (filter q X)) ≡ ((not b || t x) && list_all (λ m. not (q m) || t m) X)
    by true e = ap (λ r. t x && r) e
    by false e = e

pub alike_filter : (q : Member → Bool) (X Y : List Member) → IsAlike X Y → IsAlike (filter q X) (filter q Y)
alike_filter q X Y h t = all_filter t q X ∙ h (λ m. not (q m) || t m) ∙ sym (all_filter t q Y)

-- ---- columns and targets, each once

column_name : IsName (λ (c : ℕ). member.Column c)
column_name c d e = eqb-true c d e

target_name : IsName member_of
target_name (target.Column c) (target.Column d) e = ap (λ n. target.Column n) (eqb-true c d e)
target_name (target.Column c) target.Row e = absurd (false≢true e)
target_name target.Row (target.Column d) e = absurd (false≢true e)
target_name target.Row target.Row e = refl

pub columns_all : (t : ℕ → Bool) (columns : List ℕ) → list_all t columns ≡ list_all t (columns_once columns)
columns_all t columns = sym (once_all (λ c. member.Column c) column_name t columns)

pub targets_all : (t : Target → Bool) (to : List Target) → list_all t to ≡ list_all t (once member_of to)
targets_all t to = sym (once_all member_of target_name t to)

pub columns_alike : (columns : List ℕ) → IsAlike (columns_named columns) (columns_named (columns_once columns))
columns_alike columns t = list_all-map t (λ c. member.Column c) columns ∙ columns_all (λ c. t (member.Column c)) columns ∙ sym (list_all-map t (λ c. member.Column c) (columns_once columns))

pub targets_alike : (to : List Target) → IsAlike (map member_of to) (map member_of (once member_of to))
targets_alike to t = list_all-map t member_of to ∙ targets_all (λ x. t (member_of x)) to ∙ sym (list_all-map t member_of (once member_of to))
