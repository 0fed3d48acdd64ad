-- Columns, each once, are the same columns.
use Rattle.std.proofs.Common.{◌≡◌, ℕ, Bool, true, false, cond, ◌&&◌, ◌||◌, List, [], ◌∷◌, ◌++◌, append_assoc, refl, sym, ◌∙◌, ap, subst}
use Rattle.std.specs.List.{list_all}
use Rattle.std.proofs.lemmas.Bool.{and_parts}
use Rattle.wd_step_facts.specs.declared.facts.Member.{Member}
use Rattle.wd_step_facts.specs.declared.facts.Member.TheVariants as member
use Rattle.wd_step_facts.specs.Facts.{columns_named}
use Rattle.wd_sets.specs.Sets.{is_in, same_member, stands_in}
use Rattle.wd_rules.proofs.Traces.{same_member-is}
use Rattle.wd_analyse.specs.Evidence.{met_with, once, once_after}

-- ---- one column more

pub met_next : (met : List ℕ) (c : ℕ) (X : List ℕ) → met_with met c ++ once_after (met_with met c) X ≡ met ++ once_after met (c ∷ X)
met_next met c X = by (is_in met c)
  where
    by : (b : Bool) → cond b met (met ++ c ∷ []) ++ once_after (cond b met (met ++ c ∷ [])) X ≡ met ++ cond b (once_after met X) (c ∷ once_after (met ++ c ∷ []) X)
    by true = refl
    by false = append_assoc met (c ∷ []) (once_after (met ++ c ∷ []) X)

-- ---- what passes a test

once_all_after : (t : ℕ → Bool) (met X : List ℕ) → list_all t X ≡ true → list_all t (once_after met X) ≡ true
once_all_after t met [] e = refl
once_all_after t met (c ∷ X) e =
    let parts = and_parts (t c) (list_all t X) e in
    by (is_in met c) parts.0 (once_all_after t met X parts.1) (once_all_after t (met ++ c ∷ []) X parts.1)
  where
    by : (b : Bool) → t c ≡ true → list_all t (once_after met X) ≡ true → list_all t (once_after (met ++ c ∷ []) X) ≡ true → list_all t (cond b (once_after met X) (c ∷ once_after (met ++ c ∷ []) X)) ≡ true
    by true own left more = left
    by false own left more = λ i. own i && more i

pub once_all : (t : ℕ → Bool) (X : List ℕ) → list_all t X ≡ true → list_all t (once X) ≡ true
once_all t X e = once_all_after t [] X e

-- ---- members

or_assoc : (a b c : Bool) → ((a || b) || c) ≡ (a || (b || c))
or_assoc true b c = refl
or_assoc false b c = refl

or_none : (b : Bool) → (b || false) ≡ b
or_none true = refl
or_none false = refl

-- what was met before
or_met : (a s x : Bool) → (s ≡ true → a ≡ true) → (a || x) ≡ (a || (s || x))
or_met true s x h = refl
or_met false true x h = ap (λ b. b || x) (h refl)
or_met false false x h = refl

in_columns : (X : List ℕ) (c : ℕ) → stands_in (columns_named X) (member.Column c) ≡ is_in X c
in_columns [] c = refl
in_columns (d ∷ X) c = ap (λ b. same_member (member.Column c) (member.Column d) || b) (in_columns X c)

module _ (m : Member) where
  abbrev In : List ℕ → Bool
  In X = stands_in (columns_named X) m

  in_one_more : (met : List ℕ) (c : ℕ) → In (met ++ c ∷ []) ≡ (In met || same_member m (member.Column c))
  in_one_more [] c = or_none (same_member m (member.Column c))
  in_one_more (d ∷ met) c = ap (λ b. same_member m (member.Column d) || b) (in_one_more met c) ∙ sym (or_assoc (same_member m (member.Column d)) (In met) (same_member m (member.Column c)))

  was_met : (met : List ℕ) (c : ℕ) → is_in met c ≡ true → same_member m (member.Column c) ≡ true → In met ≡ true
  was_met met c e s = subst (λ n. stands_in (columns_named met) n ≡ true) (sym (same_member-is m (member.Column c) s)) (in_columns met c ∙ e)

  in_once : (met X : List ℕ) → (In met || In (once_after met X)) ≡ (In met || In X)
  in_once met [] = refl
  in_once met (c ∷ X) = by (is_in met c) refl (in_once met X) (in_once (met ++ c ∷ []) X)
    where
      by : (b : Bool) → is_in met c ≡ b → (In met || In (once_after met X)) ≡ (In met || In X) → (In (met ++ c ∷ []) || In (once_after (met ++ c ∷ []) X)) ≡ (In (met ++ c ∷ []) || In X)
          → (In met || In (cond b (once_after met X) (c ∷ once_after (met ++ c ∷ []) X))) ≡ (In met || (same_member m (member.Column c) || In X))
      by true e left more = left ∙ or_met (In met) (same_member m (member.Column c)) (In X) (was_met met c e)
      by false e left more =
          sym (or_assoc (In met) (same_member m (member.Column c)) (In (once_after (met ++ c ∷ []) X)))
          ∙ ap (λ b. b || In (once_after (met ++ c ∷ []) X)) (sym (in_one_more met c))
          ∙ more
          ∙ ap (λ b. b || In X) (in_one_more met c)
          ∙ or_assoc (In met) (same_member m (member.Column c)) (In X)

pub once_members : (X : List ℕ) → stands_in (columns_named (once X)) ≡ stands_in (columns_named X)
once_members X = λ i m. in_once m [] X i

pub once_is_in : (X : List ℕ) (c : ℕ) → is_in (once X) c ≡ is_in X c
once_is_in X c = sym (in_columns (once X) c) ∙ in_once (member.Column c) [] X ∙ in_columns X c
