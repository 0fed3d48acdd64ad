-- What stands among the elements met first.
use Rattle.std.proofs.Common.{◌≡◌, ◌∙◌, sym, ap, refl, subst, ℕ, suc, not, ◌+◌, Bool, true, false, cond, ◌||◌, ◌<◌, ◌≤◌, List, [], ◌∷◌, ◌++◌, length, map, position, Option, Some, None, is_some, slice_get, arith}
use Rattle.std.specs.List.{AllByRecursion, list_any, list_all, position_or_len}
use Rattle.std.proofs.lemmas.Bool.{false≢true, le-ltb, lt-ltb, or_left, or_right}
use Rattle.std.proofs.lemmas.List.{length-map}
use Rattle.std.proofs.lemmas.List.Folds.{list_any-append}
use Rattle.wd_resolve_list.specs.SelectLists.{with_new}
use Rattle.wd_resolve_scope.proofs.Lists.{all_push}
use Rattle.wd_resolve_scope.proofs.Typing.{and_both}

pub some_there : {A : Type 0} (o : Option A) → is_some o ≡ true → (x : A) × (o ≡ Some x)
some_there None h = absurd (false≢true h)
some_there (Some x) h = (x, refl)

pub all_append : {A : Type 0} (P : A → Type 0) (xs ys : List A) → AllByRecursion P xs → AllByRecursion P ys → AllByRecursion P (xs ++ ys)
all_append P [] ys h g = g
all_append P (x ∷ xs) ys h g = (h.0, all_append P xs ys h.1 g)

pub all_split : {A : Type 0} (P : A → Type 0) (xs ys : List A) → AllByRecursion P (xs ++ ys) → AllByRecursion P xs × AllByRecursion P ys
all_split P [] ys h = (tt, h)
all_split P (x ∷ xs) ys h = let later = all_split P xs ys h.1 in ((h.0, later.0), later.1)

pub all_true : {A : Type 0} (t : A → Bool) (xs : List A) → AllByRecursion (λ x. t x ≡ true) xs → list_all t xs ≡ true
all_true t [] h = refl
all_true t (x ∷ xs) h = and_both _ _ h.0 (all_true t xs h.1)

pub all_on_each : {A : Type 0} (P Q : A → Type 0) → ((x : A) → P x → Q x) → (xs : List A) → AllByRecursion P xs → AllByRecursion Q xs
all_on_each P Q f [] h = tt
all_on_each P Q f (x ∷ xs) h = (f x h.0, all_on_each P Q f xs h.1)

pub all_zip : {A : Type 0} (P Q : A → Type 0) (xs : List A) → AllByRecursion P xs → AllByRecursion Q xs → AllByRecursion (λ x. P x × Q x) xs
all_zip P Q [] h g = tt
all_zip P Q (x ∷ xs) h g = ((h.0, g.0), all_zip P Q xs h.1 g.1)

-- the first element that passes is there, and passes
pub first_there : {A : Type 0} (t : A → Bool) (xs : List A) → list_any t xs ≡ true → (x : A) × (slice_get xs (position_or_len t xs) ≡ Some x) × (t x ≡ true)
first_there t [] h = absurd (false≢true h)
first_there t (y ∷ ys) h = by (t y) refl h (first_there t ys)
  where
    n : ℕ
    n = position_or_len t ys

    by : (b : Bool) → t y ≡ b → (b || list_any t ys) ≡ true → (list_any t ys ≡ true → (x : _) × (slice_get ys n ≡ Some x) × (t x ≡ true))
        → (x : _) × (slice_get (y ∷ ys) (cond (not b) (1 + n) 0) ≡ Some x) × (t x ≡ true)
    by true e h later = (y, refl, e)
    by false e h later = let found = later h in let next : suc n ≡ 1 + n = omega arith in (found.0, subst (λ k. slice_get (y ∷ ys) k ≡ Some found.0) next found.1, found.2)

module _ {A : Type 0} (same : A → A → Bool) where
  -- an element that is there, by its number
  pub first_is : ((x y : A) → same x y ≡ true → x ≡ y) → (x : A) (xs : List A) → list_any (same x) xs ≡ true → slice_get xs (position_or_len (same x) xs) ≡ Some x
  first_is is x xs h = let found = first_there (same x) xs h in found.1 ∙ ap Some (sym (is x found.0 found.2))

  grown : (x y : A) (b : Bool) (seen : List A) → list_any (same x) seen ≡ true → list_any (same x) (cond b seen (seen ++ y ∷ [])) ≡ true
  grown x y true seen h = h
  grown x y false seen h = list_any-append (same x) seen (y ∷ []) ∙ or_left _ _ h

  pub still_there : (x : A) (seen xs : List A) → list_any (same x) seen ≡ true → list_any (same x) (with_new same seen xs) ≡ true
  still_there x seen [] h = h
  still_there x seen (y ∷ ys) h = still_there x (cond (list_any (same y) seen) seen (seen ++ y ∷ [])) ys (grown x y (list_any (same y) seen) seen h)

  added : (x : A) (seen : List A) → same x x ≡ true → list_any (same x) (cond (list_any (same x) seen) seen (seen ++ x ∷ [])) ≡ true
  added x seen itself = by (list_any (same x) seen) refl
    where
      by : (b : Bool) → list_any (same x) seen ≡ b → list_any (same x) (cond b seen (seen ++ x ∷ [])) ≡ true
      by true e = e
      by false e = list_any-append (same x) seen (x ∷ []) ∙ or_right _ _ (or_left _ _ itself)

  pub all_there : ((x : A) → same x x ≡ true) → (seen xs : List A) → AllByRecursion (λ x. list_any (same x) (with_new same seen xs) ≡ true) xs
  all_there itself seen [] = tt
  all_there itself seen (x ∷ xs) =
      let more = cond (list_any (same x) seen) seen (seen ++ x ∷ []) in
      (still_there x more xs (added x seen (itself x)), all_there itself more xs)

  pub all_with_new : (P : A → Type 0) (seen xs : List A) → AllByRecursion P seen → AllByRecursion P xs → AllByRecursion P (with_new same seen xs)
  all_with_new P seen [] h g = h
  all_with_new P seen (x ∷ xs) h g = all_with_new P (cond (list_any (same x) seen) seen (seen ++ x ∷ [])) xs (by (list_any (same x) seen)) g.1
    where
      by : (b : Bool) → AllByRecursion P (cond b seen (seen ++ x ∷ []))
      by true = h
      by false = all_push P seen x h g.0

-- ---- the first that passes

pub position_at : {A : Type 0} (t : A → Bool) (xs : List A) (n : ℕ) → n ≡ position_or_len t xs → n < length xs → position t xs ≡ Some n
position_at t xs n e within =
    let less : position_or_len t xs < length xs = omega (arith, e, within) in
    ap (λ b. cond b (Some (position_or_len t xs)) None) (lt-ltb (position_or_len t xs) (length xs) less) ∙ ap Some (sym e)

pub found_at : {A B : Type 0} (f : A → B) (t : B → Bool) (xs : List A) (n : ℕ) → n ≡ position_or_len t (map f xs) → n < length xs → position t (map f xs) ≡ Some n
found_at f t xs n e within = let long = length-map xs f in position_at t (map f xs) n e (omega (arith, within, long))

pub found_none : {A B : Type 0} (f : A → B) (t : B → Bool) (xs : List A) → length xs ≡ position_or_len t (map f xs) → position t (map f xs) ≡ None
found_none f t xs e =
    let long = length-map xs f in
    let least : length (map f xs) ≤ position_or_len t (map f xs) = omega (arith, e, long) in
    ap (λ b. cond b (Some (position_or_len t (map f xs))) None) (le-ltb (position_or_len t (map f xs)) (length (map f xs)) least)
