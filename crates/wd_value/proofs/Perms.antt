-- Rearrangements of a list, by cases, and what they leave.
use Rattle.std.proofs.Common.{◌≡◌, ℕ, suc, ◌+◌, ◌<◌, Bool, true, false, cond, ◌||◌, List, [], ◌∷◌, ◌++◌, map, length, filter, count_by, sum_by, flat_map, refl, sym, ◌∙◌, ap, subst, arith, append_assoc, append-nil, Decides}
use Rattle.std.specs.List.{AllByRecursion, list_any}
use Rattle.std.proofs.lemmas.List.Sums.{sum_by-cons}
use Rattle.wd_value.specs.Bags.{times, SameBag}

pub data Perm (X : Type 0) : List X → List X → Type 0 where
  done : Perm X [] []
  keep : (x : X) {xs ys : List X} → Perm X xs ys → Perm X (x ∷ xs) (x ∷ ys)
  flip : (x y : X) (xs : List X) → Perm X (x ∷ y ∷ xs) (y ∷ x ∷ xs)
  both : {xs ys zs : List X} → Perm X xs ys → Perm X ys zs → Perm X xs zs

or_swaps : (a b c : Bool) → (a || (b || c)) ≡ (b || (a || c))
or_swaps true true c = refl
or_swaps true false c = refl
or_swaps false true c = refl
or_swaps false false c = refl

module _ {X : Type 0} where
  pub Perm-refl : (xs : List X) → Perm X xs xs
  Perm-refl [] = done
  Perm-refl (x ∷ xs) = keep x (Perm-refl xs)

  pub Perm-same : (xs ys : List X) → xs ≡ ys → Perm X xs ys
  Perm-same xs ys e = subst (λ l. Perm X xs l) e (Perm-refl xs)

  pub Perm-sym : {xs ys : List X} → Perm X xs ys → Perm X ys xs
  Perm-sym done = done
  Perm-sym (keep x p) = keep x (Perm-sym p)
  Perm-sym (flip x y xs) = flip y x xs
  Perm-sym (both p q) = both (Perm-sym q) (Perm-sym p)

  pub Perm-append_right : (zs : List X) {xs ys : List X} → Perm X xs ys → Perm X (xs ++ zs) (ys ++ zs)
  Perm-append_right zs done = Perm-refl zs
  Perm-append_right zs (keep x p) = keep x (Perm-append_right zs p)
  Perm-append_right zs (flip x y xs) = flip x y (xs ++ zs)
  Perm-append_right zs (both p q) = both (Perm-append_right zs p) (Perm-append_right zs q)

  pub Perm-append_left : (zs : List X) {xs ys : List X} → Perm X xs ys → Perm X (zs ++ xs) (zs ++ ys)
  Perm-append_left [] p = p
  Perm-append_left (z ∷ zs) p = keep z (Perm-append_left zs p)

  pub Perm-append : {xs ys us vs : List X} → Perm X xs ys → Perm X us vs → Perm X (xs ++ us) (ys ++ vs)
  Perm-append {ys = ys} {us = us} p q = both (Perm-append_right us p) (Perm-append_left ys q)

  pub Perm-middle : (xs : List X) (x : X) (ys : List X) → Perm X (xs ++ x ∷ ys) (x ∷ (xs ++ ys))
  Perm-middle [] x ys = Perm-refl (x ∷ ys)
  Perm-middle (z ∷ xs) x ys = both (keep z (Perm-middle xs x ys)) (flip z x (xs ++ ys))

  pub Perm-append_comm : (xs ys : List X) → Perm X (xs ++ ys) (ys ++ xs)
  Perm-append_comm [] ys = Perm-same ys (ys ++ []) (sym (append-nil ys))
  Perm-append_comm (x ∷ xs) ys = both (keep x (Perm-append_comm xs ys)) (Perm-sym (Perm-middle ys x xs))

  -- what does not change when two neighbours change places, and is kept under one more element
  pub Perm-keeps : {Y : Type 0} (F : List X → Y) (step : X → Y → Y) → ((x : X) (xs : List X) → F (x ∷ xs) ≡ step x (F xs)) → ((x y : X) (v : Y) → step x (step y v) ≡ step y (step x v)) → {xs ys : List X} → Perm X xs ys → F xs ≡ F ys
  Perm-keeps F step at comm done = refl
  Perm-keeps F step at comm (keep x {xs = xs} {ys = ys} p) = at x xs ∙ ap (step x) (Perm-keeps F step at comm p) ∙ sym (at x ys)
  Perm-keeps F step at comm (flip x y xs) = at x (y ∷ xs) ∙ ap (step x) (at y xs) ∙ comm x y (F xs) ∙ sym (ap (step y) (at x xs)) ∙ sym (at y (x ∷ xs))
  Perm-keeps F step at comm (both p q) = Perm-keeps F step at comm p ∙ Perm-keeps F step at comm q

  pub Perm-length : {xs ys : List X} → Perm X xs ys → length xs ≡ length ys
  Perm-length p = Perm-keeps length (λ x n. suc n) (λ x xs. refl) (λ x y v. refl) p

  pub Perm-sum_by : (f : X → ℕ) {xs ys : List X} → Perm X xs ys → sum_by f xs ≡ sum_by f ys
  Perm-sum_by f p = Perm-keeps (sum_by f) (λ x n. f x + n) (sum_by-cons f) (λ x y v. omega arith) p

  pub Perm-count_by : (t : X → Bool) {xs ys : List X} → Perm X xs ys → count_by t xs ≡ count_by t ys
  Perm-count_by t p = Perm-sum_by (λ x. cond (t x) 1 0) p

  pub Perm-list_any : (t : X → Bool) {xs ys : List X} → Perm X xs ys → list_any t xs ≡ list_any t ys
  Perm-list_any t p = Perm-keeps (list_any t) (λ x b. t x || b) (λ x xs. refl) (λ x y v. or_swaps (t x) (t y) v) p

  pub Perm-all : (P : X → Type 0) {xs ys : List X} → Perm X xs ys → AllByRecursion P xs → AllByRecursion P ys
  Perm-all P done a = a
  Perm-all P (keep x p) a = (a.0, Perm-all P p a.1)
  Perm-all P (flip x y xs) a = (a.1.0, (a.0, a.1.1))
  Perm-all P (both p q) a = Perm-all P q (Perm-all P p a)

  filter_keep : (t : X → Bool) (x : X) (xs ys : List X) (b : Bool) → t x ≡ b → Perm X (filter t xs) (filter t ys) → Perm X (filter t (x ∷ xs)) (filter t (x ∷ ys))
  filter_keep t x xs ys true e p = rw e (keep x p)
  filter_keep t x xs ys false e p = rw e p

  pub Perm-filter : (t : X → Bool) {xs ys : List X} → Perm X xs ys → Perm X (filter t xs) (filter t ys)
  Perm-filter t done = done
  Perm-filter t (keep x {xs = xs} {ys = ys} p) = filter_keep t x xs ys (t x) refl (Perm-filter t p)
  Perm-filter t (flip x y xs) = by (t x) (t y)
    where
      by : (a b : Bool) → Perm X (cond a (x ∷ cond b (y ∷ filter t xs) (filter t xs)) (cond b (y ∷ filter t xs) (filter t xs))) (cond b (y ∷ cond a (x ∷ filter t xs) (filter t xs)) (cond a (x ∷ filter t xs) (filter t xs)))
      by true true = flip x y (filter t xs)
      by true false = Perm-refl _
      by false true = Perm-refl _
      by false false = Perm-refl _
  Perm-filter t (both p q) = both (Perm-filter t p) (Perm-filter t q)

module _ {X Y : Type 0} where
  pub Perm-map : (f : X → Y) {xs ys : List X} → Perm X xs ys → Perm Y (map f xs) (map f ys)
  Perm-map f done = done
  Perm-map f (keep x p) = keep (f x) (Perm-map f p)
  Perm-map f (flip x y xs) = flip (f x) (f y) (map f xs)
  Perm-map f (both p q) = both (Perm-map f p) (Perm-map f q)

  pub Perm-flat_map : (f : X → List Y) {xs ys : List X} → Perm X xs ys → Perm Y (flat_map f xs) (flat_map f ys)
  Perm-flat_map f done = done
  Perm-flat_map f (keep x p) = Perm-append_left (f x) (Perm-flat_map f p)
  Perm-flat_map f (flip x y xs) = both (Perm-same _ _ (sym (append_assoc (f x) (f y) (flat_map f xs)))) (both (Perm-append_right (flat_map f xs) (Perm-append_comm (f x) (f y))) (Perm-same _ _ (append_assoc (f y) (f x) (flat_map f xs))))
  Perm-flat_map f (both p q) = both (Perm-flat_map f p) (Perm-flat_map f q)

pub count_by-cons : {X : Type 0} (t : X → Bool) (x : X) (xs : List X) → count_by t (x ∷ xs) ≡ cond (t x) 1 0 + count_by t xs
count_by-cons t x xs = sum_by-cons (λ y. cond (t y) 1 0) x xs

pub count_by-yes : {X : Type 0} (t : X → Bool) (x : X) (xs : List X) → t x ≡ true → count_by t (x ∷ xs) ≡ suc (count_by t xs)
count_by-yes t x xs e = count_by-cons t x xs ∙ ap (λ b. cond b 1 0 + count_by t xs) e ∙ omega arith

pub count_by-no : {X : Type 0} (t : X → Bool) (x : X) (xs : List X) → t x ≡ false → count_by t (x ∷ xs) ≡ count_by t xs
count_by-no t x xs e = count_by-cons t x xs ∙ ap (λ b. cond b 1 0 + count_by t xs) e ∙ omega arith

-- counts, where eq tells elements apart
module _ {X : Type 0} (eq : X → X → Bool) (exact : (a b : X) → Decides (eq a b) (a ≡ b)) where
  pub SameBag-from_Perm : {xs ys : List X} → Perm X xs ys → SameBag eq xs ys
  SameBag-from_Perm p x = Perm-count_by (eq x) p

  times_self : (x : X) (xs : List X) → times eq x (x ∷ xs) ≡ suc (times eq x xs)
  times_self x xs = count_by-cons (eq x) x xs ∙ ap (λ b. cond b 1 0 + times eq x xs) ((exact x x).1 refl) ∙ omega arith

  split_here : (x y : X) (ys : List X) (b : Bool) → eq x y ≡ b → 0 < times eq x (y ∷ ys) → (0 < times eq x ys → (as' : List X) × (bs : List X) × (ys ≡ as' ++ x ∷ bs)) → (as' : List X) × (bs : List X) × (y ∷ ys ≡ as' ++ x ∷ bs)
  split_here x y ys true e h rest = ([], ys, λ i. sym ((exact x y).0 e) i ∷ ys)
  split_here x y ys false e h rest =
      let k : times eq x (y ∷ ys) ≡ times eq x ys = count_by-cons (eq x) y ys ∙ ap (λ b. cond b 1 0 + times eq x ys) e ∙ omega arith in
      let r = rest (subst (λ n. 0 < n) k h) in
      (y ∷ r.0, r.1, ap (λ l. y ∷ l) r.2)

  -- an element that stands in a list parts it
  pub split_at : (x : X) (ys : List X) → 0 < times eq x ys → (as' : List X) × (bs : List X) × (ys ≡ as' ++ x ∷ bs)
  split_at x [] h = absurd (omega arith)
  split_at x (y ∷ ys) h = split_here x y ys (eq x y) refl h (split_at x ys)

  nil_from_times : (ys : List X) → SameBag eq [] ys → [] ≡ ys
  nil_from_times [] h = refl
  nil_from_times (y ∷ ys) h = absurd (let a = h y in let b = times_self y ys in omega arith)

  pub SameBag-tail : (x : X) (xs ys : List X) → SameBag eq (x ∷ xs) (x ∷ ys) → SameBag eq xs ys
  SameBag-tail x xs ys h z = let a = h z in let b = count_by-cons (eq z) x xs in let c = count_by-cons (eq z) x ys in omega arith

  pub Perm-from_SameBag : (xs ys : List X) → SameBag eq xs ys → Perm X xs ys
  Perm-from_SameBag [] ys h = Perm-same [] ys (nil_from_times ys h)
  Perm-from_SameBag (x ∷ xs) ys h =
      let a = h x in
      let b = times_self x xs in
      let r = split_at x ys (omega arith) in
      let m : Perm X ys (x ∷ (r.0 ++ r.1)) = both (Perm-same _ _ r.2) (Perm-middle r.0 x r.1) in
      let t : SameBag eq xs (r.0 ++ r.1) = SameBag-tail x xs (r.0 ++ r.1) (λ z. h z ∙ SameBag-from_Perm m z) in
      both (keep x (Perm-from_SameBag xs (r.0 ++ r.1) t)) (Perm-sym m)

  pub Perm-tail : (x : X) (xs ys : List X) → Perm X (x ∷ xs) (x ∷ ys) → Perm X xs ys
  Perm-tail x xs ys p = Perm-from_SameBag xs ys (SameBag-tail x xs ys (SameBag-from_Perm p))
