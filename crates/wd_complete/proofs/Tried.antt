-- Of the columns that are tried at a node, the first 64 are closed, or others that are the same.
use Rattle.std.proofs.Common.{◌≡◌, ◌⊎◌, inl, inr, ℕ, ◌≤◌, Bool, true, false, cond, List, [], ◌∷◌, ◌++◌, filter, length, nat_eq, nat_lt, refl, sym, ◌∙◌, ap, subst, arith, true≢false}
use Rattle.std.specs.List.{list_any, list_all}
use Rattle.std.proofs.lemmas.Bool.{and_parts, ltb-true, ltb-false}
use Rattle.std.proofs.lemmas.List.{length-map}
use Rattle.wd_step_facts.specs.declared.facts.Member.TheVariants as member
use Rattle.wd_step_facts.specs.Facts.{FactList, columns_named}
use Rattle.wd_analyse.specs.Evidence.{Closing, once}
use Rattle.wd_analyse.specs.Kept.{kept_fact}
use Rattle.wd_analyse.specs.Sources.{Keeps, distinct, gives_some, is_tried, same_columns, starts}
use Rattle.wd_analyse.proofs.Once.{once_is_in}
use Rattle.wd_complete.proofs.Lists.{Among, Within, all_within, among_filter, among_stands, or_true, stands_among}

-- ---- the same columns

pub record IsSame (X Y : List ℕ) : Type 0 where
  pub to : Within X Y
  pub back : Within Y X

same_is : (X Y : List ℕ) → same_columns X Y ≡ true → IsSame X Y
same_is X Y e = let p = and_parts (list_all (λ c. list_any (nat_eq c) Y) X) (list_all (λ c. list_any (nat_eq c) X) Y) e in record { to = all_within X Y p.0; back = all_within Y X p.1 }

-- and each once
pub same_once : (X Y : List ℕ) → IsSame X Y → IsSame X (once Y)
same_once X Y same = record {
  to = λ c at. stands_among (once Y) c (once_is_in Y c ∙ among_stands Y c (same.to c at));
  back = λ c at. same.back c (stands_among Y c (sym (once_is_in Y c) ∙ among_stands (once Y) c at));
}

same_self : (X : List ℕ) → IsSame X X
same_self X = record { to = λ c at. at; back = λ c at. at }

-- some of these are the same columns
record HasSame (Xs : List (List ℕ)) (X : List ℕ) : Type 0 where
  one : List ℕ
  at : Among one Xs
  same : IsSame X one

tried_has : (tried : List (List ℕ)) (X : List ℕ) → is_tried tried X ≡ true → HasSame tried X
tried_has [] X e = absurd (true≢false (sym e))
tried_has (Y ∷ tried) X e = by (or_true (same_columns X Y) (is_tried tried X) e) (tried_has tried X)
  where
    by : (same_columns X Y ≡ true) ⊎ (is_tried tried X ≡ true) → (is_tried tried X ≡ true → HasSame tried X) → HasSame (Y ∷ tried) X
    by (inl f) later = record { one = Y; at = inl refl; same = same_is X Y f }
    by (inr f) later = let h = later f in record { one = h.one; at = inr h.at; same = h.same }

-- ---- lists

pub among_parts : {X : Type 0} (x : X) (xs ys : List X) → Among x (xs ++ ys) → Among x xs ⊎ Among x ys
among_parts x [] ys at = inr at
among_parts x (z ∷ xs) ys (inl e) = inl (inl e)
among_parts x (z ∷ xs) ys (inr at) = by (among_parts x xs ys at)
  where
    by : Among x xs ⊎ Among x ys → Among x (z ∷ xs) ⊎ Among x ys
    by (inl a) = inl (inr a)
    by (inr a) = inr a

-- a front that is no longer stands within the other
front_within : {X : Type 0} (x : X) (xs ys zs us : List X) → xs ++ ys ≡ zs ++ us → length zs ≤ length xs → Among x zs → Among x xs
front_within x xs ys [] us e h at = absurd at
front_within x [] ys (z ∷ zs) us e h at = absurd (omega (arith, h))
front_within x (y ∷ xs) ys (z ∷ zs) us e h (inl f) = let head : y ≡ z = cc in inl (head ∙ f)
front_within x (y ∷ xs) ys (z ∷ zs) us e h (inr at) = let rest : xs ++ ys ≡ zs ++ us = cc in inr (front_within x xs ys zs us rest (omega (arith, h)) at)

pub filter_short : {X : Type 0} (p : X → Bool) (xs : List X) → length (filter p xs) ≤ length xs
filter_short p [] = omega arith
filter_short p (x ∷ xs) = by (p x) (filter_short p xs)
  where
    by : (b : Bool) → length (filter p xs) ≤ length xs → length (cond b (x ∷ filter p xs) (filter p xs)) ≤ length (x ∷ xs)
    by true h = omega (arith, h)
    by false h = omega (arith, h)

-- ---- each once

distinct_has : (tried Xs : List (List ℕ)) (X : List ℕ) → Among X Xs → HasSame tried X ⊎ HasSame (distinct tried Xs) X
distinct_has tried [] X at = absurd at
distinct_has tried (Y ∷ Xs) X at = by (is_tried tried Y) refl at (distinct_has tried Xs X) (distinct_has (tried ++ Y ∷ []) Xs X)
  where
    new : HasSame (tried ++ Y ∷ []) X ⊎ HasSame (distinct (tried ++ Y ∷ []) Xs) X → HasSame tried X ⊎ HasSame (Y ∷ distinct (tried ++ Y ∷ []) Xs) X
    new (inr h) = inr (record { one = h.one; at = inr h.at; same = h.same })
    new (inl h) = which (among_parts h.one tried (Y ∷ []) h.at)
      where
        which : Among h.one tried ⊎ Among h.one (Y ∷ []) → HasSame tried X ⊎ HasSame (Y ∷ distinct (tried ++ Y ∷ []) Xs) X
        which (inl a) = inl (record { one = h.one; at = a; same = h.same })
        which (inr (inl f)) = inr (record { one = h.one; at = inl f; same = h.same })
        which (inr (inr a)) = absurd a

    by : (b : Bool) → is_tried tried Y ≡ b → Among X (Y ∷ Xs) → (Among X Xs → HasSame tried X ⊎ HasSame (distinct tried Xs) X) → (Among X Xs → HasSame (tried ++ Y ∷ []) X ⊎ HasSame (distinct (tried ++ Y ∷ []) Xs) X) → HasSame tried X ⊎ HasSame (cond b (distinct tried Xs) (Y ∷ distinct (tried ++ Y ∷ []) Xs)) X
    by true e (inl f) old fresh = inl (tried_has tried X (subst (λ Z. is_tried tried Z ≡ true) f e))
    by true e (inr a) old fresh = old a
    by false e (inl f) old fresh = inr (record { one = Y; at = inl refl; same = subst (λ Z. IsSame Z Y) f (same_self Y) })
    by false e (inr a) old fresh = new (fresh a)

distinct_short : (tried Xs : List (List ℕ)) → length (distinct tried Xs) ≤ length Xs
distinct_short tried [] = omega arith
distinct_short tried (X ∷ Xs) = by (is_tried tried X) (distinct_short tried Xs) (distinct_short (tried ++ X ∷ []) Xs)
  where
    by : (b : Bool) → length (distinct tried Xs) ≤ length Xs → length (distinct (tried ++ X ∷ []) Xs) ≤ length Xs → length (cond b (distinct tried Xs) (X ∷ distinct (tried ++ X ∷ []) Xs)) ≤ length (X ∷ Xs)
    by true h k = omega (arith, h)
    by false h k = omega (arith, k)

-- those of a front come first
record Goes (all front : List (List ℕ)) : Type 0 where
  rest : List (List ℕ)
  is : all ≡ front ++ rest

distinct_front : (tried Xs Ys : List (List ℕ)) → Goes (distinct tried (Xs ++ Ys)) (distinct tried Xs)
distinct_front tried [] Ys = record { rest = distinct tried Ys; is = refl }
distinct_front tried (X ∷ Xs) Ys = by (is_tried tried X) (distinct_front tried Xs Ys) (distinct_front (tried ++ X ∷ []) Xs Ys)
  where
    by : (b : Bool) → Goes (distinct tried (Xs ++ Ys)) (distinct tried Xs) → Goes (distinct (tried ++ X ∷ []) (Xs ++ Ys)) (distinct (tried ++ X ∷ []) Xs)
        → Goes (cond b (distinct tried (Xs ++ Ys)) (X ∷ distinct (tried ++ X ∷ []) (Xs ++ Ys))) (cond b (distinct tried Xs) (X ∷ distinct (tried ++ X ∷ []) Xs))
    by true g k = g
    by false g k = record { rest = k.rest; is = ap (λ l. X ∷ l) k.is }

-- ---- closings

-- some closing is of the same columns
pub record IsClosed (tried : List Closing) (X : List ℕ) : Type 0 where
  pub closing : Closing
  pub at : Among closing tried
  pub same : IsSame X closing.from

start_of : (tried : List Closing) (X : List ℕ) → HasSame (starts tried) X → IsClosed tried X
start_of [] X h = absurd h.at
start_of (c ∷ tried) X h = by h.at (λ a. start_of tried X (record { one = h.one; at = a; same = h.same }))
  where
    by : Among h.one (starts (c ∷ tried)) → (Among h.one (starts tried) → IsClosed tried X) → IsClosed (c ∷ tried) X
    by (inl e) later = record { closing = c; at = inl refl; same = subst (IsSame X) (sym e) h.same }
    by (inr a) later = let k = later a in record { closing = k.closing; at = inr k.at; same = k.same }

-- of a front of no more than 64 each is closed
pub front_closed : (facts : FactList) (width : ℕ) (front back : List (List ℕ)) (claims : List Closing) (k : Keeps facts width (front ++ back) claims) (X : List ℕ) → length front ≤ 64 → Among X front → IsClosed k.tried X
front_closed facts width front back claims k X few at = start_of k.tried X (by (distinct_has [] front X at))
  where
    g : Goes (distinct [] (front ++ back)) (distinct [] front)
    g = distinct_front [] front back

    kept : length claims ≤ length k.tried
    kept = let e : length claims ≡ length (filter (gives_some width) k.tried) = ap length k.kept in omega (arith, e, filter_short (gives_some width) k.tried)

    started : length (starts k.tried) ≡ length k.tried
    started = length-map k.tried (λ (c : Closing). c.from)

    there : (Y : List ℕ) → Among Y (distinct [] front) → (b : Bool) → nat_lt (length claims) 64 ≡ b → Among Y (starts k.tried)
    there Y a true e = of (among_parts Y (starts k.tried) k.untried (subst (Among Y) (sym (k.order ∙ g.is)) (among_first Y (distinct [] front) g.rest a)))
      where
        among_first : (Y : List ℕ) (xs ys : List (List ℕ)) → Among Y xs → Among Y (xs ++ ys)
        among_first Y [] ys a = absurd a
        among_first Y (x ∷ xs) ys (inl f) = inl f
        among_first Y (x ∷ xs) ys (inr b) = inr (among_first Y xs ys b)

        of : Among Y (starts k.tried) ⊎ Among Y k.untried → Among Y (starts k.tried)
        of (inl a) = a
        of (inr a) = absurd (subst (Among Y) (k.all (ltb-true (length claims) 64 e)) a)
    there Y a false e = front_within Y (starts k.tried) k.untried (distinct [] front) g.rest (k.order ∙ g.is) (omega (arith, ltb-false (length claims) 64 e, kept, started, few, distinct_short [] front)) a

    by : HasSame [] X ⊎ HasSame (distinct [] front) X → HasSame (starts k.tried) X
    by (inl h) = absurd h.at
    by (inr h) = record { one = h.one; at = there h.one h.at (nat_lt (length claims) 64) refl; same = h.same }

-- ---- what gives the row is kept

module _ (width : ℕ) (c : Closing) (gives : c.has member.Row ≡ true) where
  row_kept : gives_some width c ≡ true
  row_kept = rw gives refl

  pub row_fact : kept_fact width c ≡ record { from = columns_named (once c.from); to = member.Row ∷ [] }
  row_fact = rw gives refl

  pub claimed : (tried : List Closing) → Among c tried → Among c (filter (gives_some width) tried)
  claimed tried at = among_filter (gives_some width) c tried at row_kept
