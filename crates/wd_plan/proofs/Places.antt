-- Places in lists of positions, and the place of a row in its partition list.
use Rattle.std.proofs.Common.{◌≡◌, ℕ, zero, suc, ◌+◌, ◌<◌, ◌≤◌, Bool, true, false, List, [], ◌∷◌, map, length, filter, get_or, refl, sym, ◌∙◌, ap, subst, arith, eqb, le_trans}
use Rattle.std.specs.List.{range_with_len}
use Rattle.std.proofs.lemmas.List.Elements.{filter_passes}
use Rattle.std.proofs.lemmas.Bool.{eqb-true, eqb-false, eq-eqb, ne_eqb}
use Rattle.wd_plan.specs.Partitions.{place_in, members, partition_of}
use Rattle.wd_value.proofs.Perms.{count_by-cons, count_by-no, count_by-yes}
use Rattle.wd_value.specs.Bags.{times, EachOnce}
use Rattle.std.proofs.lemmas.List.{length-map, get_or-map, same_lists}
use Rattle.wd_value.proofs.KeyLaws.{same_row_self}
use Rattle.wd_plan.specs.Plans.{ClassRule}
use Rattle.wd_plan.specs.Sorting.{same_partition}
use Rattle.wd_value.specs.Rows.{Row, columns_of, row_at, same_row}

pub times-filter-le : {X : Type 0} (eq : X → X → Bool) (t : X → Bool) (x : X) (xs : List X) → times eq x (filter t xs) ≤ times eq x xs
times-filter-le eq t x [] = omega arith
times-filter-le eq t x (y ∷ ys) = step (t y) refl (times-filter-le eq t x ys)
  where
    step : (b : Bool) → t y ≡ b → times eq x (filter t ys) ≤ times eq x ys → times eq x (filter t (y ∷ ys)) ≤ times eq x (y ∷ ys)
    step true e h = rw e (let c = count_by-cons (eq x) y (filter t ys) in let d = count_by-cons (eq x) y ys in omega arith)
    step false e h = rw e (let d = count_by-cons (eq x) y ys in omega arith)

-- an element of a list stands there
pub times-get_or : (ps : List ℕ) (i d : ℕ) → i < length ps → 0 < times eqb (get_or ps i d) ps
times-get_or [] i d h = absurd (omega arith)
times-get_or (p ∷ ps) zero d h = let c = count_by-yes (eqb p) p ps (eq-eqb p p refl) in omega arith
times-get_or (p ∷ ps) (suc i) d h = let c = count_by-cons (eqb (get_or ps i d)) p ps in let k = times-get_or ps i d (omega arith) in omega arith

place_step : (p x : ℕ) (ps : List ℕ) (i : ℕ) (b : Bool) → eqb p x ≡ b → 0 < times eqb x ps → times eqb x (p ∷ ps) ≤ 1 → (times eqb x ps ≤ 1 → place_in ps x ≡ i) → place_in (p ∷ ps) x ≡ suc i
place_step p x ps i true e there once later =
    let c = count_by-yes (eqb x) p ps (eq-eqb x p (sym (eqb-true p x e))) in
    absurd (omega arith)
place_step p x ps i false e there once later =
    let c = count_by-cons (eqb x) p ps in
    rw e (ap suc (later (omega arith)))

-- the place of what stands once is where it stands
pub place-get_or : (ps : List ℕ) (i d : ℕ) → i < length ps → times eqb (get_or ps i d) ps ≤ 1 → place_in ps (get_or ps i d) ≡ i
place-get_or [] i d h once = absurd (omega arith)
place-get_or (p ∷ ps) zero d h once = rw (eq-eqb p p refl)
place-get_or (p ∷ ps) (suc i) d h once = place_step p (get_or ps i d) ps i (eqb p (get_or ps i d)) refl (times-get_or ps i d (omega arith)) once (place-get_or ps i d (omega arith))

below_range : (q a n : ℕ) → q < a → times eqb q (range_with_len a n) ≡ 0
below_range q a zero h = refl
below_range q a (suc n) h =
    let c = count_by-no (eqb q) a (range_with_len (a + 1) n) (ne_eqb q a (λ e. omega arith)) in
    let r = below_range q (a + 1) n (omega arith) in
    omega arith

range_step : (q a n : ℕ) (b : Bool) → eqb q a ≡ b → times eqb q (range_with_len (a + 1) n) ≤ 1 → times eqb q (range_with_len a (suc n)) ≤ 1
range_step q a n true e h =
    let c = count_by-yes (eqb q) a (range_with_len (a + 1) n) e in
    let same = eqb-true q a e in
    let r = below_range q (a + 1) n (omega arith) in
    omega arith
range_step q a n false e h =
    let c = count_by-no (eqb q) a (range_with_len (a + 1) n) e in
    omega arith

pub times-range-le : (q a n : ℕ) → times eqb q (range_with_len a n) ≤ 1
times-range-le q a zero = omega arith
times-range-le q a (suc n) = range_step q a n (eqb q a) refl (times-range-le q (a + 1) n)

in_range_step : (q a n : ℕ) (b : Bool) → eqb q a ≡ b → (a + 1 ≤ q → 0 < times eqb q (range_with_len (a + 1) n)) → a ≤ q → 0 < times eqb q (range_with_len a (suc n))
in_range_step q a n true e h l = let c = count_by-yes (eqb q) a (range_with_len (a + 1) n) e in omega arith
in_range_step q a n false e h l = let c = count_by-no (eqb q) a (range_with_len (a + 1) n) e in let ne = eqb-false q a e in let k : a + 1 ≤ q = omega arith in let m = h k in omega arith

-- each position of the range stands in it, and no other does
pub times-range : (q a n : ℕ) → a ≤ q → q < a + n → 0 < times eqb q (range_with_len a n)
times-range q a zero l h = absurd (omega arith)
times-range q a (suc n) l h = in_range_step q a n (eqb q a) refl (λ k. times-range q (a + 1) n k (omega arith)) l

outside_step : (q a n : ℕ) (b : Bool) → eqb q a ≡ b → (0 < times eqb q (range_with_len (a + 1) n) → q < (a + 1) + n) → 0 < times eqb q (range_with_len a (suc n)) → q < a + suc n
outside_step q a n true e h k = let s = eqb-true q a e in omega arith
outside_step q a n false e h k = let c = count_by-no (eqb q) a (range_with_len (a + 1) n) e in let m = h (omega arith) in omega arith

pub range-times : (q a n : ℕ) → 0 < times eqb q (range_with_len a n) → q < a + n
range-times q a zero h = absurd (omega arith)
range-times q a (suc n) h = outside_step q a n (eqb q a) refl (range-times q (a + 1) n) h

-- what stands in a list stands at its place
found_step : (p : ℕ) (ps : List ℕ) (x d : ℕ) (b : Bool) → eqb p x ≡ b → 0 < times eqb x (p ∷ ps) → (0 < times eqb x ps → (place_in ps x < length ps) × (get_or ps (place_in ps x) d ≡ x)) → (place_in (p ∷ ps) x < length (p ∷ ps)) × (get_or (p ∷ ps) (place_in (p ∷ ps) x) d ≡ x)
found_step p ps x d true e h later = rw e (omega arith, eqb-true p x e)
found_step p ps x d false e h later =
    let ne : eqb x p ≡ false = ne_eqb x p (λ f. eqb-false p x e (sym f)) in
    let c = count_by-no (eqb x) p ps ne in
    let r = later (omega arith) in
    rw e (omega (arith, r.0), r.1)

pub found_at_place : (ps : List ℕ) (x d : ℕ) → 0 < times eqb x ps → (place_in ps x < length ps) × (get_or ps (place_in ps x) d ≡ x)
found_at_place [] x d h = absurd (omega arith)
found_at_place (p ∷ ps) x d h = found_step p ps x d (eqb p x) refl h (found_at_place ps x d)

-- an element that passes stands as often after the filter
kept_step : (t : ℕ → Bool) (x p : ℕ) (ps : List ℕ) (b c : Bool) → t x ≡ true → t p ≡ b → eqb x p ≡ c → times eqb x (filter t ps) ≡ times eqb x ps → times eqb x (filter t (p ∷ ps)) ≡ times eqb x (p ∷ ps)
kept_step t x p ps true true h e f k = rw e (count_by-yes (eqb x) p (filter t ps) f ∙ ap suc k ∙ sym (count_by-yes (eqb x) p ps f))
kept_step t x p ps true false h e f k = rw e (count_by-no (eqb x) p (filter t ps) f ∙ k ∙ sym (count_by-no (eqb x) p ps f))
kept_step t x p ps false true h e f k = absurd (let s = eqb-true x p f in let g : t p ≡ true = subst (λ y. t y ≡ true) s h in cc)
kept_step t x p ps false false h e f k = rw e (k ∙ sym (count_by-no (eqb x) p ps f))

pub times-filter : (t : ℕ → Bool) (x : ℕ) (ps : List ℕ) → t x ≡ true → times eqb x (filter t ps) ≡ times eqb x ps
times-filter t x [] h = refl
times-filter t x (p ∷ ps) h = kept_step t x p ps (t p) (eqb x p) h refl refl (times-filter t x ps h)

pub filter_passes_at : (t : ℕ → Bool) (ps : List ℕ) (i d : ℕ) → i < length (filter t ps) → t (get_or (filter t ps) i d) ≡ true
filter_passes_at t ps i d h = filter_passes t ps i d h

-- lists that show the same at each place show the same
pub same_shows : {A B Z : Type 0} (f : A → Z) (g : B → Z) (as' : List A) (bs : List B) (a : A) (b : B) → length as' ≡ length bs → ((i : ℕ) → i < length as' → f (get_or as' i a) ≡ g (get_or bs i b)) → map f as' ≡ map g bs
same_shows f g as' bs a b l h = same_lists (map f as') (map g bs) (length-map as' f ∙ l ∙ sym (length-map bs g))
    (λ k d m. let n : k < length as' = subst (λ x. k < x) (length-map as' f) m in let n' : k < length bs = omega arith in get_or-map f as' k a d n ∙ h k n ∙ sym (get_or-map g bs k b d n'))

-- ---- a row in its partition list

-- each position stands once in an ordering
pub stands_once : (rows : List Row) (ordering : List ℕ) (q : ℕ) → EachOnce (length rows) ordering → times eqb q ordering ≤ 1
stands_once rows ordering q once = let e = once q in let l = times-range-le q 0 (length rows) in omega arith

pub stands : (rows : List Row) (ordering : List ℕ) (q : ℕ) → EachOnce (length rows) ordering → q < length rows → 0 < times eqb q ordering
stands rows ordering q once h = let e = once q in let l = times-range q 0 (length rows) (omega arith) (omega arith) in omega arith

-- a member's place is within the list, and the member stands there
pub record InPart (class : ClassRule) (rows : List Row) (ordering : List ℕ) (p : ℕ) : Type 0 where
  pub within : place_in (members class rows ordering p) p < length (members class rows ordering p)
  pub at_place : get_or (members class rows ordering p) (place_in (members class rows ordering p) p) 0 ≡ p
  pub within_rows : place_in (members class rows ordering p) p < length (partition_of class rows ordering p)
  pub row : row_at (partition_of class rows ordering p) (place_in (members class rows ordering p) p) ≡ row_at rows p

pub in_part : (class : ClassRule) (rows : List Row) (ordering : List ℕ) (p : ℕ) → EachOnce (length rows) ordering → p < length rows → InPart class rows ordering p
in_part class rows ordering p once h =
    let t = λ (q : ℕ). same_partition class (row_at rows p) (row_at rows q) in
    let there : 0 < times eqb p (members class rows ordering p) = subst (λ n. 0 < n) (sym (times-filter t p ordering (same_row_self (columns_of class.partition (row_at rows p))))) (stands rows ordering p once h) in
    let f = found_at_place (members class rows ordering p) p 0 there in
    record {
      within = f.0;
      at_place = f.1;
      within_rows = subst (λ n. place_in (members class rows ordering p) p < n) (sym (length-map (members class rows ordering p) (row_at rows))) f.0;
      row = get_or-map (row_at rows) (members class rows ordering p) (place_in (members class rows ordering p) p) 0 [] f.0 ∙ ap (row_at rows) f.1;
    }

pub place_member : (class : ClassRule) (rows : List Row) (ordering : List ℕ) (p i : ℕ) → EachOnce (length rows) ordering → i < length (members class rows ordering p) → place_in (members class rows ordering p) (get_or (members class rows ordering p) i 0) ≡ i
place_member class rows ordering p i once h =
    let q = get_or (members class rows ordering p) i 0 in
    let b = times-filter-le eqb (λ q. same_partition class (row_at rows p) (row_at rows q)) q ordering in
    let c = stands_once rows ordering q once in
    place-get_or (members class rows ordering p) i 0 h (le_trans b c)

-- the members of a row's partition are those of each member's
pub same_members : (class : ClassRule) (rows : List Row) (ordering : List ℕ) (x : Row) (u : ℕ) → columns_of class.partition x ≡ columns_of class.partition (row_at rows u) → members class rows ordering u ≡ filter (λ q. same_partition class x (row_at rows q)) ordering
same_members class rows ordering x u e = ap (λ k. filter (λ q. same_row k (columns_of class.partition (row_at rows q))) ordering) (sym e)
