-- A frame with an exclusion is two or three ranges of the places.
use Rattle.std.proofs.Common.{◌≡◌, ◌∙◌, ℕ, zero, suc, ◌+◌, ◌-◌, ◌<◌, ◌≤◌, ◌⊎◌, inl, inr, min, max, pos, ◌-ℤ◌, Bool, true, false, not, ◌&&◌, ◌||◌, ◌∷◌, ◌++◌, filter, length, nat_eq, refl, sym, ap, arith}
use Rattle.std.specs.Prelude.{int_le}
use Rattle.std.specs.List.{range_with_len}
use Rattle.std.proofs.lemmas.Bool.{cases_lt}
use Rattle.std.proofs.lemmas.Bool.Decides.{nat_tests}
use Rattle.std.proofs.lemmas.Int.{ints}
use Rattle.std.proofs.lemmas.List.Elements.{filter-append}
use Rattle.wd_value.specs.Bags.{positions}
use Rattle.wd_plan.specs.declared.window.Exclusion.{Exclusion}
use Rattle.wd_plan.specs.declared.window.Exclusion.TheVariants as exclusion
use Rattle.wd_plan.specs.declared.window.Frame.{Frame}
use Rattle.wd_plan.specs.Frames.{bound_asks, ends_at, is_kept, starts_at}
use Rattle.wd_frame.specs.declared.distance.Side.TheVariants.{Start, End}
use Rattle.wd_frame.specs.Bounds.{IsInOrder, end_of, is_passed, start_of}
use Rattle.wd_frame.specs.Exclusions.{ExclusionsAreRanges, before, after, left_out_from, left_out_to, peers, zone}
use Rattle.wd_frame.specs.Places.{PartRule, distances, group_at, is_member, places_of}
use Rattle.wd_frame.proofs.BoundLaws.{passed_first}
use Rattle.wd_frame.proofs.Counted.{IsFirst, filter_first, skip_first}

-- ---- zones of the places

range-append : (a m k : ℕ) → range_with_len a (m + k) ≡ range_with_len a m ++ range_with_len (a + m) k
range-append a zero k = λ i. range_with_len (there i) (here i)
  where
    here : 0 + k ≡ k
    here = omega arith

    there : a ≡ a + 0
    there = omega arith
range-append a (suc m) k =
    let more : suc m + k ≡ suc (m + k) = omega arith in
    let next : (a + 1) + m ≡ a + suc m = omega arith in
    ap (range_with_len a) more ∙ ap (λ rest. a ∷ rest) (range-append (a + 1) m k ∙ ap (λ b. range_with_len (a + 1) m ++ range_with_len b k) next)

split : (t : ℕ → Bool) (n m : ℕ) → m ≤ n → filter t (positions n) ≡ filter t (range_with_len 0 m) ++ filter t (range_with_len m (n - m))
split t n m le =
    let all : n ≡ m + (n - m) = omega arith in
    let start : 0 + m ≡ m = omega arith in
    ap (λ k. filter t (range_with_len 0 k)) all
    ∙ ap (filter t) (range-append 0 m (n - m) ∙ ap (λ b. range_with_len 0 m ++ range_with_len b (n - m)) start)
    ∙ filter-append t (range_with_len 0 m) (range_with_len m (n - m))

-- what a test takes of a zone, where it takes there the places from s up to e
filter-zone : (t : ℕ → Bool) (a n s e : ℕ) → ((q : ℕ) → a ≤ q → q < a + n → q < s → t q ≡ false) → ((q : ℕ) → a ≤ q → q < a + n → s ≤ q → q < e → t q ≡ true) → ((q : ℕ) → a ≤ q → q < a + n → e ≤ q → t q ≡ false)
    → filter t (range_with_len a n) ≡ range_with_len (max s a) (min e (a + n) - max s a)
filter-zone t a n s e low mid high = by (cases_lt (max s a) (min e (a + n)))
  where
    by : (max s a < min e (a + n)) ⊎ (min e (a + n) ≤ max s a) → filter t (range_with_len a n) ≡ range_with_len (max s a) (min e (a + n) - max s a)
    by (inl lt) =
        let skip : n ≡ (max s a - a) + (a + n - max s a) = omega arith in
        let there : a + (max s a - a) ≡ max s a = omega arith in
        ap (λ k. filter t (range_with_len a k)) skip
        ∙ skip_first t (max s a - a) (a + n - max s a) a (λ q l m. low q l (omega arith) (omega arith))
        ∙ ap (λ b. filter t (range_with_len b (a + n - max s a))) there
        ∙ filter_first t (a + n - max s a) (min e (a + n) - max s a) (max s a) (omega arith)
        (λ q l m. mid q (omega arith) (omega arith) (omega arith) (omega arith))
        (λ q l m. high q (omega arith) (omega arith) (omega arith))
    by (inr le) =
        let none : min e (a + n) - max s a ≡ 0 = omega arith in
        filter_first t n 0 a (omega arith) (λ q l m. absurd (omega arith)) (λ q l m. out q (omega arith) (omega arith) (cases_lt q s))
        ∙ sym (ap (range_with_len (max s a)) none)
      where
        out : (q : ℕ) → a ≤ q → q < a + n → (q < s) ⊎ (s ≤ q) → t q ≡ false
        out q l m (inl o) = low q l m o
        out q l m (inr o) = high q l m (omega arith)

-- ---- the tests

and_false : (a b : Bool) → b ≡ false → (a && b) ≡ false
and_false true b e = e
and_false false b e = refl

false_and : (a b : Bool) → a ≡ false → (a && b) ≡ false
false_and a b e = rw e refl

both : (a b : Bool) → a ≡ true → b ≡ true → (a && b) ≡ true
both a b e f = rw (e, f) refl

not_true : (a : Bool) → not a ≡ true → a ≡ false
not_true true e = cc
not_true false e = refl

not_false : (a : Bool) → not a ≡ false → a ≡ true
not_false true e = refl
not_false false e = cc

-- peers are told by the groups alone
pub in_groups : (part : PartRule) (frame : Frame) → IsInOrder part frame → IsInOrder part peers
in_groups part frame ordered = record { groups = ordered.groups; keys = λ offset. absurd (cc offset) }

module _ (part : PartRule) (frame : Frame) (p : ℕ) (ordered : IsInOrder part frame) (within : p < length part.groups) where
  abbrev n : ℕ
  n = length part.groups

  abbrev s : ℕ
  s = start_of part frame p

  abbrev e : ℕ
  e = end_of part frame p

  abbrev starts : ℕ → Bool
  starts q = bound_asks frame.mode starts_at frame.start (distances part p q)

  abbrev ends : ℕ → Bool
  ends q = bound_asks frame.mode ends_at frame.end (distances part p q)

  abbrev kept : ℕ → Bool
  kept q = is_kept frame.exclusion (nat_eq p q) (nat_eq (group_at part p) (group_at part q))

  abbrev t : ℕ → Bool
  t = is_member part frame p

  first : IsFirst (is_passed Start part frame p) n s
  first = passed_first part frame ordered Start p within

  last : IsFirst (is_passed End part frame p) n e
  last = passed_first part frame ordered End p within

  too_low : (q : ℕ) → q < s → t q ≡ false
  too_low q l = false_and (starts q && ends q) (kept q) (false_and (starts q) (ends q) (not_true (starts q) (first.below q l)))

  too_high : (q : ℕ) → e ≤ q → q < n → t q ≡ false
  too_high q l m = false_and (starts q && ends q) (kept q) (and_false (starts q) (ends q) (last.after q l m))

  taken : (q : ℕ) → s ≤ q → q < e → q < n → kept q ≡ true → t q ≡ true
  taken q l m o k = both (starts q && ends q) (kept q) (both (starts q) (ends q) (not_false (starts q) (first.after q l o)) (last.below q m)) k

  left_out : (q : ℕ) → kept q ≡ false → t q ≡ false
  left_out q k = and_false (starts q && ends q) (kept q) k

  -- a zone of members that the exclusion keeps
  zone_kept : (a m : ℕ) → a + m ≤ n → ((q : ℕ) → a ≤ q → q < a + m → kept q ≡ true) → filter t (range_with_len a m) ≡ range_with_len (max s a) (min e (a + m) - max s a)
  zone_kept a m le k = filter-zone t a m s e (λ q l o h. too_low q h) (λ q l o h g. taken q h g (omega arith) (k q l o)) (λ q l o h. too_high q h (omega arith))

  first_zone : (x : ℕ) → x ≤ n → ((q : ℕ) → q < x → kept q ≡ true) → filter t (range_with_len 0 x) ≡ zone part frame p 0 x
  first_zone x le k =
      let high : 0 + x ≡ x = omega arith in
      zone_kept 0 x (omega arith) (λ q l o. k q (omega arith)) ∙ ap (zone part frame p 0) high

  last_zone : (y : ℕ) → y ≤ n → ((q : ℕ) → y ≤ q → q < n → kept q ≡ true) → filter t (range_with_len y (n - y)) ≡ zone part frame p y n
  last_zone y le k =
      let high : y + (n - y) ≡ n = omega arith in
      zone_kept y (n - y) (omega arith) (λ q l o. k q l (omega arith)) ∙ ap (zone part frame p y) high

  -- the members from x up to y left out
  around : (x y : ℕ) → x ≤ y → y ≤ n → ((q : ℕ) → q < x → kept q ≡ true) → ((q : ℕ) → x ≤ q → q < y → kept q ≡ false) → ((q : ℕ) → y ≤ q → q < n → kept q ≡ true)
      → places_of part frame p ≡ zone part frame p 0 x ++ zone part frame p y n
  around x y le few low mid high =
      let count : n - x ≡ (y - x) + (n - y) = omega arith in
      let there : x + (y - x) ≡ y = omega arith in
      split t n x (omega arith)
      ∙ (λ i. first_zone x (omega arith) low i ++ (
      ap (λ m. filter t (range_with_len x m)) count
      ∙ skip_first t (y - x) (n - y) x (λ q l m. left_out q (mid q l (omega arith)))
      ∙ ap (λ b. filter t (range_with_len b (n - y))) there
      ∙ last_zone y few high) i)

  pub by_row : frame.exclusion ≡ exclusion.CurrentRow → places_of part frame p ≡ zone part frame p 0 p ++ zone part frame p (p + 1) n
  by_row is = around p (p + 1) (omega arith) (omega arith)
      (λ q l. ap (λ x. is_kept x (nat_eq p q) (nat_eq (group_at part p) (group_at part q))) is ∙ ap not (differs q (omega arith)))
      (λ q l m. ap (λ x. is_kept x (nat_eq p q) (nat_eq (group_at part p) (group_at part q))) is ∙ ap not (same q (omega arith)))
      (λ q l m. ap (λ x. is_kept x (nat_eq p q) (nat_eq (group_at part p) (group_at part q))) is ∙ ap not (differs q (omega arith)))
    where
      differs : (q : ℕ) → (p ≡ q → ⊥) → nat_eq p q ≡ false
      differs q ne = grind (arith, nat_tests)

      same : (q : ℕ) → p ≡ q → nat_eq p q ≡ true
      same q eq = grind (arith, nat_tests)

  -- ---- peers

  abbrev x : ℕ
  x = start_of part peers p

  abbrev y : ℕ
  y = end_of part peers p

  first_peer : IsFirst (is_passed Start part peers p) n x
  first_peer = passed_first part peers (in_groups part frame ordered) Start p within

  last_peer : IsFirst (is_passed End part peers p) n y
  last_peer = passed_first part peers (in_groups part frame ordered) End p within

  lower_group : (g h : ℕ) → not (int_le (pos 0) (pos h -ℤ pos g)) ≡ true → nat_eq g h ≡ false
  lower_group g h l = grind (arith, ints, nat_tests)

  higher_group : (g h : ℕ) → int_le (pos h -ℤ pos g) (pos 0) ≡ false → nat_eq g h ≡ false
  higher_group g h l = grind (arith, ints, nat_tests)

  same_group : (g h : ℕ) → not (int_le (pos 0) (pos h -ℤ pos g)) ≡ false → int_le (pos h -ℤ pos g) (pos 0) ≡ true → nat_eq g h ≡ true
  same_group g h l m = grind (arith, ints, nat_tests)

  no_peer_below : (q : ℕ) → q < x → nat_eq (group_at part p) (group_at part q) ≡ false
  no_peer_below q l = lower_group (group_at part p) (group_at part q) (first_peer.below q l)

  no_peer_after : (q : ℕ) → y ≤ q → q < n → nat_eq (group_at part p) (group_at part q) ≡ false
  no_peer_after q l m = higher_group (group_at part p) (group_at part q) (last_peer.after q l m)

  peer : (q : ℕ) → x ≤ q → q < y → nat_eq (group_at part p) (group_at part q) ≡ true
  peer q l m = let few = last_peer.within in same_group (group_at part p) (group_at part q) (first_peer.after q l (omega arith)) (last_peer.below q m)

  abbrev pass : Exclusion → ℕ → Bool
  pass z q = is_kept z (nat_eq p q) (nat_eq (group_at part p) (group_at part q))

  row_is_peer : (x ≤ p) × (p < y)
  row_is_peer = (low (cases_lt p x), high (cases_lt p y))
    where
      itself_peer : nat_eq (group_at part p) (group_at part p) ≡ true
      itself_peer = grind (arith, nat_tests)

      low : (p < x) ⊎ (x ≤ p) → x ≤ p
      low (inr l) = l
      low (inl l) = absurd (let no = no_peer_below p l in let yes = itself_peer in cc)

      high : (p < y) ⊎ (y ≤ p) → p < y
      high (inl l) = l
      high (inr l) = absurd (let no = no_peer_after p l within in let yes = itself_peer in cc)

  pub by_group : frame.exclusion ≡ exclusion.Group → places_of part frame p ≡ zone part frame p 0 x ++ zone part frame p y n
  by_group is =
      let between = row_is_peer in
      around x y (omega arith) last_peer.within
      (λ q l. ap (λ z. pass z q) is ∙ ap not (no_peer_below q l))
      (λ q l m. ap (λ z. pass z q) is ∙ ap not (peer q l m))
      (λ q l m. ap (λ z. pass z q) is ∙ ap not (no_peer_after q l m))

  module _ (is : frame.exclusion ≡ exclusion.Ties) where
    kept_is : (q : ℕ) → x ≤ q → q < y → kept q ≡ nat_eq p q
    kept_is q l m = ap (λ z. pass z q) is ∙ ap (λ b. nat_eq p q || not b) (peer q l m) ∙ or_false (nat_eq p q)
      where
        or_false : (b : Bool) → (b || false) ≡ b
        or_false true = refl
        or_false false = refl

    other : (q : ℕ) → x ≤ q → q < y → (p ≡ q → ⊥) → t q ≡ false
    other q l m ne = left_out q (kept_is q l m ∙ differs)
      where
        differs : nat_eq p q ≡ false
        differs = grind (arith, nat_tests)

    keeps : (q : ℕ) → nat_eq (group_at part p) (group_at part q) ≡ false → kept q ≡ true
    keeps q apart = ap (λ z. pass z q) is ∙ ap (λ b. nat_eq p q || not b) apart ∙ or_true (nat_eq p q)
      where
        or_true : (b : Bool) → (b || true) ≡ true
        or_true true = refl
        or_true false = refl

    row : filter t (range_with_len p 1) ≡ zone part frame p p (p + 1)
    row = zone_kept p 1 (omega arith) (λ q l m. kept_is q (let between = row_is_peer in omega arith) (let between = row_is_peer in omega arith) ∙ same q (omega arith))
      where
        same : (q : ℕ) → p ≡ q → nat_eq p q ≡ true
        same q eq = grind (arith, nat_tests)

    -- the row and what stands after its peers
    from_row : filter t (range_with_len p (n - p)) ≡ zone part frame p p (p + 1) ++ zone part frame p y n
    from_row =
        let between = row_is_peer in
        let few = last_peer.within in
        let count : n - p ≡ 1 + (n - (p + 1)) = omega arith in
        let rest : n - (p + 1) ≡ (y - (p + 1)) + (n - y) = omega arith in
        let there : (p + 1) + (y - (p + 1)) ≡ y = omega arith in
        ap (λ m. filter t (range_with_len p m)) count
        ∙ ap (filter t) (range-append p 1 (n - (p + 1)))
        ∙ filter-append t (range_with_len p 1) (range_with_len (p + 1) (n - (p + 1)))
        ∙ (λ i. row i ++ (
        ap (λ m. filter t (range_with_len (p + 1) m)) rest
        ∙ skip_first t (y - (p + 1)) (n - y) (p + 1) (λ q l m. other q (omega arith) (omega arith) (λ eq. absurd (omega arith)))
        ∙ ap (λ b. filter t (range_with_len b (n - y))) there
        ∙ last_zone y few (λ q l m. keeps q (no_peer_after q l m))) i)

    pub by_ties : places_of part frame p ≡ zone part frame p 0 x ++ (zone part frame p p (p + 1) ++ zone part frame p y n)
    by_ties =
        let between = row_is_peer in
        let count : n - x ≡ (p - x) + (n - p) = omega arith in
        let there : x + (p - x) ≡ p = omega arith in
        split t n x (omega arith)
        ∙ (λ i. first_zone x (omega arith) (λ q l. keeps q (no_peer_below q l)) i ++ (
        ap (λ m. filter t (range_with_len x m)) count
        ∙ skip_first t (p - x) (n - p) x (λ q l m. other q l (omega arith) (λ eq. absurd (omega arith)))
        ∙ ap (λ b. filter t (range_with_len b (n - p))) there
        ∙ from_row) i)

pub exclusions_are_ranges : ExclusionsAreRanges
exclusions_are_ranges = record {
  current_row = λ part frame p ordered is within. by_row part frame p ordered within is ∙ ends part frame p exclusion.CurrentRow is;
  group = λ part frame p ordered is within. by_group part frame p ordered within is ∙ ends part frame p exclusion.Group is;
  ties = λ part frame p ordered is within. by_ties part frame p ordered within is
      ∙ (λ i. zone part frame p 0 (left_out_from (sym is i) part p) ++ (zone part frame p p (p + 1) ++ zone part frame p (left_out_to (sym is i) part p) (length part.groups)));
}
  where
    ends : (part : PartRule) (frame : Frame) (p : ℕ) (x : Exclusion) → frame.exclusion ≡ x
        → zone part frame p 0 (left_out_from x part p) ++ zone part frame p (left_out_to x part p) (length part.groups) ≡ before part frame p ++ after part frame p
    ends part frame p x is = λ i. zone part frame p 0 (left_out_from (sym is i) part p) ++ zone part frame p (left_out_to (sym is i) part p) (length part.groups)
