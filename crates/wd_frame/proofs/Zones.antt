-- The ranges of frames, zone by zone.
use Rattle.std.proofs.Common.{◌≡◌, ◌∙◌, ℕ, suc, ◌+◌, ◌-◌, ◌<◌, ◌≤◌, min, max, List, [], ◌∷◌, ◌++◌, length, refl, sym, ap, subst, arith}
use Rattle.std.specs.List.{AllByRecursion, range_with_len}
use Rattle.std.specs.declared.alloc.Global.{Global}
use Rattle.std.specs.declared.vec.Vec.{Vec}
use Rattle.std.proofs.lemmas.List.{append-nil, length_push, map-append}
use Rattle.wd_plan.specs.declared.window.Exclusion.{Exclusion}
use Rattle.wd_plan.specs.declared.window.Exclusion.TheVariants as exclusion
use Rattle.wd_plan.specs.declared.window.Frame.{Frame}
use Rattle.wd_frame.specs.declared.exclusion.Zone.{Zone}
use Rattle.wd_frame.specs.declared.exclusion.Zone.TheVariants.{Before, Row, After}
use Rattle.wd_frame.specs.declared.extent.IndexRange.{IndexRange}
use Rattle.wd_frame.specs.Bounds.{IsInOrder}
use Rattle.wd_frame.specs.Exclusions.{left_out_from, left_out_to, zone}
use Rattle.wd_frame.specs.Places.{PartRule, places_of}
use Rattle.wd_frame.specs.IndexRanges.{AreBounds, AreFrames, AreLeftOut, AreRows, AreShared, AreZones, IsAlong, lists_of, places_along, places_in, shared, range_at, zone_of, zones_of}
use Rattle.wd_frame.proofs.BoundLaws.{places}
use Rattle.wd_frame.proofs.ExclusionLaws.{by_group, by_row, by_ties}
use Rattle.wd_frame.proofs.Ranging.{each_more}

-- ---- rows

pub AreRows-none : (count : ℕ) → AreRows 0 count []
AreRows-none count = record { long = refl; start = λ p l. absurd (omega arith); end = λ p l. absurd (omega arith) }

pub AreRows-more : (n count : ℕ) (all : List IndexRange) (s : IndexRange) → AreRows n count all → s.start ≡ n → s.end ≡ n + count → AreRows (n + 1) count (all ++ s ∷ [])
AreRows-more n count all s are e f =
    let long = length_push all s in
    let so_long = are.long in
    record {
      long = long ∙ ap (λ k. k + 1) are.long;
      start = λ p l. each_more (λ k x. x.start ≡ k) all s (λ k m. are.start k (omega arith)) (omega arith) p (omega arith);
      end = λ p l. each_more (λ k x. x.end ≡ k + count) all s (λ k m. are.end k (omega arith)) (omega arith) p (omega arith);
    }

-- ---- what is shared with a zone, place by place

pub record AreSharedUpTo (zone : Zone) (bounds left_out : List IndexRange) (n : ℕ) (all : List IndexRange) : Type 0 where
  pub long : length all ≡ n
  pub each : (p : ℕ) → p < n → range_at all p ≡ shared (range_at bounds p) (zone_of zone (range_at left_out p) p (length bounds))

-- ---- a list for each zone

pub AreZones-push : (zones : List Zone) (bounds left_out : List IndexRange) (lists : List (List IndexRange)) (zone : Zone) (list : List IndexRange) → AreZones zones bounds left_out lists → AreShared zone bounds left_out list
    → AreZones (zones ++ zone ∷ []) bounds left_out (lists ++ list ∷ [])
AreZones-push [] bounds left_out [] zone list are one = (one, tt)
AreZones-push (z ∷ zones) bounds left_out (l ∷ lists) zone list are one = (are.0, AreZones-push zones bounds left_out lists zone list are.1 one)
AreZones-push [] bounds left_out (l ∷ lists) zone list are one = absurd are
AreZones-push (z ∷ zones) bounds left_out [] zone list are one = absurd are

pub lists_of-push : (lists : List (Vec IndexRange Global)) (list : Vec IndexRange Global) → lists_of (lists ++ list ∷ []) ≡ lists_of lists ++ list.items ∷ []
lists_of-push lists list = map-append (λ (v : Vec IndexRange Global). v.items) lists (list ∷ [])

-- ---- along a partition

max_rises : (a b c d : ℕ) → a ≤ c → b ≤ d → max a b ≤ max c d
max_rises a b c d l m = omega arith

min_rises : (a b c d : ℕ) → a ≤ c → b ≤ d → min a b ≤ min c d
min_rises a b c d l m = omega arith

module _ (n : ℕ) (bounds left_out : List IndexRange) (bound : IsAlong n bounds) (left : IsAlong n left_out) where
  zone_start : (zone : Zone) (p q : ℕ) → p < q → q < n → (zone_of zone (range_at left_out p) p n).start ≤ (zone_of zone (range_at left_out q) q n).start
  zone_start Before p q o l = omega arith
  zone_start Row p q o l = omega arith
  zone_start After p q o l = left.rising.ends p q o (let long = left.long in omega arith)

  zone_end : (zone : Zone) (p q : ℕ) → p < q → q < n → (zone_of zone (range_at left_out p) p n).end ≤ (zone_of zone (range_at left_out q) q n).end
  zone_end Before p q o l = left.rising.starts p q o (let long = left.long in omega arith)
  zone_end Row p q o l = omega arith
  zone_end After p q o l = omega arith

  zone_within : (zone : Zone) (p : ℕ) → p < n → (zone_of zone (range_at left_out p) p n).start ≤ n
  zone_within Before p l = omega arith
  zone_within Row p l = omega arith
  zone_within After p l = left.rising.end_within p (let long = left.long in omega arith)

  shared_along : (zone : Zone) (all : List IndexRange) → AreShared zone bounds left_out all → IsAlong n all
  shared_along zone all are =
      let long = are.long in
      let so_long = bound.long in
      let each : (p : ℕ) → p < n → range_at all p ≡ shared (range_at bounds p) (zone_of zone (range_at left_out p) p n) =
      λ p l. are.each p (omega arith) ∙ ap (λ k. shared (range_at bounds p) (zone_of zone (range_at left_out p) p k)) bound.long in
      record {
        long = are.long ∙ bound.long;
        rising = record {
          starts = λ p q o l.
              subst (λ (s : IndexRange). s.start ≤ (range_at all q).start) (sym (each p (omega arith)))
              (subst (λ (s : IndexRange). (shared (range_at bounds p) (zone_of zone (range_at left_out p) p n)).start ≤ s.start) (sym (each q (omega arith)))
              (max_rises (range_at bounds p).start (zone_of zone (range_at left_out p) p n).start (range_at bounds q).start (zone_of zone (range_at left_out q) q n).start
              (bound.rising.starts p q o (omega arith)) (zone_start zone p q o (omega arith))));
          ends = λ p q o l.
              subst (λ (s : IndexRange). s.end ≤ (range_at all q).end) (sym (each p (omega arith)))
              (subst (λ (s : IndexRange). (shared (range_at bounds p) (zone_of zone (range_at left_out p) p n)).end ≤ s.end) (sym (each q (omega arith)))
              (min_rises (range_at bounds p).end (zone_of zone (range_at left_out p) p n).end (range_at bounds q).end (zone_of zone (range_at left_out q) q n).end
              (bound.rising.ends p q o (omega arith)) (zone_end zone p q o (omega arith))));
          start_within = λ p l.
              subst (λ (s : IndexRange). s.start ≤ n) (sym (each p (omega arith)))
              (at_most (range_at bounds p).start (zone_of zone (range_at left_out p) p n).start (bound.rising.start_within p (omega arith)) (zone_within zone p (omega arith)));
          end_within = λ p l.
              subst (λ (s : IndexRange). s.end ≤ n) (sym (each p (omega arith)))
              (low_most (range_at bounds p).end (zone_of zone (range_at left_out p) p n).end (bound.rising.end_within p (omega arith)));
        };
      }
    where
      at_most : (a b : ℕ) → a ≤ n → b ≤ n → max a b ≤ n
      at_most a b l m = omega arith

      low_most : (a b : ℕ) → a ≤ n → min a b ≤ n
      low_most a b l = omega arith

  pub zones_along : (zones : List Zone) (lists : List (List IndexRange)) → AreZones zones bounds left_out lists → AllByRecursion (IsAlong n) lists
  zones_along [] [] are = tt
  zones_along (z ∷ zones) (l ∷ lists) are = (shared_along z l are.0, zones_along zones lists are.1)
  zones_along [] (l ∷ lists) are = absurd are
  zones_along (z ∷ zones) [] are = absurd are

zones_long : (zones : List Zone) (bounds left_out : List IndexRange) (lists : List (List IndexRange)) → AreZones zones bounds left_out lists → length lists ≡ length zones
zones_long [] bounds left_out [] are = refl
zones_long (z ∷ zones) bounds left_out (l ∷ lists) are = ap suc (zones_long zones bounds left_out lists are.1)
zones_long [] bounds left_out (l ∷ lists) are = absurd are
zones_long (z ∷ zones) bounds left_out [] are = absurd are

-- ---- frames

pub whole_frames : (part : PartRule) (frame : Frame) (bounds : List IndexRange) → AreBounds part frame bounds → frame.exclusion ≡ exclusion.NoOthers → AreFrames part frame (bounds ∷ [])
whole_frames part frame bounds are all = record {
  along = record { some = omega arith; few = omega arith; along = (record { long = are.long; rising = are.rising }, tt) };
  places = λ ordered p l.
      let long = are.long in
      let start = are.start ordered p (omega arith) in
      let end = are.end ordered p (omega arith) in
      places part frame p ordered all l ∙ (λ i. range_with_len (sym start i) (sym end i - sym start i)) ∙ sym (append-nil (places_in (range_at bounds p)));
}

module _ (part : PartRule) (frame : Frame) (bounds left_out : List IndexRange) (are : AreBounds part frame bounds) (left : AreLeftOut part frame.exclusion left_out) where
  -- the ends of a zone at a place
  abbrev from : Zone → ℕ → ℕ
  from Before p = 0
  from Row p = p
  from After p = left_out_to frame.exclusion part p

  abbrev to : Zone → ℕ → ℕ
  to Before p = left_out_from frame.exclusion part p
  to Row p = p + 1
  to After p = length part.groups

  module _ (ordered : IsInOrder part frame) (p : ℕ) (within : p < length part.groups) where
    zone-is : (z : Zone) → zone_of z (range_at left_out p) p (length bounds) ≡ record { start = from z p; end = to z p }
    zone-is Before = let e = left.start frame ordered p within in (λ i. record { start = 0; end = e i })
    zone-is Row = refl
    zone-is After = let e = left.end frame ordered p within in (λ i. record { start = e i; end = are.long i })

    in_zone : (z : Zone) (all : List IndexRange) → AreShared z bounds left_out all → places_in (range_at all p) ≡ zone part frame p (from z p) (to z p)
    in_zone z all is =
        let long = are.long in
        let here : p < length bounds = omega arith in
        ap places_in (is.each p here ∙ ap (shared (range_at bounds p)) (zone-is z)
        ∙ (λ i. shared (record { start = are.start ordered p here i; end = are.end ordered p here i }) (record { start = from z p; end = to z p })))

    around : (lists : List (List IndexRange)) → AreZones (Before ∷ After ∷ []) bounds left_out lists → zone part frame p 0 (to Before p) ++ zone part frame p (from After p) (length part.groups) ≡ places_along lists p
    around (a ∷ b ∷ []) is = λ i. sym (in_zone Before a is.0) i ++ (sym (in_zone After b is.1.0) ∙ sym (append-nil (places_in (range_at b p)))) i
    around (a ∷ b ∷ c ∷ lists) is = absurd is.1.1
    around (a ∷ []) is = absurd is.1
    around [] is = absurd is

    with_row : (lists : List (List IndexRange)) → AreZones (Before ∷ Row ∷ After ∷ []) bounds left_out lists
        → zone part frame p 0 (to Before p) ++ (zone part frame p p (p + 1) ++ zone part frame p (from After p) (length part.groups)) ≡ places_along lists p
    with_row (a ∷ r ∷ b ∷ []) is = λ i. sym (in_zone Before a is.0) i ++ (sym (in_zone Row r is.1.0) i ++ (sym (in_zone After b is.1.1.0) ∙ sym (append-nil (places_in (range_at b p)))) i)
    with_row (a ∷ r ∷ b ∷ c ∷ lists) is = absurd is.1.1.1
    with_row (a ∷ r ∷ []) is = absurd is.1.1
    with_row (a ∷ []) is = absurd is.1
    with_row [] is = absurd is

    by_zones : (x : Exclusion) → frame.exclusion ≡ x → (x ≡ exclusion.NoOthers → ⊥) → (lists : List (List IndexRange)) → AreZones (zones_of x) bounds left_out lists → places_of part frame p ≡ places_along lists p
    by_zones exclusion.NoOthers e other lists is = absurd (other refl)
    by_zones exclusion.CurrentRow e other lists is = by_row part frame p ordered within e ∙ (λ i. zone part frame p 0 (left_out_from (sym e i) part p) ++ zone part frame p (left_out_to (sym e i) part p) (length part.groups)) ∙ around lists is
    by_zones exclusion.Group e other lists is = by_group part frame p ordered within e ∙ (λ i. zone part frame p 0 (left_out_from (sym e i) part p) ++ zone part frame p (left_out_to (sym e i) part p) (length part.groups)) ∙ around lists is
    by_zones exclusion.Ties e other lists is = by_ties part frame p ordered within e ∙ (λ i. zone part frame p 0 (left_out_from (sym e i) part p) ++ (zone part frame p p (p + 1) ++ zone part frame p (left_out_to (sym e i) part p) (length part.groups))) ∙ with_row lists is

  zones_few : (x : Exclusion) → (0 < length (zones_of x)) × (length (zones_of x) ≤ 3)
  zones_few exclusion.NoOthers = (omega arith, omega arith)
  zones_few exclusion.CurrentRow = (omega arith, omega arith)
  zones_few exclusion.Group = (omega arith, omega arith)
  zones_few exclusion.Ties = (omega arith, omega arith)

  pub zone_frames : (frame.exclusion ≡ exclusion.NoOthers → ⊥) → (lists : List (List IndexRange)) → AreZones (zones_of frame.exclusion) bounds left_out lists → AreFrames part frame lists
  zone_frames other lists is =
      let long = zones_long (zones_of frame.exclusion) bounds left_out lists is in
      let few = zones_few frame.exclusion in
      record {
        along = record {
          some = omega arith;
          few = omega arith;
          along = zones_along (length part.groups) bounds left_out (record { long = are.long; rising = are.rising }) left.along (zones_of frame.exclusion) lists is;
        };
        places = λ ordered p l. by_zones ordered p l frame.exclusion refl other lists is;
      }
