-- The rows at the places of a frame are the frame.
use Rattle.std.proofs.Common.{◌≡◌, ◌∙◌, ℕ, suc, ◌+◌, ◌<◌, pos, ◌-ℤ◌, Bool, true, false, ◌&&◌, ◌||◌, List, [], ◌∷◌, map, filter, length, get_or, refl, sym, ap, arith, ℤ, nat_eq, Option}
use Rattle.std.specs.List.{enumerate_from, range_with_len}
use Rattle.std.proofs.lemmas.List.{get_or-map, length-map}
use Rattle.wd_value.specs.declared.value.Value.{Value}
use Rattle.wd_value.specs.declared.value.Value.TheVariants.{Null}
use Rattle.wd_value.specs.Bags.{positions}
use Rattle.wd_value.specs.Rows.{Row, column_of, row_at}
use Rattle.wd_value.specs.declared.order.SortColumn.{SortColumn}
use Rattle.wd_plan.specs.declared.window.Bound.{Bound}
use Rattle.wd_plan.specs.declared.window.Bound.TheVariants.{UnboundedPreceding, Preceding, CurrentRow, Following, UnboundedFollowing}
use Rattle.wd_plan.specs.declared.window.Frame.{Frame}
use Rattle.wd_plan.specs.declared.window.FrameMode.{FrameMode}
use Rattle.wd_plan.specs.declared.window.FrameMode.TheVariants as mode
use Rattle.wd_plan.specs.Frames.{Distances, bound_asks, ends_at, frame_of, in_frame, is_kept, key_distance, starts_at, value_distance}
use Rattle.wd_plan.specs.Partitions.{group_of}
use Rattle.wd_plan.specs.Plans.{ClassRule}
use Rattle.wd_frame.specs.Laws.{PlacesAreFrames, has_range_offset, is_descending, is_offset, key_values, part_in}
use Rattle.wd_frame.specs.Places.{PartRule, distances, group_at, is_member, places_of}

-- ---- rows at places

module _ (f : ℕ → Row) (t : ℕ → Bool) (u : ℕ × Row → Bool) where
  step : (a : ℕ) (x : Row) (ps : List ℕ) (ms : List (ℕ × Row)) (b : Bool) → u (a, x) ≡ b → t a ≡ b → f a ≡ x → map f (filter t ps) ≡ map (λ m. m.1) (filter u ms)
      → map f (filter t (a ∷ ps)) ≡ map (λ m. m.1) (filter u ((a, x) ∷ ms))
  step a x ps ms true e e' h rest = rw (e, e') (λ i. h i ∷ rest i)
  step a x ps ms false e e' h rest = rw (e, e') rest

  rows_at_places : (xs : List Row) (a : ℕ) → ((k : ℕ) → k < length xs → f (a + k) ≡ get_or xs k []) → ((k : ℕ) → k < length xs → t (a + k) ≡ u (a + k, get_or xs k []))
      → map f (filter t (range_with_len a (length xs))) ≡ map (λ m. m.1) (filter u (enumerate_from a xs))
  rows_at_places [] a h g = refl
  rows_at_places (x ∷ xs) a h g =
      let here : a + 0 ≡ a = omega arith in
      let rest = rows_at_places xs (a + 1) (λ k l. ap f (omega arith) ∙ h (suc k) (omega arith))
      (λ k l. let next : (a + 1) + k ≡ a + suc k = omega arith in ap t next ∙ g (suc k) (omega arith) ∙ ap (λ n. u (n, get_or xs k [])) (sym next)) in
      let passes : t a ≡ u (a, x) = ap t (sym here) ∙ g 0 (omega arith) ∙ ap (λ n. u (n, x)) here in
      step a x (range_with_len (a + 1) (length xs)) (enumerate_from (a + 1) xs) (u (a, x)) refl passes (ap f (sym here) ∙ h 0 (omega arith)) rest

-- ---- the test

-- of two rows of a partition, their keys are as far from each other as the keys at their places
pub same_keys : (order : List SortColumn) (partition : List Row) (p q : ℕ) → p < length partition → q < length partition → let keys = key_values order partition in
    value_distance (is_descending order) (get_or keys p Null) (get_or keys q Null) ≡ key_distance order (row_at partition p) (row_at partition q)
same_keys [] partition p q k l = refl
same_keys (item ∷ []) partition p q k l =
    λ i. value_distance item.key.desc (get_or-map (λ r. column_of r item.column) partition p [] Null k i) (get_or-map (λ r. column_of r item.column) partition q [] Null l i)
same_keys (item ∷ other ∷ items) partition p q k l = refl

module _ (class : ClassRule) (frame : Frame) (partition : List Row) (p : ℕ) (k : p < length partition) where
  abbrev groups : Row → ℕ
  groups = group_of class partition

  same_test : (q : ℕ) → q < length partition → is_member (part_in class partition) frame p q ≡ in_frame class frame groups p (row_at partition p) q (row_at partition q)
  same_test q l =
      let here : group_at (part_in class partition) p ≡ groups (row_at partition p) = get_or-map groups partition p [] 0 k in
      let there : group_at (part_in class partition) q ≡ groups (row_at partition q) = get_or-map groups partition q [] 0 l in
      let keys = same_keys class.order partition p q k l in
      λ i. (let d : Distances = record { places = pos q -ℤ pos p; groups = pos (there i) -ℤ pos (here i); keys = keys i } in
      (bound_asks frame.mode starts_at frame.start d && bound_asks frame.mode ends_at frame.end d) && is_kept frame.exclusion (nat_eq p q) (nat_eq (here i) (there i)))

  rows : map (row_at partition) (places_of (part_in class partition) frame p) ≡ frame_of class frame partition p
  rows =
      ap (λ n. map (row_at partition) (filter (is_member (part_in class partition) frame p) (positions n))) (length-map partition groups)
      ∙ rows_at_places (row_at partition) (is_member (part_in class partition) frame p) (λ m. in_frame class frame groups p (row_at partition p) m.0 m.1) partition 0
      (λ q l. let zero-q : 0 + q ≡ q = omega arith in ap (row_at partition) zero-q)
      (λ q l. let zero-q : 0 + q ≡ q = omega arith in
      ap (is_member (part_in class partition) frame p) zero-q ∙ same_test q l ∙ ap (λ n. in_frame class frame groups p (row_at partition p) n (row_at partition q)) (sym zero-q))

-- ---- without an offset in RANGE

pub same_bound : (m : FrameMode) (asks : Bound → ℤ → Bool) (bound : Bound) (places groups : ℤ) (keys others : Option ℤ) → (m ≡ mode.Range → is_offset bound ≡ false)
    → bound_asks m asks bound (record { places = places; groups = groups; keys = keys }) ≡ bound_asks m asks bound (record { places = places; groups = groups; keys = others })
same_bound mode.Rows asks bound places groups keys others none = refl
same_bound mode.Groups asks bound places groups keys others none = refl
same_bound mode.Range asks UnboundedPreceding places groups keys others none = refl
same_bound mode.Range asks (Preceding n) places groups keys others none = absurd (let no = none refl in cc)
same_bound mode.Range asks CurrentRow places groups keys others none = refl
same_bound mode.Range asks (Following n) places groups keys others none = absurd (let no = none refl in cc)
same_bound mode.Range asks UnboundedFollowing places groups keys others none = refl

neither : (a b : Bool) → (a || b) ≡ false → (a ≡ false) × (b ≡ false)
neither true b e = absurd (cc e)
neither false b e = (refl, e)

pub no_offset : (frame : Frame) → has_range_offset frame ≡ false → frame.mode ≡ mode.Range → (is_offset frame.start ≡ false) × (is_offset frame.end ≡ false)
no_offset frame none range = neither (is_offset frame.start) (is_offset frame.end) (rw range at none)

without_keys : (groups : List ℕ) (keys others : List Value) (desc other : Bool) (frame : Frame) (p : ℕ) → has_range_offset frame ≡ false
    → places_of (record { groups = groups; keys = keys; desc = desc }) frame p ≡ places_of (record { groups = groups; keys = others; desc = other }) frame p
without_keys numbers keys others desc other frame p none =
    let a : PartRule = record { groups = numbers; keys = keys; desc = desc } in
    let b : PartRule = record { groups = numbers; keys = others; desc = other } in
    let start = λ (q : ℕ). same_bound frame.mode starts_at frame.start (distances a p q).places (distances a p q).groups (distances a p q).keys (distances b p q).keys (λ m. (no_offset frame none m).0) in
    let end = λ (q : ℕ). same_bound frame.mode ends_at frame.end (distances a p q).places (distances a p q).groups (distances a p q).keys (distances b p q).keys (λ m. (no_offset frame none m).1) in
    λ i. filter (λ q. (start q i && end q i) && is_kept frame.exclusion (nat_eq p q) (nat_eq (group_at a p) (group_at a q))) (positions (length numbers))

pub places_are_frames : PlacesAreFrames
places_are_frames = record { rows = rows; without_keys = without_keys }
