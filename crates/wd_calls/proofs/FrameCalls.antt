-- The functions of a frame, from the frame's places.
use Rattle.std.proofs.Common.{◌≡◌, ◌∙◌, ℕ, zero, suc, ◌+◌, ◌<◌, ◌≤◌, pos, ◌-ℤ◌, Bool, true, false, cond, not, ◌&&◌, List, [], ◌∷◌, map, filter, length, get_or, count_by, nat_eq, refl, sym, ap, arith, Result, Ok, Err, IfOk}
use Rattle.std.specs.List.{range_with_len}
use Rattle.std.proofs.lemmas.List.{length-map}
use Rattle.std.proofs.lemmas.List.Sums.{sum_by-cons}
use Rattle.wd_value.specs.Bags.{positions}
use Rattle.wd_value.specs.Rows.{Row, column_of, row_at, rows_at}
use Rattle.wd_plan.specs.declared.window.Frame.{Frame}
use Rattle.wd_plan.specs.declared.function.FrameFunction.{FrameFunction}
use Rattle.wd_plan.specs.declared.function.Function.TheVariants.{OfFrame}
use Rattle.wd_plan.specs.Calls.{call_value, frame_value}
use Rattle.wd_plan.specs.Expressions.{is_null}
use Rattle.wd_plan.specs.Frames.{Distances, bound_asks, ends_at, frame_of, is_kept, starts_at}
use Rattle.wd_plan.specs.Partitions.{group_of}
use Rattle.wd_plan.specs.Plans.{ClassRule}
use Rattle.wd_frame.specs.Laws.{has_range_offset, is_descending, key_values, part_in}
use Rattle.wd_frame.specs.Places.{PartRule, is_member, places_of}
use Rattle.wd_frame.proofs.FrameLaws.{places_are_frames, same_keys}
use Rattle.wd_calls.specs.Parts.{IsPartOf}
use Rattle.wd_frame.specs.Slides.{present}
use Rattle.wd_calls.specs.Values.{values_at}

pub count_map : {X Y : Type 0} (p : Y → Bool) (f : X → Y) (xs : List X) → count_by p (map f xs) ≡ count_by (λ x. p (f x)) xs
count_map p f [] = refl
count_map p f (x ∷ xs) = sum_by-cons (λ y. cond (p y) 1 0) (f x) (map f xs) ∙ ap (λ n. cond (p (f x)) 1 0 + n) (count_map p f xs) ∙ sym (sum_by-cons (λ y. cond (p (f y)) 1 0) x xs)

-- ---- the frame's places

filter_step : (t u : ℕ → Bool) (a : ℕ) (ps qs : List ℕ) → t a ≡ u a → ps ≡ qs → cond (t a) (a ∷ ps) ps ≡ cond (u a) (a ∷ qs) qs
filter_step t u a ps qs e r = λ i. cond (e i) (a ∷ r i) (r i)

filter_below : (t u : ℕ → Bool) (n a : ℕ) → ((q : ℕ) → a ≤ q → q < a + n → t q ≡ u q) → filter t (range_with_len a n) ≡ filter u (range_with_len a n)
filter_below t u zero a h = refl
filter_below t u (suc n) a h = filter_step t u a (filter t (range_with_len (a + 1) n)) (filter u (range_with_len (a + 1) n)) (h a (omega arith) (omega arith)) (filter_below t u n (a + 1) (λ q l m. h q (omega arith) (omega arith)))

module _ {class : ClassRule} {frame : Frame} {partition : List Row} {part : PartRule} (place : ℕ) (is : IsPartOf class frame partition part) (within : place < length partition) where
  same_member : has_range_offset frame ≡ true → (q : ℕ) → q < length partition → is_member part frame place q ≡ is_member (part_in class partition) frame place q
  same_member offset q l =
      let keys = is.keys offset place q within l ∙ sym (same_keys class.order partition place q within l) in
      λ i. (let d : Distances = record { places = pos q -ℤ pos place; groups = pos (get_or (is.groups i) q 0) -ℤ pos (get_or (is.groups i) place 0); keys = keys i } in
      (bound_asks frame.mode starts_at frame.start d && bound_asks frame.mode ends_at frame.end d) && is_kept frame.exclusion (nat_eq place q) (nat_eq (get_or (is.groups i) place 0) (get_or (is.groups i) q 0)))

  same_places : places_of part frame place ≡ places_of (part_in class partition) frame place
  same_places = by (has_range_offset frame) refl
    where
      long : length part.groups ≡ length partition
      long = ap length is.groups ∙ length-map partition (group_of class partition)

      by : (b : Bool) → has_range_offset frame ≡ b → places_of part frame place ≡ places_of (part_in class partition) frame place
      by true e =
          ap (λ n. filter (is_member part frame place) (positions n)) long
          ∙ filter_below (is_member part frame place) (is_member (part_in class partition) frame place) (length partition) 0 (λ q l m. same_member e q (omega arith))
          ∙ ap (λ n. filter (is_member (part_in class partition) frame place) (positions n)) (sym (length-map partition (group_of class partition)))
      by false e =
          places_are_frames.without_keys part.groups part.keys (key_values class.order partition) part.desc (is_descending class.order) frame place e
          ∙ ap (λ gs. places_of (record { groups = gs; keys = key_values class.order partition; desc = is_descending class.order }) frame place) is.groups

  pub frame_rows : map (row_at partition) (places_of part frame place) ≡ frame_of class frame partition place
  frame_rows = ap (map (row_at partition)) same_places ∙ places_are_frames.rows class frame partition place within

  -- the value of a function of a frame over the rows at the frame's places
  pub frame_call : (function : FrameFunction) → frame_value function (rows_at partition (places_of part frame place)) ≡ call_value class frame (OfFrame function) partition place
  frame_call function = ap (frame_value function) frame_rows

-- ---- counts

pub present_is : (partition : List Row) (c : ℕ) (places : List ℕ) → present (values_at partition c places) ≡ count_by (λ r. not (is_null (column_of r c))) (rows_at partition places)
present_is partition c places = count_map (λ v. not (is_null v)) (λ r. column_of r c) (rows_at partition places)

pub IfOk-on : {X E : Type 0} {P Q : X → Type 0} (r : Result X E) → IfOk r P → ((x : X) → P x → Q x) → IfOk r Q
IfOk-on (Ok x) h f = f x h
IfOk-on (Err e) h f = tt
