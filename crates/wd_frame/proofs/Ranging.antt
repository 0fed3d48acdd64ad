-- The bounds of the places so far, and one more.
use Rattle.std.proofs.Common.{◌≡◌, ◌∙◌, ℕ, ◌+◌, ◌<◌, ◌≤◌, ◌⊎◌, inl, inr, List, [], ◌∷◌, ◌++◌, length, refl, sym, ap, subst, arith}
use Rattle.std.proofs.lemmas.Bool.{cases_order}
use Rattle.std.proofs.lemmas.List.{get_or_append_left, get_or_push, length_push}
use Rattle.wd_plan.specs.declared.window.Frame.{Frame}
use Rattle.wd_frame.specs.declared.distance.Side.TheVariants.{Start, End}
use Rattle.wd_frame.specs.declared.extent.IndexRange.{IndexRange}
use Rattle.wd_frame.specs.Bounds.{IsInOrder, end_of, start_of}
use Rattle.wd_frame.specs.Places.{PartRule}
use Rattle.wd_frame.specs.IndexRanges.{AreBounds, range_at}
use Rattle.wd_frame.proofs.BoundLaws.{bounds_rise}

-- those of the first places, and the last of them
pub record AreSoFar (part : PartRule) (frame : Frame) (place : ℕ) (all : List IndexRange) (start end : ℕ) : Type 0 where
  pub long : length all ≡ place
  pub starts : (p q : ℕ) → p < q → q < length all → (range_at all p).start ≤ (range_at all q).start
  pub ends : (p q : ℕ) → p < q → q < length all → (range_at all p).end ≤ (range_at all q).end
  pub last_start : (p : ℕ) → p < length all → (range_at all p).start ≤ start
  pub last_end : (p : ℕ) → p < length all → (range_at all p).end ≤ end
  pub start_within : start ≤ length part.groups
  pub end_within : end ≤ length part.groups
  pub start_is : IsInOrder part frame → (p : ℕ) → p < length all → (range_at all p).start ≡ start_of part frame p
  pub end_is : IsInOrder part frame → (p : ℕ) → p < length all → (range_at all p).end ≡ end_of part frame p
  -- no bound of a later place is less
  pub next_start : IsInOrder part frame → (p : ℕ) → place ≤ p → p < length part.groups → start ≤ start_of part frame p
  pub next_end : IsInOrder part frame → (p : ℕ) → place ≤ p → p < length part.groups → end ≤ end_of part frame p

-- what holds of the elements so far and of one more
pub each_more : (P : ℕ → IndexRange → Type 0) (all : List IndexRange) (s : IndexRange) → ((p : ℕ) → p < length all → P p (range_at all p)) → P (length all) s → (p : ℕ) → p < length (all ++ s ∷ []) → P p (range_at (all ++ s ∷ []) p)
each_more P all s each here p l = by (cases_order p (length all))
  where
    by : (p ≡ length all) ⊎ ((p < length all) ⊎ (length all < p)) → P p (range_at (all ++ s ∷ []) p)
    by (inl e) = subst (P p) (sym (get_or_push all s (record { start = 0; end = 0 }) p (sym e))) (subst (λ n. P n s) (sym e) here)
    by (inr (inl o)) = subst (P p) (sym (get_or_append_left all (s ∷ []) (record { start = 0; end = 0 }) p o)) (each p o)
    by (inr (inr o)) = absurd (let long = length_push all s in omega arith)

-- what rises so far and does not pass the next
rise_more : (f : IndexRange → ℕ) (all : List IndexRange) (s : IndexRange) → ((p q : ℕ) → p < q → q < length all → f (range_at all p) ≤ f (range_at all q)) → ((p : ℕ) → p < length all → f (range_at all p) ≤ f s)
    → (p q : ℕ) → p < q → q < length (all ++ s ∷ []) → f (range_at (all ++ s ∷ []) p) ≤ f (range_at (all ++ s ∷ []) q)
rise_more f all s rise last p q o l =
    let long : length (all ++ s ∷ []) ≡ length all + 1 = length_push all s in
    let low : p < length all = omega arith in
    subst (λ (x : IndexRange). f x ≤ f (range_at (all ++ s ∷ []) q)) (sym (get_or_append_left all (s ∷ []) (record { start = 0; end = 0 }) p low))
    (each_more (λ (n : ℕ) (x : IndexRange). p < n → f (range_at all p) ≤ f x) all s (λ n k h. rise p n h k) (λ h. last p low) q l o)

module _ (part : PartRule) (frame : Frame) (place : ℕ) (all : List IndexRange) (start end start' end' : ℕ) where
  pub one_more : place < length part.groups → AreSoFar part frame place all start end
      → start ≤ start' → start' ≤ length part.groups → (IsInOrder part frame → place < length part.groups → start ≤ start_of part frame place → start' ≡ start_of part frame place)
      → end ≤ end' → end' ≤ length part.groups → (IsInOrder part frame → place < length part.groups → end ≤ end_of part frame place → end' ≡ end_of part frame place)
      → AreSoFar part frame (place + 1) (all ++ record { start = start'; end = end' } ∷ []) start' end'
  one_more there so_far up within exact up_end within_end exact_end =
      let s : IndexRange = record { start = start'; end = end' } in
      let start_now : IsInOrder part frame → start' ≡ start_of part frame place = λ ordered. exact ordered there (so_far.next_start ordered place (omega arith) there) in
      let end_now : IsInOrder part frame → end' ≡ end_of part frame place = λ ordered. exact_end ordered there (so_far.next_end ordered place (omega arith) there) in
      let long = so_far.long in
      record {
        long = length_push all s ∙ ap (λ n. n + 1) so_far.long;
        starts = rise_more (λ x. x.start) all s so_far.starts (λ p l. let le = so_far.last_start p l in omega arith);
        ends = rise_more (λ x. x.end) all s so_far.ends (λ p l. let le = so_far.last_end p l in omega arith);
        last_start = each_more (λ p x. x.start ≤ start') all s (λ p l. let le = so_far.last_start p l in omega arith) (omega arith);
        last_end = each_more (λ p x. x.end ≤ end') all s (λ p l. let le = so_far.last_end p l in omega arith) (omega arith);
        start_within = within;
        end_within = within_end;
        start_is = λ ordered. each_more (λ p x. x.start ≡ start_of part frame p) all s (so_far.start_is ordered) (start_now ordered ∙ ap (start_of part frame) (sym long));
        end_is = λ ordered. each_more (λ p x. x.end ≡ end_of part frame p) all s (so_far.end_is ordered) (end_now ordered ∙ ap (end_of part frame) (sym long));
        next_start = λ ordered p l m. subst (λ n. n ≤ start_of part frame p) (sym (start_now ordered)) (bounds_rise part frame ordered Start place p (omega arith) m);
        next_end = λ ordered p l m. subst (λ n. n ≤ end_of part frame p) (sym (end_now ordered)) (bounds_rise part frame ordered End place p (omega arith) m);
      }

pub none_yet : (part : PartRule) (frame : Frame) → AreSoFar part frame 0 [] 0 0
none_yet part frame = record {
  long = refl;
  starts = λ p q o l. absurd (omega arith);
  ends = λ p q o l. absurd (omega arith);
  last_start = λ p l. absurd (omega arith);
  last_end = λ p l. absurd (omega arith);
  start_within = omega arith;
  end_within = omega arith;
  start_is = λ ordered p l. absurd (omega arith);
  end_is = λ ordered p l. absurd (omega arith);
  next_start = λ ordered p l m. omega arith;
  next_end = λ ordered p l m. omega arith;
}

pub all_are : (part : PartRule) (frame : Frame) (place : ℕ) (all : List IndexRange) (start end : ℕ) → AreSoFar part frame place all start end → place ≡ length part.groups → AreBounds part frame all
all_are part frame place all start end so_far whole = record {
  long = so_far.long ∙ whole;
  rising = record {
    starts = so_far.starts;
    ends = so_far.ends;
    start_within = λ p l. let le = so_far.last_start p l in let within = so_far.start_within in omega arith;
    end_within = λ p l. let le = so_far.last_end p l in let within = so_far.end_within in omega arith;
  };
  start = so_far.start_is;
  end = so_far.end_is;
}
