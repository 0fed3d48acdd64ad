-- The values of one range after another.
use Rattle.std.proofs.Common.{◌≡◌, ◌∙◌, ℕ, zero, suc, ◌+◌, ◌-◌, ◌<◌, ◌≤◌, ◌⊎◌, inl, inr, min, List, [], ◌∷◌, ◌++◌, length, map, take, drop, get_or, refl, sym, ap, subst, arith, Result, Ok, Err, IfOk}
use Rattle.std.specs.List.{range_with_len}
use Rattle.std.proofs.lemmas.Bool.{cases_lt, cases_order}
use Rattle.std.proofs.lemmas.List.{drop-drop, drop-take, drop_more, get_or-drop, get_or_append_left, get_or_push, length-drop, length_push, take_more}
use Rattle.wd_value.specs.declared.value.Value.TheVariants.{Null}
use Rattle.wd_plan.specs.declared.window.Exclusion.TheVariants.{NoOthers}
use Rattle.wd_plan.specs.declared.window.Frame.{Frame}
use Rattle.wd_frame.specs.declared.answer.Answer.{Answer}
use Rattle.wd_frame.specs.declared.extent.IndexRange.{IndexRange}
use Rattle.wd_frame.specs.Places.{PartRule}
use Rattle.wd_frame.specs.Slides.{IsAnswer, Plain, Values}
use Rattle.wd_frame.specs.IndexRanges.{AreAnswers, AreBounds, AreFrameAnswers, AreRising, picked, places_in, range_at, values_in}
use Rattle.wd_frame.proofs.BoundLaws.{places}

-- ---- values between two places

pub in_more : (vs : Values) (first place : ℕ) → first ≤ place → place < length vs → values_in vs first (place + 1) ≡ values_in vs first place ++ get_or vs place Null ∷ []
in_more vs first place le lt =
    let long : place - first < length (drop first vs) = omega (arith, length-drop first vs) in
    let count : place + 1 - first ≡ place - first + 1 = omega arith in
    let there : first + (place - first) ≡ place = omega arith in
    ap (λ n. take n (drop first vs)) count
    ∙ take_more (drop first vs) (place - first) Null long
    ∙ ap (λ v. take (place - first) (drop first vs) ++ v ∷ []) (get_or-drop first vs (place - first) Null ∙ ap (λ n. get_or vs n Null) there)

pub in_drop : (vs : Values) (first until end : ℕ) → first ≤ until → until ≤ end → drop (until - first) (values_in vs first end) ≡ values_in vs until end
in_drop vs first until end le lt =
    let count : end - first ≡ (until - first) + (end - until) = omega arith in
    let there : first + (until - first) ≡ until = omega arith in
    ap (λ n. drop (until - first) (take n (drop first vs))) count
    ∙ drop-take (until - first) (end - until) (drop first vs)
    ∙ ap (take (end - until)) (drop-drop (until - first) first vs ∙ ap (λ n. drop n vs) there)

pub in_until : (vs : Values) (start end : ℕ) → values_in vs (min start end) end ≡ values_in vs start end
in_until vs start end = by (cases_lt start end)
  where
    by : (start < end) ⊎ (end ≤ start) → values_in vs (min start end) end ≡ values_in vs start end
    by (inl lt) = let is : min start end ≡ start = omega arith in ap (λ n. values_in vs n end) is
    by (inr le) =
        let none : end - min start end ≡ 0 = omega arith in
        let no : end - start ≡ 0 = omega arith in
        ap (λ n. take n (drop (min start end) vs)) none ∙ sym (ap (λ n. take n (drop start vs)) no)

pub map-range : (vs : Values) (n s : ℕ) → s + n ≤ length vs → map (λ q. get_or vs q Null) (range_with_len s n) ≡ take n (drop s vs)
map-range vs zero s le = refl
map-range vs (suc n) s le =
    ap (λ rest. get_or vs s Null ∷ rest) (map-range vs n (s + 1) (omega arith)) ∙ sym (ap (take (suc n)) (drop_more vs s Null (omega arith)))

pub picked-in : (vs : Values) (s : IndexRange) → s.start ≤ length vs → s.end ≤ length vs → picked vs (places_in s) ≡ values_in vs s.start s.end
picked-in vs s l m = map-range vs (s.end - s.start) s.start (omega arith)

-- ---- answers so far

pub record AreSoFar (plain : Values → Plain) (values : Values) (ranges : List IndexRange) (i : ℕ) (answers : List Answer) (first next : ℕ) (held : Values) : Type 0 where
  pub long : length answers ≡ i
  pub each : (p : ℕ) (other : Answer) → p < i → IsAnswer plain (picked values (places_in (range_at ranges p))) (get_or answers p other)
  pub held_is : held ≡ values_in values first next
  pub ordered : first ≤ next
  pub within : next ≤ length values
  pub next_start : (p : ℕ) → i ≤ p → p < length ranges → first ≤ (range_at ranges p).start
  pub next_end : (p : ℕ) → i ≤ p → p < length ranges → next ≤ (range_at ranges p).end

pub none_yet : (plain : Values → Plain) (values : Values) (ranges : List IndexRange) (held : Values) → held ≡ [] → AreSoFar plain values ranges 0 [] 0 0 held
none_yet plain values ranges held e = record {
  long = refl;
  each = λ p other l. absurd (omega arith);
  held_is = e;
  ordered = omega arith;
  within = omega arith;
  next_start = λ p l m. omega arith;
  next_end = λ p l m. omega arith;
}

min_left : (a b c : ℕ) → a ≤ c → min a b ≤ c
min_left a b c l = omega arith

pub one_more : (plain : Values → Plain) (values : Values) (ranges : List IndexRange) (i : ℕ) (answers : List Answer) (first next : ℕ) (held held' : Values) (a : Answer)
    → AreSoFar plain values ranges i answers first next held → AreRising (length values) ranges → i < length ranges
    → let s = range_at ranges i in held' ≡ values_in values (min s.start s.end) s.end → IsAnswer plain held' a
    → AreSoFar plain values ranges (i + 1) (answers ++ a ∷ []) (min s.start s.end) s.end held'
one_more plain values ranges i answers first next held held' a so_far rising there is answered = record {
  long = length_push answers a ∙ ap (λ n. n + 1) so_far.long;
  each = λ p other l. one p other l (cases_order p i);
  held_is = is;
  ordered = omega arith;
  within = rising.end_within i there;
  next_start = λ p l m. min_left (range_at ranges i).start (range_at ranges i).end (range_at ranges p).start (rising.starts i p (omega arith) m);
  next_end = λ p l m. rising.ends i p (omega arith) m;
}
  where
    here : IsAnswer plain (picked values (places_in (range_at ranges i))) a
    here =
        subst (λ vs. IsAnswer plain vs a)
        (is ∙ in_until values (range_at ranges i).start (range_at ranges i).end ∙ sym (picked-in values (range_at ranges i) (rising.start_within i there) (rising.end_within i there)))
        answered

    one : (p : ℕ) (other : Answer) → p < i + 1 → (p ≡ i) ⊎ ((p < i) ⊎ (i < p)) → IsAnswer plain (picked values (places_in (range_at ranges p))) (get_or (answers ++ a ∷ []) p other)
    one p other l (inl e) =
        subst (IsAnswer plain (picked values (places_in (range_at ranges p)))) (sym (get_or_push answers a other p (so_far.long ∙ sym e)))
        (subst (λ n. IsAnswer plain (picked values (places_in (range_at ranges n))) a) (sym e) here)
    one p other l (inr (inl o)) =
        subst (IsAnswer plain (picked values (places_in (range_at ranges p)))) (sym (get_or_append_left answers (a ∷ []) other p (let long = so_far.long in omega arith))) (so_far.each p other o)
    one p other l (inr (inr o)) = absurd (omega arith)

pub all_are : (plain : Values → Plain) (values : Values) (ranges : List IndexRange) (i : ℕ) (answers : List Answer) (first next : ℕ) (held : Values)
    → AreSoFar plain values ranges i answers first next held → i ≡ length ranges → AreAnswers plain (λ p. picked values (places_in (range_at ranges p))) (length ranges) answers
all_are plain values ranges i answers first next held so_far whole = record {
  long = so_far.long ∙ whole;
  each = λ p other l. so_far.each p other (omega arith);
}

-- ---- frames

pub frame_answers : (plain : Values → Plain) (part : PartRule) (frame : Frame) (values : Values) (ranges : List IndexRange) (answers : List Answer)
    → AreBounds part frame ranges → AreAnswers plain (λ p. picked values (places_in (range_at ranges p))) (length ranges) answers → frame.exclusion ≡ NoOthers → AreFrameAnswers plain part frame values answers
frame_answers plain part frame values ranges answers bounds are all = record {
  long = are.long ∙ bounds.long;
  each = λ ordered p other l.
      let so_many = bounds.long in
      let within : p < length ranges = omega arith in
      let start = bounds.start ordered p within in
      let end = bounds.end ordered p within in
      (are.each p other within).exact
      ∙ (λ i. plain (picked values (range_with_len (start i) (end i - start i))))
      ∙ ap (λ ps. plain (picked values ps)) (sym (places part frame p ordered all l));
}

pub IfOk-on : {X E : Type 0} {P Q : X → Type 0} (r : Result X E) → IfOk r P → ((x : X) → P x → Q x) → IfOk r Q
IfOk-on (Ok x) h f = f x h
IfOk-on (Err e) h f = tt
