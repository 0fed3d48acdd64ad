-- Answers over lists of values, each with another list after it.
use Rattle.std.proofs.Common.{◌≡◌, ◌∙◌, ℕ, zero, suc, ◌+◌, ◌-◌, ◌*◌, ◌^◌, ◌<◌, ◌≤◌, List, [], ◌∷◌, ◌++◌, length, take, drop, set, get_or, sym, ap, subst, arith, ◌⊎◌, inl, inr}
use Rattle.std.specs.List.{AllByRecursion}
use Rattle.std.specs.declared.alloc.Global.{Global}
use Rattle.std.specs.declared.vec.Vec.{Vec}
use Rattle.std.proofs.lemmas.Bool.{cases_order}
use Rattle.std.proofs.lemmas.List.{append-nil, append_assoc, drop_all, get_or-map, get_or-set_other, get_or-set_same, length-append, length-map, length-set, map-append, take_all}
use Rattle.std.proofs.lemmas.List.FromFn.{length-range_with_len}
use Rattle.wd_value.specs.declared.value.Value.TheVariants.{Null}
use Rattle.wd_frame.specs.declared.answer.Answer.{Answer}
use Rattle.wd_frame.specs.declared.extent.IndexRange.{IndexRange}
use Rattle.wd_frame.specs.Slides.{IsAnswer, Plain, Values}
use Rattle.wd_frame.specs.IndexRanges.{AreAnswers, AreLists, IsAlong, lists_of, picked, places_along, places_in, range_at}

-- ---- place by place

abbrev pub AreFew : ℕ → (ℕ → Values) → (ℕ → Values) → Type 0
AreFew n f g = (p : ℕ) → p < n → length (f p) + length (g p) < 2 ^ 64

pub record AreJoinedUpTo (plain : Values → Plain) (initial more : List Answer) (place : ℕ) (answers : List Answer) : Type 0 where
  pub long : length answers ≡ length initial
  pub rest : (p : ℕ) (other : Answer) → place ≤ p → get_or answers p other ≡ get_or initial p other
  pub joined : (n : ℕ) (f g : ℕ → Values) → AreAnswers plain f n initial → AreAnswers plain g n more → AreFew n f g → (p : ℕ) (other : Answer) → p < place → p < n → IsAnswer plain (f p ++ g p) (get_or answers p other)

abbrev pub Joins : (Values → Plain) → Answer → Answer → Answer → Type 0
Joins plain x y a = (xs ys : Values) → IsAnswer plain xs x → IsAnswer plain ys y → length xs + length ys < 2 ^ 64 → IsAnswer plain (xs ++ ys) a

pub AreJoinedUpTo-more : (plain : Values → Plain) (initial more : List Answer) (place : ℕ) (answers : List Answer) (x y a : Answer) → AreJoinedUpTo plain initial more place answers → place < length answers
    → x ≡ get_or answers place x → y ≡ get_or more place y → Joins plain x y a → AreJoinedUpTo plain initial more (place + 1) (set answers place a)
AreJoinedUpTo-more plain initial more place answers x y a are there is also joins = record {
  long = length-set answers place a ∙ are.long;
  rest = λ p other l. get_or-set_other answers place p a other (λ (e : p ≡ place). absurd (omega arith)) ∙ are.rest p other (omega arith);
  joined = λ n f g first second few p other l m. one n f g first second few p other l m (cases_order p place);
}
  where
    here : (n : ℕ) (f g : ℕ → Values) → AreAnswers plain f n initial → AreAnswers plain g n more → AreFew n f g → place < n → IsAnswer plain (f place ++ g place) a
    here n f g first second few m =
        joins (f place) (g place)
        (subst (IsAnswer plain (f place)) (sym (is ∙ are.rest place x (omega arith))) (first.each place x m))
        (subst (IsAnswer plain (g place)) (sym also) (second.each place y m))
        (few place m)

    one : (n : ℕ) (f g : ℕ → Values) → AreAnswers plain f n initial → AreAnswers plain g n more → AreFew n f g → (p : ℕ) (other : Answer) → p < place + 1 → p < n → (p ≡ place) ⊎ ((p < place) ⊎ (place < p))
        → IsAnswer plain (f p ++ g p) (get_or (set answers place a) p other)
    one n f g first second few p other l m (inl e) =
        subst (λ k. IsAnswer plain (f k ++ g k) (get_or (set answers place a) k other)) (sym e)
        (subst (IsAnswer plain (f place ++ g place)) (sym (get_or-set_same answers place a other there)) (here n f g first second few (rw e at m)))
    one n f g first second few p other l m (inr (inl o)) =
        subst (IsAnswer plain (f p ++ g p)) (sym (get_or-set_other answers place p a other (λ (e : p ≡ place). absurd (omega arith)))) (are.joined n f g first second few p other o m)
    one n f g first second few p other l m (inr (inr o)) = absurd (omega arith)

pub AreJoined-all : (plain : Values → Plain) (initial more : List Answer) (place : ℕ) (answers : List Answer) → AreJoinedUpTo plain initial more place answers → place ≡ length initial
    → (n : ℕ) (f g : ℕ → Values) → AreAnswers plain f n initial → AreAnswers plain g n more → AreFew n f g → AreAnswers plain (λ p. f p ++ g p) n answers
AreJoined-all plain initial more place answers are all n f g first second few = record {
  long = are.long ∙ first.long;
  each = λ p other l. are.joined n f g first second few p other (let long = first.long in omega arith) l;
}

-- ---- list by list

-- a list of which all is written anew
pub all_new : {X : Type 0} (len : ℕ) (new old : List X) → length new ≡ length old → len ≡ length old → take len (new ++ drop (length new) old) ≡ new
all_new len new old same long =
    ap (λ rest. take len (new ++ rest)) (drop_all (length new) old (omega arith)) ∙ ap (take len) (append-nil new) ∙ take_all len new (omega arith)

pub list_at : (lists : List (Vec IndexRange Global)) (k : ℕ) (v : Vec IndexRange Global) → k < length lists → v ≡ get_or lists k v → get_or (lists_of lists) k [] ≡ v.items
list_at lists k v l e = get_or-map (λ (w : Vec IndexRange Global). w.items) lists k v [] l ∙ ap (λ (w : Vec IndexRange Global). w.items) (sym e)

pub answers_over : (plain : Values → Plain) (f g : ℕ → Values) (m n : ℕ) (answers : List Answer) → ((p : ℕ) → f p ≡ g p) → m ≡ n → AreAnswers plain f m answers → AreAnswers plain g n answers
answers_over plain f g m n answers same e are = record {
  long = are.long ∙ e;
  each = λ p other l. subst (λ vs. IsAnswer plain vs (get_or answers p other)) (same p) (are.each p other (omega arith));
}

along-more : (lists : List (List IndexRange)) (k p : ℕ) → k < length lists → places_along (take (k + 1) lists) p ≡ places_along (take k lists) p ++ places_in (range_at (get_or lists k []) p)
along-more [] k p l = absurd (omega arith)
along-more (list ∷ lists) zero p l = append-nil (places_in (range_at list p))
along-more (list ∷ lists) (suc k) p l =
    let next : suc k + 1 ≡ suc (k + 1) = omega arith in
    ap (λ n. places_along (take n (list ∷ lists)) p) next ∙ ap (λ ps. places_in (range_at list p) ++ ps) (along-more lists k p (omega arith)) ∙ sym (append_assoc (places_in (range_at list p)) (places_along (take k lists) p) (places_in (range_at (get_or lists k []) p)))

pub picked-more : (values : Values) (lists : List (List IndexRange)) (k p : ℕ) → k < length lists
    → picked values (places_along (take k lists) p) ++ picked values (places_in (range_at (get_or lists k []) p)) ≡ picked values (places_along (take (k + 1) lists) p)
picked-more values lists k p l =
    sym (ap (picked values) (along-more lists k p l) ∙ map-append (λ (q : ℕ). get_or values q Null) (places_along (take k lists) p) (places_in (range_at (get_or lists k []) p)))

pub along_at : (n : ℕ) (lists : List (List IndexRange)) (k : ℕ) → AllByRecursion (IsAlong n) lists → k < length lists → IsAlong n (get_or lists k [])
along_at n [] k are l = absurd (omega arith)
along_at n (list ∷ lists) zero are l = are.0
along_at n (list ∷ lists) (suc k) are l = along_at n lists k are.1 (omega arith)

-- a range has no more places than there are
pub in_few : (n : ℕ) (list : List IndexRange) (p : ℕ) → IsAlong n list → p < n → length (places_in (range_at list p)) ≤ n
in_few n list p are l =
    let s = range_at list p in
    let long = are.long in
    let within = are.rising.end_within p (omega arith) in
    let count = length-range_with_len s.start (s.end - s.start) in
    omega arith

along_few : (n : ℕ) (lists : List (List IndexRange)) (k p : ℕ) → AllByRecursion (IsAlong n) lists → p < n → length (places_along (take k lists) p) ≤ k * n
along_few n [] zero p are l = omega arith
along_few n [] (suc k) p are l = omega arith
along_few n (list ∷ lists) zero p are l = omega arith
along_few n (list ∷ lists) (suc k) p are l =
    let here = in_few n list p are.0 l in
    let rest = along_few n lists k p are.1 l in
    let sum = length-append (places_in (range_at list p)) (places_along (take k lists) p) in
    omega arith

pub few_values : (n : ℕ) (values : Values) (lists : List (List IndexRange)) (k : ℕ) → AreLists n lists → k < length lists → n < 2 ^ 62
    → AreFew n (λ p. picked values (places_along (take k lists) p)) (λ p. picked values (places_in (range_at (get_or lists k []) p)))
few_values n values lists k are l small = λ p m.
    let first = along_few n lists k p are.along m in
    let second = in_few n (get_or lists k []) p (along_at n lists k are.along l) m in
    let a = length-map (places_along (take k lists) p) (λ (q : ℕ). get_or values q Null) in
    let b = length-map (places_in (range_at (get_or lists k []) p)) (λ (q : ℕ). get_or values q Null) in
    let few = are.few in
    let most : k * n ≤ 2 * n = grind arith in
    omega arith
