-- Places of ranges, one list after another.
use Rattle.std.proofs.Common.{◌≡◌, ◌∙◌, ℕ, zero, suc, ◌+◌, ◌-◌, ◌<◌, ◌≤◌, List, [], ◌∷◌, ◌++◌, length, drop, get_or, refl, sym, ap, arith, Some}
use Rattle.std.specs.List.{range_with_len, slice_get}
use Rattle.std.specs.declared.alloc.Global.{Global}
use Rattle.std.specs.declared.vec.Vec.{Vec}
use Rattle.std.proofs.lemmas.List.{get_or-map, length-append, length-map}
use Rattle.std.proofs.lemmas.List.FromFn.{length-range_with_len}
use Rattle.wd_frame.specs.declared.extent.IndexRange.{IndexRange}
use Rattle.wd_frame.specs.IndexRanges.{lists_of, places_along, places_in, range_at}

-- the places of the lists from one on
pub along-drop : (lists : List (List IndexRange)) (i p : ℕ) → i < length lists → places_along (drop i lists) p ≡ places_in (range_at (get_or lists i []) p) ++ places_along (drop (i + 1) lists) p
along-drop [] i p l = absurd (omega arith)
along-drop (list ∷ lists) zero p l = refl
along-drop (list ∷ lists) (suc i) p l = let next : suc i + 1 ≡ suc (i + 1) = omega arith in along-drop lists i p (omega arith) ∙ ap (λ n. places_in (range_at (get_or lists i []) p) ++ places_along (drop n (list ∷ lists)) p) (sym next)

-- the same of the lists that the code holds
pub along_next : (lists : List (Vec IndexRange Global)) (i p : ℕ) (list : Vec IndexRange Global) (s : IndexRange) → i < length lists → list ≡ get_or lists i list → s ≡ range_at list.items p
    → places_along (drop i (lists_of lists)) p ≡ places_in s ++ places_along (drop (i + 1) (lists_of lists)) p
along_next lists i p list s l e f =
    let many = length-map lists (λ (v : Vec IndexRange Global). v.items) in
    let at : get_or (lists_of lists) i [] ≡ list.items = get_or-map (λ (v : Vec IndexRange Global). v.items) lists i list [] l ∙ ap (λ (v : Vec IndexRange Global). v.items) (sym e) in
    along-drop (lists_of lists) i p (omega arith) ∙ ap (λ (t : IndexRange). places_in t ++ places_along (drop (i + 1) (lists_of lists)) p) (ap (λ items. range_at items p) at ∙ sym f)

-- an element of a list with another after it
pub get-within : (xs ys : List ℕ) (n : ℕ) → n < length xs → slice_get (xs ++ ys) n ≡ slice_get xs n
get-within [] ys n l = absurd (omega arith)
get-within (x ∷ xs) ys zero l = refl
get-within (x ∷ xs) ys (suc n) l = get-within xs ys n (omega arith)

pub get-after : (xs ys : List ℕ) (n : ℕ) → length xs ≤ n → slice_get (xs ++ ys) n ≡ slice_get ys (n - length xs)
get-after [] ys n l = ap (slice_get ys) (omega arith)
get-after (x ∷ xs) ys zero l = absurd (omega arith)
get-after (x ∷ xs) ys (suc n) l = let less : suc n - suc (length xs) ≡ n - length xs = omega arith in get-after xs ys n (omega arith) ∙ ap (slice_get ys) (sym less)

pub get-range : (s k n : ℕ) → n < k → slice_get (range_with_len s k) n ≡ Some (s + n)
get-range s zero n l = absurd (omega arith)
get-range s (suc k) zero l = ap Some (omega arith)
get-range s (suc k) (suc n) l = let there : s + 1 + n ≡ s + suc n = omega arith in get-range (s + 1) k n (omega arith) ∙ ap Some there

pub get_next : (s : IndexRange) (ps : List ℕ) (left : ℕ) → left < s.end - s.start → slice_get (places_in s ++ ps) left ≡ Some (s.start + left)
get_next s ps left l = let long = length-range_with_len s.start (s.end - s.start) in get-within (places_in s) ps left (omega arith) ∙ get-range s.start (s.end - s.start) left l

pub get_later : (s : IndexRange) (ps : List ℕ) (left : ℕ) → s.end - s.start ≤ left → slice_get (places_in s ++ ps) left ≡ slice_get ps (left - (s.end - s.start))
get_later s ps left l = let long = length-range_with_len s.start (s.end - s.start) in get-after (places_in s) ps left (omega arith) ∙ ap (λ n. slice_get ps (left - n)) long

pub length_next : (s : IndexRange) (ps : List ℕ) → length (places_in s ++ ps) ≡ (s.end - s.start) + length ps
length_next s ps = let long = length-range_with_len s.start (s.end - s.start) in length-append (places_in s) ps ∙ ap (λ n. n + length ps) long
