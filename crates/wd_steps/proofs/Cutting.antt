-- What a Limit keeps, as a front of the rows.
use Rattle.std.proofs.Common.{◌≡◌, ℕ, zero, suc, ◌+◌, ◌-◌, ◌<◌, ◌≤◌, min, Bool, true, false, List, [], ◌∷◌, map, take, drop, take_while, length, get_or, refl, sym, ap, ◌∙◌, arith, length-drop}
use Rattle.std.specs.List.{prefix_len}
use Rattle.std.proofs.lemmas.List.{take-map, take_min, drop_min, length-map, length-take, get_or-drop, get_or-map, get_or-take}
use Rattle.wd_value.specs.Rows.{Row, row_at, rows_at}
use Rattle.wd_value.specs.declared.order.SortColumn.{SortColumn}
use Rattle.wd_plan.specs.Outcomes.{first_rows, peers}
use Rattle.wd_steps.specs.Cuts.{IsSliceOf}

drop-map : {X Y : Type 0} (f : X → Y) (n : ℕ) (xs : List X) → drop n (map f xs) ≡ map f (drop n xs)
drop-map f zero xs = refl
drop-map f (suc n) [] = refl
drop-map f (suc n) (x ∷ xs) = drop-map f n xs

pub first_rows-take : (keys : List SortColumn) (n : ℕ) (rows : List Row) → first_rows keys false n rows ≡ take n rows
first_rows-take keys zero rows = refl
first_rows-take keys (suc n) [] = refl
first_rows-take keys (suc zero) (r ∷ rows) = refl
first_rows-take keys (suc (suc n)) (r ∷ rows) = ap (λ rs. r ∷ rs) (first_rows-take keys (suc n) rows)

pub first_rows-none : (keys : List SortColumn) (ties : Bool) (n : ℕ) (rows : List Row) → min n (length rows) ≡ 0 → first_rows keys ties n rows ≡ []
first_rows-none keys ties zero rows e = refl
first_rows-none keys ties (suc n) [] e = refl
first_rows-none keys ties (suc n) (r ∷ rows) e = absurd (omega arith)

take_while-take : {X : Type 0} (t : X → Bool) (xs : List X) → take (length (take_while t xs)) xs ≡ take_while t xs
take_while-take t xs = ap (λ k. take k xs) (length-take (prefix_len t xs) xs) ∙ take_min (prefix_len t xs) xs

take-cons : {X : Type 0} (x : X) (xs : List X) (n k : ℕ) → n ≡ suc k → take n (x ∷ xs) ≡ x ∷ take k xs
take-cons x xs n k e = ap (λ m. take m (x ∷ xs)) e

module _ (keys : List SortColumn) (last : Row) where
  -- the rows up to here, and those that follow and tie with the last
  abbrev and_peers : ℕ → List Row → List Row
  and_peers end rows = take (end + length (take_while (peers keys last) (drop end rows))) rows

  -- with ties the first rows are followed by those that tie with the last of them
  pub first_rows-ties : (n : ℕ) (rows : List Row) (place : ℕ) → suc place ≡ min n (length rows) → last ≡ get_or rows place last → first_rows keys true n rows ≡ and_peers (suc place) rows
  first_rows-ties zero rows place e is = absurd (omega arith)
  first_rows-ties (suc n) [] place e is = absurd (omega arith)
  first_rows-ties (suc zero) (r ∷ rows) zero e is =
      ap (λ q. q ∷ take_while (peers keys q) rows) (sym is)
      ∙ ap (λ rs. last ∷ rs) (sym (take_while-take (peers keys last) rows))
      ∙ sym (take-cons last rows (1 + length (take_while (peers keys last) rows)) _ (omega arith))
      ∙ ap (λ q. take (1 + length (take_while (peers keys last) rows)) (q ∷ rows)) is
  first_rows-ties (suc zero) (r ∷ rows) (suc place) e is = absurd (omega arith)
  first_rows-ties (suc (suc n)) (r ∷ []) zero e is = refl
  first_rows-ties (suc (suc n)) (r ∷ []) (suc place) e is = absurd (omega arith)
  first_rows-ties (suc (suc n)) (r ∷ (q ∷ rows)) zero e is = absurd (omega arith)
  first_rows-ties (suc (suc n)) (r ∷ (q ∷ rows)) (suc place) e is =
      ap (λ rs. r ∷ rs) (first_rows-ties (suc n) (q ∷ rows) place (omega arith) is)
      ∙ sym (take-cons r (q ∷ rows) (suc (suc place) + length (take_while (peers keys last) (drop (suc place) (q ∷ rows)))) _ (omega arith))

module _ (keys : List SortColumn) (rows : List Row) (ordering : List ℕ) (n end : ℕ) (is : end ≡ min n (length ordering)) where
  rows_long : end ≡ min n (length (rows_at rows ordering))
  rows_long = is ∙ ap (min n) (sym (length-map ordering (row_at rows)))

  pub first_positions-plain : (ties : Bool) → ties ≡ false → rows_at rows (take end ordering) ≡ first_rows keys ties n (rows_at rows ordering)
  first_positions-plain ties without =
      sym (take-map (row_at rows) end ordering) ∙ ap (λ k. take k (rows_at rows ordering)) rows_long ∙ take_min n (rows_at rows ordering)
      ∙ sym (ap (λ t. first_rows keys t n (rows_at rows ordering)) without ∙ first_rows-take keys n (rows_at rows ordering))

  pub first_positions-none : (ties : Bool) → end ≡ 0 → rows_at rows (take end ordering) ≡ first_rows keys ties n (rows_at rows ordering)
  first_positions-none ties none =
      ap (λ k. rows_at rows (take k ordering)) none ∙ sym (first_rows-none keys ties n (rows_at rows ordering) (sym rows_long ∙ none))

  pub first_positions-ties : (ties : Bool) (last : Row) (more : ℕ) → ties ≡ true → (end ≡ 0 → ⊥) → last ≡ row_at rows (get_or ordering (end - 1) 0) → more ≡ length (take_while (peers keys last) (rows_at rows (drop end ordering)))
      → rows_at rows (take (end + more) ordering) ≡ first_rows keys ties n (rows_at rows ordering)
  first_positions-ties ties last more with_ties some there counted =
      let within : end - 1 < length ordering = omega arith in
      let here : suc (end - 1) ≡ end = omega arith in
      let at : last ≡ get_or (rows_at rows ordering) (end - 1) last = there ∙ sym (get_or-map (row_at rows) ordering (end - 1) 0 last within) in
      sym (take-map (row_at rows) (end + more) ordering)
      ∙ ap (λ k. take (end + k) (rows_at rows ordering)) (counted ∙ ap (λ rs. length (take_while (peers keys last) rs)) (sym (drop-map (row_at rows) end ordering)))
      ∙ sym (ap (λ t. first_rows keys t n (rows_at rows ordering)) with_ties ∙ first_rows-ties keys last n (rows_at rows ordering) (end - 1) (here ∙ rows_long) at ∙ ap (λ e. and_peers keys last e (rows_at rows ordering)) here)

pub rows_after : (rows : List Row) (ordering : List ℕ) (offset start : ℕ) → start ≡ min offset (length ordering) → rows_at rows (drop start ordering) ≡ drop offset (rows_at rows ordering)
rows_after rows ordering offset start is =
    ap (λ k. rows_at rows (drop k ordering)) is ∙ ap (rows_at rows) (drop_min offset ordering) ∙ sym (drop-map (row_at rows) offset ordering)

-- ---- a part of the ordering

pub front_range : (n : ℕ) (xs : List ℕ) → IsSliceOf xs (take n xs)
front_range n xs =
    let long = length-take n xs in
    record {
      start = 0;
      within = omega arith;
      each = λ k h. (let here : k ≡ 0 + k = omega arith in get_or-take n xs k 0 (omega arith) ∙ ap (λ j. get_or xs j 0) here);
    }

pub whole_range : (xs : List ℕ) → IsSliceOf xs xs
whole_range xs = record {
  start = 0;
  within = omega arith;
  each = λ k h. (let here : k ≡ 0 + k = omega arith in ap (λ j. get_or xs j 0) here);
}

pub rest_range : (start : ℕ) (xs part : List ℕ) → start ≤ length xs → IsSliceOf (drop start xs) part → IsSliceOf xs part
rest_range start xs part low p =
    let long = length-drop start xs in
    let within = p.within in
    record {
      start = start + p.start;
      within = omega arith;
      each = λ k h. (let here : start + (p.start + k) ≡ start + p.start + k = omega arith in p.each k h ∙ get_or-drop start xs (p.start + k) 0 ∙ ap (λ j. get_or xs j 0) here);
    }
