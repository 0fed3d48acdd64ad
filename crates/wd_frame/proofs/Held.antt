-- What a slide keeps of the values that it holds.
use Rattle.std.proofs.Common.{◌≡◌, ◌∙◌, ℕ, ◌+◌, ◌-◌, ◌*◌, ◌^◌, ◌<◌, ◌≤◌, ℤ, pos, neg_ℤ, ◌+ℤ◌, ◌-ℤ◌, ◌≤ℤ◌, true, false, cond, List, [], ◌∷◌, ◌++◌, length, take, get_or, refl, sym, ap, arith, Bor, is_gt}
use Rattle.std.specs.List.{AllByRecursion}
use Rattle.std.proofs.lemmas.Int.{ints}
use Rattle.std.proofs.lemmas.List.{map-append, take_more, take_all}
use Rattle.std.proofs.lemmas.List.Sums.{sum_by-cons, sum_by_push}
use Rattle.wd_value.specs.declared.order.SortKey.{SortKey}
use Rattle.wd_value.specs.declared.value.Value.{Value}
use Rattle.wd_value.specs.declared.value.Value.TheVariants.{Null, Int, Text, Bool as Truth}
use Rattle.wd_value.specs.Order.{compare}
use Rattle.wd_plan.specs.Calls.{total}
use Rattle.wd_frame.specs.Kept.{IsHeld, IsSumOf, candidates, number_of, one_if, popped, pushed, trimmed}
use Rattle.wd_frame.specs.Slides.{Nothing, Of, Values, first_over, is_number, numbers, seen}
use Rattle.wd_frame.proofs.Candidates.{answers_none, answers_some, candidates-pop, candidates-push, trimmed-push}

pub seen-push : (xs : List (Bor Value)) (r : Bor Value) → seen (xs ++ r ∷ []) ≡ seen xs ++ r.now ∷ []
seen-push xs r = map-append (λ (b : Bor Value). b.now) xs (r ∷ [])

-- ---- totals

pub total-cons : (v : Value) (vs : Values) → total (v ∷ vs) ≡ number_of v +ℤ total vs
total-cons (Int n) vs = refl
total-cons Null vs = omega (arith, ints)
total-cons (Text t) vs = omega (arith, ints)
total-cons (Truth b) vs = omega (arith, ints)

pub total-push : (vs : Values) (v : Value) → total (vs ++ v ∷ []) ≡ total vs +ℤ number_of v
total-push [] v = let e = total-cons v [] in omega (arith, ints)
total-push (w ∷ vs) v = let e = total-cons w (vs ++ v ∷ []) in let f = total-cons w vs in let g = total-push vs v in omega (arith, ints)

pub record IsWithin (vs : Values) : Type 0 where
  pub least : neg_ℤ (pos (length vs * 2 ^ 63)) ≤ℤ total vs
  pub most : total vs ≤ℤ pos (length vs * 2 ^ 63)

pub total-within : (vs : Values) → AllByRecursion IsHeld vs → IsWithin vs
total-within [] held = record { least = omega (arith, ints); most = omega (arith, ints) }
total-within (v ∷ vs) held =
    let here = held.0 in
    let rest = total-within vs held.1 in
    let e = total-cons v vs in
    record { least = omega (arith, ints); most = omega (arith, ints) }

held-push : (vs : Values) (v : Value) → AllByRecursion IsHeld vs → IsHeld v → AllByRecursion IsHeld (vs ++ v ∷ [])
held-push [] v held here = (here, tt)
held-push (w ∷ vs) v held here = (held.0, held-push vs v held.1 here)

numbers-push : (vs : Values) (v : Value) → numbers (vs ++ v ∷ []) ≡ numbers vs + one_if (is_number v)
numbers-push vs v = sum_by_push (λ w. cond (is_number w) 1 0) vs v

pub numbers-cons : (v : Value) (vs : Values) → numbers (v ∷ vs) ≡ one_if (is_number v) + numbers vs
numbers-cons v vs = sum_by-cons (λ w. cond (is_number w) 1 0) v vs

pub IsSumOf-push : (xs ys : List (Bor Value)) (r : Bor Value) (n m : ℕ) (t u : ℤ) → IsSumOf (seen xs) n t → ys ≡ xs ++ r ∷ [] → m ≡ n + one_if (is_number r.now) → u ≡ t +ℤ number_of r.now → IsHeld r.now → IsSumOf (seen ys) m u
IsSumOf-push xs ys r n m t u is e counted exact held =
    rw (e, seen-push xs r) (
    let c = is.counted in let d = is.exact in
    let f = numbers-push (seen xs) r.now in let g = total-push (seen xs) r.now in
    record { counted = omega arith; exact = omega (arith, ints); held = held-push (seen xs) r.now is.held held })

pub IsSumOf-pop : (xs ys : List (Bor Value)) (r : Bor Value) (n m : ℕ) (t u : ℤ) → IsSumOf (seen xs) n t → xs ≡ r ∷ ys → m ≡ n - one_if (is_number r.now) → u ≡ t -ℤ number_of r.now → IsSumOf (seen ys) m u
IsSumOf-pop xs ys r n m t u is e counted exact =
    let c : n ≡ numbers (r.now ∷ seen ys) = is.counted ∙ ap (λ zs. numbers (seen zs)) e in
    let d : t ≡ total (r.now ∷ seen ys) = is.exact ∙ ap (λ zs. total (seen zs)) e in
    let h : AllByRecursion IsHeld (r.now ∷ seen ys) = rw e at is.held in
    let f = numbers-cons r.now (seen ys) in let g = total-cons r.now (seen ys) in
    record { counted = omega arith; exact = omega (arith, ints); held = h.1 }

-- ---- candidates

pub held_push : (key : SortKey) (xs vs ws : List (Bor Value)) (r : Bor Value) (new : Values) → key.nulls_first ≡ false → seen xs ≡ candidates key (seen vs) → ws ≡ vs ++ r ∷ [] → new ≡ pushed key (seen xs) r.now → new ≡ candidates key (seen ws)
held_push key xs vs ws r new first is e made =
    made ∙ ap (λ cs. pushed key cs r.now) is ∙ sym (candidates-push key (seen vs) r.now first) ∙ ap (candidates key) (sym (seen-push vs r)) ∙ ap (λ zs. candidates key (seen zs)) (sym e)

pub held_pop : (key : SortKey) (xs vs ws : List (Bor Value)) (r : Bor Value) (new : Values) → seen xs ≡ candidates key (seen vs) → vs ≡ r ∷ ws → new ≡ popped key (seen xs) r.now → new ≡ candidates key (seen ws)
held_pop key xs vs ws r new is e made =
    made ∙ ap (λ cs. popped key cs r.now) (is ∙ ap (λ zs. candidates key (seen zs)) e) ∙ candidates-pop key r.now (seen ws)

pub front_answers : (key : SortKey) (xs : List (Bor Value)) (vs : Values) (r : Bor Value) → key.nulls_first ≡ false → seen xs ≡ candidates key vs → 0 < length xs → r ≡ get_or xs 0 r → Of r.now ≡ first_over key vs
front_answers key [] vs r first is l e = absurd (omega arith)
front_answers key (x ∷ xs) vs r first is l e = ap (λ (b : Bor Value). Of b.now) e ∙ sym (answers_some key vs x.now (seen xs) first (sym is))

pub none_answers : (key : SortKey) (xs : List (Bor Value)) (vs : Values) → key.nulls_first ≡ false → seen xs ≡ candidates key vs → length xs ≤ 0 → Nothing ≡ first_over key vs
none_answers key [] vs first is l = sym (answers_none key vs first (sym is))
none_answers key (x ∷ xs) vs first is l = absurd (omega arith)

-- ---- the last of a list

last_is : (xs : List (Bor Value)) (r : Bor Value) → 0 < length xs → r ≡ get_or xs (length xs - 1) r → xs ≡ take (length xs - 1) xs ++ r ∷ []
last_is xs r l e =
    let more = take_more xs (length xs - 1) r (omega arith) in
    let all : length xs - 1 + 1 ≡ length xs = omega arith in
    sym (take_all (length xs) xs (omega arith)) ∙ ap (λ n. take n xs) (sym all) ∙ more ∙ ap (λ b. take (length xs - 1) xs ++ b ∷ []) (sym e)

pub trimmed-last : (key : SortKey) (xs ys : List (Bor Value)) (r : Bor Value) (x : Value) → 0 < length xs → r ≡ get_or xs (length xs - 1) r → ys ≡ take (length xs - 1) xs → is_gt (compare key r.now x) ≡ true → trimmed key (seen ys) x ≡ trimmed key (seen xs) x
trimmed-last key xs ys r x l e rest gt =
    let whole : xs ≡ ys ++ r ∷ [] = last_is xs r l e ∙ ap (λ zs. zs ++ r ∷ []) (sym rest) in
    sym (ap (λ zs. trimmed key (seen zs) x) whole ∙ ap (λ cs. trimmed key cs x) (seen-push ys r) ∙ trimmed-push key (seen ys) r.now x ∙ ap (λ b. cond b (trimmed key (seen ys) x) (seen ys ++ r.now ∷ [])) gt)

pub trimmed-all : (key : SortKey) (xs : List (Bor Value)) (r : Bor Value) (x : Value) → 0 < length xs → r ≡ get_or xs (length xs - 1) r → is_gt (compare key r.now x) ≡ false → trimmed key (seen xs) x ≡ seen xs
trimmed-all key xs r x l e gt =
    let ys = take (length xs - 1) xs in
    let whole : xs ≡ ys ++ r ∷ [] = last_is xs r l e in
    let back : seen ys ++ r.now ∷ [] ≡ seen xs = sym (seen-push ys r) ∙ ap seen (sym whole) in
    ap (λ zs. trimmed key (seen zs) x) whole ∙ ap (λ cs. trimmed key cs x) (seen-push ys r) ∙ trimmed-push key (seen ys) r.now x ∙ ap (λ b. cond b (trimmed key (seen ys) x) (seen ys ++ r.now ∷ [])) gt ∙ back

pub trimmed-none : (key : SortKey) (xs : List (Bor Value)) (x : Value) → length xs ≤ 0 → trimmed key (seen xs) x ≡ seen xs
trimmed-none key [] x l = refl
trimmed-none key (r ∷ xs) x l = absurd (omega arith)

-- the same of a list whose length has another name
pub trimmed_last : (key : SortKey) (xs ys : List (Bor Value)) (r : Bor Value) (x : Value) (n : ℕ) → n ≡ length xs → 0 < length xs → r ≡ get_or xs (n - 1) r → ys ≡ take (n - 1) xs → is_gt (compare key r.now x) ≡ true → trimmed key (seen ys) x ≡ trimmed key (seen xs) x
trimmed_last key xs ys r x n is l e rest gt = trimmed-last key xs ys r x l (e ∙ ap (λ m. get_or xs (m - 1) r) is) (rest ∙ ap (λ m. take (m - 1) xs) is) gt

pub trimmed_all : (key : SortKey) (xs : List (Bor Value)) (r : Bor Value) (x : Value) (n : ℕ) → n ≡ length xs → 0 < length xs → r ≡ get_or xs (n - 1) r → is_gt (compare key r.now x) ≡ false → trimmed key (seen xs) x ≡ seen xs
trimmed_all key xs r x n is l e gt = trimmed-all key xs r x l (e ∙ ap (λ m. get_or xs (m - 1) r) is) gt
