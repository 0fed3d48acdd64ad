-- The answer over one list of values and another after it.
use Rattle.std.proofs.Common.{◌≡◌, ◌∙◌, ℕ, ◌+◌, ◌^◌, ◌<◌, ℤ, pos, negsuc, neg_ℤ, ◌+ℤ◌, ◌≤ℤ◌, ◌-◌, Bool, true, false, cond, not, [], ◌∷◌, ◌++◌, if◌then◌else◌, nat_eq, length, refl, sym, ap, subst, arith, Ordering, Less, Equal, Greater, is_gt, ◌⊎◌, inl, inr}
use Rattle.std.specs.Int.{saturate_to_bits}
use Rattle.std.specs.Ordering.{ordering_reverse}
use Rattle.std.proofs.lemmas.Bool.{cases_eq}
use Rattle.std.proofs.lemmas.Bool.Decides.{nat_tests}
use Rattle.std.proofs.lemmas.Int.{ints}
use Rattle.std.proofs.lemmas.List.{length-append}
use Rattle.std.proofs.lemmas.List.Sums.{sum_by-append}
use Rattle.wd_value.specs.declared.order.SortKey.{SortKey}
use Rattle.wd_value.specs.declared.value.Value.{Value}
use Rattle.wd_value.specs.declared.value.Value.TheVariants.{Null, Int, Text, Bool as Truth}
use Rattle.wd_value.specs.Order.{compare}
use Rattle.wd_value.proofs.OrderLaws.{compare-exact, compare_total}
use Rattle.wd_plan.specs.Calls.{first_by, total}
use Rattle.wd_plan.specs.Expressions.{is_null}
use Rattle.wd_frame.specs.declared.answer.Answer.{Answer}
use Rattle.wd_frame.specs.Slides.{IsAnswer, IsSmall, Nothing, Number, Plain, Values, added, answer_of, count_over, first_of_two, first_over, is_number, numbers, shown, sum_over}
use Rattle.wd_frame.proofs.Candidates.{against_null, gt_trans}
use Rattle.wd_frame.proofs.Held.{numbers-cons, total-cons}

-- ---- counts and totals

count_joins : (xs ys : Values) → count_over (xs ++ ys) ≡ added (count_over xs) (count_over ys)
count_joins xs ys = ap (λ n. Number (pos n)) (sum_by-append (λ v. cond (not (is_null v)) 1 0) xs ys)

total-append : (xs ys : Values) → total (xs ++ ys) ≡ total xs +ℤ total ys
total-append [] ys = omega (arith, ints)
total-append (x ∷ xs) ys = let a = total-cons x (xs ++ ys) in let b = total-cons x xs in let c = total-append xs ys in omega (arith, ints)

no_total : (xs : Values) → numbers xs ≡ 0 → total xs ≡ pos 0
no_total [] e = refl
no_total (Int n ∷ xs) e = absurd (let more = numbers-cons (Int n) xs in omega arith)
no_total (Null ∷ xs) e = no_total xs (sym (let more = numbers-cons Null xs in omega arith) ∙ e)
no_total (Text t ∷ xs) e = no_total xs (sym (let more = numbers-cons (Text t) xs in omega arith) ∙ e)
no_total (Truth b ∷ xs) e = no_total xs (sym (let more = numbers-cons (Truth b) xs in omega arith) ∙ e)

abbrev sum_from : ℕ → ℤ → Plain
sum_from n t = if nat_eq n 0 then Nothing else Number t

-- of counts and totals
sums : (m n : ℕ) (a b : ℤ) → (m ≡ 0 → a ≡ pos 0) → (n ≡ 0 → b ≡ pos 0) → sum_from (m + n) (a +ℤ b) ≡ added (sum_from m a) (sum_from n b)
sums m n a b none nothing = by (cases_eq m 0) (cases_eq n 0)
  where
    is_0 : (k : ℕ) → k ≡ 0 → nat_eq k 0 ≡ true
    is_0 k e = grind (arith, nat_tests)

    is_more : (k : ℕ) → (k ≡ 0 → ⊥) → nat_eq k 0 ≡ false
    is_more k e = grind (arith, nat_tests)

    by : (m ≡ 0) ⊎ (m ≡ 0 → ⊥) → (n ≡ 0) ⊎ (n ≡ 0 → ⊥) → sum_from (m + n) (a +ℤ b) ≡ added (sum_from m a) (sum_from n b)
    by (inl e) (inl f) = let both : m + n ≡ 0 = omega arith in rw (is_0 (m + n) both, is_0 m e, is_0 n f) refl
    by (inl e) (inr f) =
        let some : m + n ≡ 0 → ⊥ = λ g. f (omega arith) in
        let t : a +ℤ b ≡ b = let z = none e in omega (arith, ints) in
        rw (is_more (m + n) some, is_0 m e, is_more n f) (ap Number t)
    by (inr e) (inl f) =
        let some : m + n ≡ 0 → ⊥ = λ g. e (omega arith) in
        let t : a +ℤ b ≡ a = let z = nothing f in omega (arith, ints) in
        rw (is_more (m + n) some, is_more m e, is_0 n f) (ap Number t)
    by (inr e) (inr f) =
        let some : m + n ≡ 0 → ⊥ = λ g. e (omega arith) in
        rw (is_more (m + n) some, is_more m e, is_more n f) refl

sum_joins : (xs ys : Values) → sum_over (xs ++ ys) ≡ added (sum_over xs) (sum_over ys)
sum_joins xs ys =
    ap (λ n. sum_from n (total (xs ++ ys))) (sum_by-append (λ v. cond (is_number v) 1 0) xs ys)
    ∙ ap (sum_from (numbers xs + numbers ys)) (total-append xs ys)
    ∙ sums (numbers xs) (numbers ys) (total xs) (total ys) (no_total xs) (no_total ys)

-- ---- the value that stands first

not_gt_trans : (key : SortKey) (a b c : Value) → is_gt (compare key a b) ≡ false → is_gt (compare key b c) ≡ false → is_gt (compare key a c) ≡ false
not_gt_trans key a b c e f = by (compare key a c) refl
  where
    contrary : (o : Ordering) → compare key b c ≡ o → compare key a c ≡ Greater → ⊥
    contrary Greater g h = let yes = ap is_gt g in cc
    contrary Equal g h = let same = compare-exact key b c g in let yes : is_gt (compare key a b) ≡ true = ap (λ v. is_gt (compare key a v)) same ∙ ap is_gt h in cc
    contrary Less g h =
        let total = compare_total key in
        let below : compare key c a ≡ Less = total.antisymm c a ∙ ap ordering_reverse h in
        let yes : is_gt (compare key a b) ≡ true = ap is_gt (total.antisymm a b ∙ ap ordering_reverse (total.trans b c a g below)) in
        cc

    by : (o : Ordering) → compare key a c ≡ o → is_gt (compare key a c) ≡ false
    by Less g = ap is_gt g
    by Equal g = ap is_gt g
    by Greater g = absurd (contrary (compare key b c) refl g)

abbrev first_of : SortKey → Value → Value → Value
first_of key v w = if is_gt (compare key v w) then w else v

first_of-assoc : (key : SortKey) (x v w : Value) → first_of key x (first_of key v w) ≡ first_of key (first_of key x v) w
first_of-assoc key x v w = by (is_gt (compare key x v)) refl (is_gt (compare key v w)) refl
  where
    by : (b : Bool) → is_gt (compare key x v) ≡ b → (c : Bool) → is_gt (compare key v w) ≡ c → first_of key x (if c then w else v) ≡ first_of key (if b then v else x) w
    by true e true f = rw (gt_trans key x v w e f, f) refl
    by true e false f = rw (e, f) refl
    by false e true f = refl
    by false e false f = rw (e, not_gt_trans key x v w e f) refl

first_null : (key : SortKey) (w : Value) → key.nulls_first ≡ false → w ≡ first_of key Null w
first_null key Null last = refl
first_null key (Int n) last = rw last refl
first_null key (Text t) last = rw last refl
first_null key (Truth b) last = rw last refl

first_by-append : (key : SortKey) (xs ys : Values) → key.nulls_first ≡ false → first_by key (xs ++ ys) ≡ first_of key (first_by key xs) (first_by key ys)
first_by-append key [] ys last = first_null key (first_by key ys) last
first_by-append key (x ∷ xs) ys last = ap (first_of key x) (first_by-append key xs ys last) ∙ first_of-assoc key x (first_by key xs) (first_by key ys)

chosen : (b : Bool) (v w : Value) → answer_of (if b then w else v) ≡ (if b then answer_of w else answer_of v)
chosen true v w = refl
chosen false v w = refl

two_answers : (key : SortKey) (v w : Value) → key.nulls_first ≡ false → answer_of (first_of key v w) ≡ first_of_two key (answer_of v) (answer_of w)
two_answers key Null w last = ap answer_of (sym (first_null key w last))
two_answers key (Int n) Null last = rw (against_null key (Int n) last) refl
two_answers key (Text n) Null last = rw (against_null key (Text n) last) refl
two_answers key (Truth n) Null last = rw (against_null key (Truth n) last) refl
two_answers key (Int n) (Int m) last = chosen (is_gt (compare key (Int n) (Int m))) (Int n) (Int m)
two_answers key (Int n) (Text m) last = chosen (is_gt (compare key (Int n) (Text m))) (Int n) (Text m)
two_answers key (Int n) (Truth m) last = chosen (is_gt (compare key (Int n) (Truth m))) (Int n) (Truth m)
two_answers key (Text n) (Int m) last = chosen (is_gt (compare key (Text n) (Int m))) (Text n) (Int m)
two_answers key (Text n) (Text m) last = chosen (is_gt (compare key (Text n) (Text m))) (Text n) (Text m)
two_answers key (Text n) (Truth m) last = chosen (is_gt (compare key (Text n) (Truth m))) (Text n) (Truth m)
two_answers key (Truth n) (Int m) last = chosen (is_gt (compare key (Truth n) (Int m))) (Truth n) (Int m)
two_answers key (Truth n) (Text m) last = chosen (is_gt (compare key (Truth n) (Text m))) (Truth n) (Text m)
two_answers key (Truth n) (Truth m) last = chosen (is_gt (compare key (Truth n) (Truth m))) (Truth n) (Truth m)

first_joins : (key : SortKey) → key.nulls_first ≡ false → (xs ys : Values) → first_over key (xs ++ ys) ≡ first_of_two key (first_over key xs) (first_over key ys)
first_joins key last xs ys = ap answer_of (first_by-append key xs ys last) ∙ two_answers key (first_by key xs) (first_by key ys) last

-- ---- answers

-- 128 bits hold it
pub saturated : (z : ℤ) → neg_ℤ (pos (2 ^ 127 - 1)) ≤ℤ z → z ≤ℤ pos (2 ^ 127 - 1) → saturate_to_bits 127 z ≡ z
saturated (pos n) low high = ap pos (omega (arith, ints))
saturated (negsuc n) low high = ap negsuc (omega (arith, ints))

abbrev pub Adds : Answer → Answer → Answer → Type 0
Adds first second result = (m n : ℕ) → IsSmall m (shown first) → IsSmall n (shown second) → m + n < 2 ^ 64 → (shown result ≡ added (shown first) (shown second)) × IsSmall (m + n) (shown result)

join_added : (plain : Values → Plain) → ((xs ys : Values) → plain (xs ++ ys) ≡ added (plain xs) (plain ys)) → (first second result : Answer) → Adds first second result
    → (xs ys : Values) → IsAnswer plain xs first → IsAnswer plain ys second → length xs + length ys < 2 ^ 64 → IsAnswer plain (xs ++ ys) result
join_added plain joins first second result adds xs ys a b few =
    let sum = adds (length xs) (length ys) a.small b.small few in
    record {
      exact = sum.0 ∙ (λ i. added (a.exact i) (b.exact i)) ∙ sym (joins xs ys);
      small = subst (λ n. IsSmall n (shown result)) (sym (length-append xs ys)) sum.1;
    }

pub join_counts : (first second result : Answer) → Adds first second result
    → (xs ys : Values) → IsAnswer count_over xs first → IsAnswer count_over ys second → length xs + length ys < 2 ^ 64 → IsAnswer count_over (xs ++ ys) result
join_counts = join_added count_over count_joins

pub join_sums : (first second result : Answer) → Adds first second result
    → (xs ys : Values) → IsAnswer sum_over xs first → IsAnswer sum_over ys second → length xs + length ys < 2 ^ 64 → IsAnswer sum_over (xs ++ ys) result
join_sums = join_added sum_over sum_joins

pub first-small : (n : ℕ) (v : Value) → IsSmall n (answer_of v)
first-small n Null = tt
first-small n (Int m) = tt
first-small n (Text t) = tt
first-small n (Truth b) = tt

pub join_firsts : (key : SortKey) → key.nulls_first ≡ false → (first second result : Answer) → shown result ≡ first_of_two key (shown first) (shown second)
    → (xs ys : Values) → IsAnswer (first_over key) xs first → IsAnswer (first_over key) ys second → IsAnswer (first_over key) (xs ++ ys) result
join_firsts key last first second result made xs ys a b =
    let exact : shown result ≡ first_over key (xs ++ ys) = made ∙ (λ i. first_of_two key (a.exact i) (b.exact i)) ∙ sym (first_joins key last xs ys) in
    record { exact = exact; small = subst (IsSmall (length (xs ++ ys))) (sym exact) (first-small (length (xs ++ ys)) (first_by key (xs ++ ys))) }
