-- NTILE's buckets hold ranges of the places: as even as can be, the larger ones first.
use Rattle.std.proofs.Common.{◌≡◌, ℕ, zero, suc, ◌+◌, ◌-◌, ◌*◌, ◌/◌, ◌%◌, min, ◌<◌, ◌≤◌, Bool, true, false, cond, ◌∷◌, length, count_by, refl, sym, ◌∙◌, ap, subst, arith, nat_lt, nat_eq, le_trans}
use Rattle.std.specs.List.{range_with_len, sum_by}
use Rattle.std.proofs.Math.Nat.{div-add-mod, min-eq_left, min-eq_right, min-le_left, min-le_right, mod-eq_of_lt, mod-lt, mul-le-mul_right, suc-mul, zero-add, zero-mul, zero-min}
use Rattle.std.proofs.lemmas.Bool.{eq-eqb, ltb-false, ltb-true, ne_eqb}
use Rattle.std.proofs.lemmas.List.Sums.{sum_by-cons}
use Rattle.wd_value.proofs.Perms.{count_by-cons, count_by-no, count_by-yes}
use Rattle.wd_value.specs.Bags.{positions}
use Rattle.wd_plan.specs.Calls.{bucket, bucket_from}
use Rattle.wd_laws.specs.Laws.{NtileIsEven, bucket_size}

-- ---- sums

min_next : (b r : ℕ) → min (b + 1) r ≡ min b r + cond (nat_lt b r) 1 0
min_next b r = by (nat_lt b r) refl
  where
    by : (c : Bool) → nat_lt b r ≡ c → min (b + 1) r ≡ min b r + cond c 1 0
    by true h =
        let l = ltb-true b r h in
        let k : b + 1 ≤ r = omega arith in
        let m : b ≤ r = omega arith in
        min-eq_left k ∙ ap (λ x. x + 1) (sym (min-eq_left m))
    by false h =
        let l : r ≤ b = ltb-false b r h in
        let k : r ≤ b + 1 = omega arith in
        min-eq_right k ∙ sym (min-eq_right l) ∙ omega arith

min_rises : (b c r : ℕ) → b ≤ c → min b r ≤ min c r
min_rises b c r h = by (nat_lt c r) refl
  where
    by : (t : Bool) → nat_lt c r ≡ t → min b r ≤ min c r
    by true g =
        let l = ltb-true c r g in
        let m : c ≤ r = omega arith in
        subst (λ x. min b r ≤ x) (sym (min-eq_left m)) (le_trans (min-le_left b r) h)
    by false g = subst (λ x. min b r ≤ x) (sym (min-eq_right (ltb-false c r g))) (min-le_right b r)

next_sum : (a b q m k d : ℕ) → b ≡ a + q → k ≡ m + d → b + k ≡ (a + m) + (q + d)
next_sum a b q m k d e f = omega arith

more_sum : (a b c d : ℕ) → a ≤ b → c ≤ d → a + c ≤ b + d
more_sum a b c d h k = omega arith

-- ---- how many pass

all_pass : (t : ℕ → Bool) (a k : ℕ) → ((i : ℕ) → a ≤ i → i < a + k → t i ≡ true) → count_by t (range_with_len a k) ≡ k
all_pass t a zero h = refl
all_pass t a (suc k) h =
    let c = count_by-yes t a (range_with_len (a + 1) k) (h a (omega arith) (omega arith)) in
    let r = all_pass t (a + 1) k (λ i l m. h i (omega arith) (omega arith)) in
    omega arith

none_pass : (t : ℕ → Bool) (a k : ℕ) → ((i : ℕ) → a ≤ i → i < a + k → t i ≡ false) → count_by t (range_with_len a k) ≡ 0
none_pass t a zero h = refl
none_pass t a (suc k) h =
    let c = count_by-no t a (range_with_len (a + 1) k) (h a (omega arith) (omega arith)) in
    let r = none_pass t (a + 1) k (λ i l m. h i (omega arith) (omega arith)) in
    omega arith

-- a range counted in two parts
count_parts : (t : ℕ → Bool) (a j k : ℕ) → count_by t (range_with_len a (j + k)) ≡ count_by t (range_with_len a j) + count_by t (range_with_len (a + j) k)
count_parts t a zero k =
    let e : count_by t (range_with_len a (0 + k)) ≡ count_by t (range_with_len (a + 0) k) = (λ i. count_by t (range_with_len (same_start i) (same_length i))) in
    omega arith
  where
    same_start : a ≡ a + 0
    same_start = omega arith

    same_length : 0 + k ≡ k
    same_length = omega arith
count_parts t a (suc j) k =
    let whole : count_by t (range_with_len a (suc j + k)) ≡ count_by t (a ∷ range_with_len (a + 1) (j + k)) = ap (λ n. count_by t (range_with_len a n)) longer in
    let c = count_by-cons t a (range_with_len (a + 1) (j + k)) in
    let d = count_by-cons t a (range_with_len (a + 1) j) in
    let r = count_parts t (a + 1) j k in
    let later : count_by t (range_with_len ((a + 1) + j) k) ≡ count_by t (range_with_len (a + suc j) k) = ap (λ n. count_by t (range_with_len n k)) further in
    omega arith
  where
    longer : suc j + k ≡ suc (j + k)
    longer = omega arith

    further : (a + 1) + j ≡ a + suc j
    further = omega arith

-- ---- the places of a bucket

module _ (n members : ℕ) where
  -- how many members the first buckets hold
  abbrev pub start : ℕ → ℕ
  start b = b * (members / n) + min b (members % n)

  abbrev pub size : ℕ → ℕ
  size b = members / n + cond (nat_lt b (members % n)) 1 0

  start_next : (b : ℕ) → start (b + 1) ≡ start b + size b
  start_next b =
      let e : (b + 1) * (members / n) ≡ b * (members / n) + members / n = ap (λ x. x * (members / n)) after ∙ suc-mul b (members / n) in
      next_sum (b * (members / n)) ((b + 1) * (members / n)) (members / n) (min b (members % n)) (min (b + 1) (members % n)) (cond (nat_lt b (members % n)) 1 0) e (min_next b (members % n))
    where
      after : b + 1 ≡ suc b
      after = omega arith

  start_rises : (b c : ℕ) → b ≤ c → start b ≤ start c
  start_rises b c h = more_sum (b * (members / n)) (c * (members / n)) (min b (members % n)) (min c (members % n)) (mul-le-mul_right (members / n) h) (min_rises b c (members % n) h)

  start_none : start 0 ≡ 0
  start_none = λ i. zero-mul (members / n) i + zero-min (members % n) i

  -- a number of a bucket, and that the bucket holds the place
  pub record Holds (number place : ℕ) : Type 0 where
    pub before : ℕ
    pub is : number ≡ before + 1
    pub within : before < n
    pub from : start before ≤ place
    pub to : place < start (before + 1)

  hold_step : (more b place before : ℕ) → b ≡ before + 1 → before < n → start before ≤ place → (c : Bool) → nat_lt place (start b) ≡ c → (c ≡ false → Holds (bucket_from more (b + 1) n members place) place) → Holds (cond c b (bucket_from more (b + 1) n members place)) place
  hold_step more b place before e k l true h later = record { before = before; is = e; within = k; from = l; to = subst (λ x. place < start x) e (ltb-true place (start b) h) }
  hold_step more b place before e k l false h later = later refl

  holds_from : (more b place before : ℕ) → b ≡ before + 1 → before + more ≡ n → start before ≤ place → place < start n → Holds (bucket_from more b n members place) place
  holds_from zero b place before e f l k =
      let at_end : before ≡ n = omega arith in
      let m : start n ≤ place = subst (λ x. start x ≤ place) at_end l in
      absurd (omega arith)
  holds_from (suc more) b place before e f l k =
      let within : before < n = omega arith in
      let next : b + 1 ≡ (before + 1) + 1 = ap (λ x. x + 1) e in
      let rest : (before + 1) + more ≡ n = omega arith in
      hold_step more b place before e within l (nat_lt place (start b)) refl (λ h. holds_from more (b + 1) place (before + 1) next rest (past h) k)
    where
      past : nat_lt place (start b) ≡ false → start (before + 1) ≤ place
      past h = subst (λ x. start x ≤ place) e (ltb-false place (start b) h)

  -- a place is in one bucket alone
  one_holder : (place b c : ℕ) → start b ≤ place → place < start (b + 1) → start c ≤ place → place < start (c + 1) → b ≡ c
  one_holder place b c f t g s = by (nat_lt b c) (nat_lt c b) refl refl
    where
      by : (x y : Bool) → nat_lt b c ≡ x → nat_lt c b ≡ y → b ≡ c
      by true y h k = absurd (let l = ltb-true b c h in let m : b + 1 ≤ c = omega arith in let r = start_rises (b + 1) c m in omega arith)
      by false true h k = absurd (let l = ltb-true c b k in let m : c + 1 ≤ b = omega arith in let r = start_rises (c + 1) b m in omega arith)
      by false false h k = let l = ltb-false b c h in let m = ltb-false c b k in omega arith

  module _ (some : 0 < n) where
    start_end : start n ≡ members
    start_end =
        let r = mod-lt members some in
        let m : members % n ≤ n = omega arith in
        ap (λ x. n * (members / n) + x) (min-eq_right m) ∙ div-add-mod members n

    holds : (place : ℕ) → place < members → Holds (bucket n members place) place
    holds place h = holds_from n 1 place 0 refl none_before (subst (λ x. x ≤ place) (sym start_none) (omega arith)) (subst (λ x. place < x) (sym start_end) h)
      where
        none_before : 0 + n ≡ n
        none_before = omega arith

    within_members : (b : ℕ) → b < n → start (b + 1) ≤ members
    within_members b h = subst (λ x. start (b + 1) ≤ x) start_end (start_rises (b + 1) n (omega arith))

    -- the test of one bucket
    abbrev pub is_in : ℕ → ℕ → Bool
    is_in b place = nat_eq (bucket n members place) (b + 1)

    in_it : (b place : ℕ) → b < n → start b ≤ place → place < start (b + 1) → is_in b place ≡ true
    in_it b place k f t =
        let w = within_members b k in
        let h = holds place (omega arith) in
        eq-eqb (bucket n members place) (b + 1) (h.is ∙ ap (λ x. x + 1) (one_holder place h.before b h.from h.to f t))

    not_in_it : (b place : ℕ) → place < members → (start b ≤ place → place < start (b + 1) → ⊥) → is_in b place ≡ false
    not_in_it b place k out = ne_eqb (bucket n members place) (b + 1) (λ e. let h = holds place k in let same : h.before ≡ b = number_is h.before (sym h.is ∙ e) in out (subst (λ x. start x ≤ place) same h.from) (subst (λ x. place < start (x + 1)) same h.to))
      where
        number_is : (x : ℕ) → x + 1 ≡ b + 1 → x ≡ b
        number_is x e = omega arith

    sizes : (b : ℕ) → b < n → bucket_size (bucket n members) members b ≡ size b
    sizes b k =
        let rest = members - (start b + size b) in
        let next = start_next b in
        let w = within_members b k in
        let parts : members ≡ start b + (size b + rest) = all_parts (start b) (size b) members (subst (λ x. x ≤ members) next w) in
        let at : count_by (is_in b) (positions members) ≡ count_by (is_in b) (range_with_len 0 (start b + (size b + rest))) = ap (λ m. count_by (is_in b) (range_with_len 0 m)) parts in
        let first = none_pass (is_in b) 0 (start b) (λ i l m. not_in_it b i (omega arith) (λ f t. omega arith)) in
        let own = all_pass (is_in b) (0 + start b) (size b) (λ i l m. in_it b i k (omega arith) (omega arith)) in
        let last = none_pass (is_in b) ((0 + start b) + size b) rest (λ i l m. not_in_it b i (omega arith) (λ f t. omega arith)) in
        let two = count_parts (is_in b) 0 (start b) (size b + rest) in
        let three = count_parts (is_in b) (0 + start b) (size b) rest in
        omega arith
      where
        all_parts : (a s m : ℕ) → a + s ≤ m → m ≡ a + (s + (m - (a + s)))
        all_parts a s m h = omega arith

    -- the first buckets' sizes add up to where the next one starts
    sum_from : (a k : ℕ) → a + k ≤ n → sum_by (bucket_size (bucket n members) members) (range_with_len a k) + start a ≡ start (a + k)
    sum_from a zero h = zero-add (start a) ∙ ap start same
      where
        same : a ≡ a + 0
        same = omega arith
    sum_from a (suc k) h =
        let own = sizes a (omega arith) in
        let sum = sum_by-cons (bucket_size (bucket n members) members) a (range_with_len (a + 1) k) in
        let next = start_next a in
        let more = sum_from (a + 1) k (omega arith) in
        let at_end : start ((a + 1) + k) ≡ start (a + suc k) = ap start further in
        omega arith
      where
        further : (a + 1) + k ≡ a + suc k
        further = omega arith

    sums : sum_by (bucket_size (bucket n members) members) (positions n) ≡ members
    sums =
        let all = sum_from 0 n (omega arith) in
        let none = start_none in
        let at_end : start (0 + n) ≡ start n = ap start none_before in
        let end = start_end in
        omega arith
      where
        none_before : 0 + n ≡ n
        none_before = omega arith

    -- after as many buckets as there are members none is left
    none_left : (b : ℕ) → members ≤ b → members ≤ start b
    none_left b h = by (nat_lt b n) refl
      where
        by : (c : Bool) → nat_lt b n ≡ c → members ≤ start b
        by true e =
            let k = ltb-true b n e in
            let few : members % n ≡ members = mod-eq_of_lt (omega arith) in
            let most : min b (members % n) ≡ members = ap (min b) few ∙ min-eq_right h in
            subst (λ x. x ≤ start b) most (following (b * (members / n)) (min b (members % n)))
          where
            following : (x y : ℕ) → y ≤ x + y
            following x y = omega arith
        by false e = subst (λ x. x ≤ start b) start_end (start_rises n b (ltb-false b n e))

    empty : (b : ℕ) → members ≤ b → bucket_size (bucket n members) members b ≡ 0
    empty b h = let l = none_left b h in none_pass (is_in b) 0 members (λ i g m. not_in_it b i (omega arith) (λ f t. omega arith))

    in_order : (i j : ℕ) → i ≤ j → j < members → bucket n members i ≤ bucket n members j
    in_order i j h k =
        let a = holds i (omega arith) in
        let b = holds j k in
        let a_is = a.is in
        let b_is = b.is in
        let m = earlier a.before b.before a.from b.to in
        omega arith
      where
        earlier : (x y : ℕ) → start x ≤ i → j < start (y + 1) → x ≤ y
        earlier x y f t = by (nat_lt y x) refl
          where
            by : (c : Bool) → nat_lt y x ≡ c → x ≤ y
            by true e = absurd (let l = ltb-true y x e in let r = start_rises (y + 1) x (omega arith) in omega arith)
            by false e = ltb-false y x e

    size_falls : (b c : ℕ) → b < c → size c ≤ size b
    size_falls b c h = by (nat_lt b (members % n)) (nat_lt c (members % n)) refl refl
      where
        by : (x y : Bool) → nat_lt b (members % n) ≡ x → nat_lt c (members % n) ≡ y → members / n + cond y 1 0 ≤ members / n + cond x 1 0
        by true true e f = omega arith
        by true false e f = omega arith
        by false true e f = absurd (let l = ltb-false b (members % n) e in let m = ltb-true c (members % n) f in omega arith)
        by false false e f = omega arith

    size_close : (b c : ℕ) → size b ≤ size c + 1
    size_close b c = by (nat_lt b (members % n)) (nat_lt c (members % n))
      where
        by : (x y : Bool) → members / n + cond x 1 0 ≤ (members / n + cond y 1 0) + 1
        by true true = omega arith
        by true false = omega arith
        by false true = omega arith
        by false false = omega arith

pub ntile_is_even : NtileIsEven
ntile_is_even class frame partition n some = let members = length partition in (
  bucket n members,
  λ i. refl,
  record {
    sizes = λ g h. sizes n members some g h;
    larger_first = λ g h k l. (let a = sizes n members some g (omega arith) in let b = sizes n members some h l in let c = size_falls n members some g h k in omega arith);
    close = λ g h k l. (let a = sizes n members some g k in let b = sizes n members some h l in let c = size_close n members some g h in omega arith);
    all = sums n members some;
    none_left = λ g h. empty n members some g h;
    in_order = λ i j h k. in_order n members some i j h k;
  },
)
