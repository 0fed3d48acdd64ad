-- The codes of whole numbers compare as these do, and stay below a bound.
use Rattle.std.proofs.Common.{◌≡◌, ℕ, ℤ, ◌+◌, ◌<◌, ◌≤◌, ◌-ℤ◌, Bool, true, false, cond, refl, sym, arith, Ordering, Less, Equal, Greater}
use Rattle.std.specs.Prelude.{unsigned_abs, ◌≤ℤ◌, ◌<ℤ◌}
use Rattle.std.specs.Ordering.{nat_cmp, int_cmp}
use Rattle.std.specs.Cmp.{nat_cmp_is}
use Rattle.std.proofs.lemmas.Cmp.{int_ranked}
use Rattle.std.proofs.lemmas.Int.{ints}
use Rattle.wd_value.specs.Order.{compare}
use Rattle.wd_value.specs.declared.order.SortKey.{SortKey}
use Rattle.wd_value.specs.declared.value.Value.{Value}
use Rattle.wd_value.specs.declared.value.Value.TheVariants.{Null, Int, Text, Bool as Truth}
use Rattle.wd_sort.specs.Codes.{IsWhole, IsWider, whole_code}

up : (c : ℕ) (least n m : ℤ) → least ≤ℤ n → least ≤ℤ m → (o : Ordering) → o ≡ int_cmp n m → o ≡ nat_cmp (unsigned_abs (n -ℤ least) + c) (unsigned_abs (m -ℤ least) + c)
up c least n m a b Less e = nat_cmp_is (unsigned_abs (n -ℤ least) + c) (unsigned_abs (m -ℤ least) + c) Less (let r : n <ℤ m = int_ranked n m Less e in omega (arith, ints))
up c least n m a b Equal e = nat_cmp_is (unsigned_abs (n -ℤ least) + c) (unsigned_abs (m -ℤ least) + c) Equal (let r : n ≡ m = int_ranked n m Equal e in omega (arith, ints))
up c least n m a b Greater e = nat_cmp_is (unsigned_abs (n -ℤ least) + c) (unsigned_abs (m -ℤ least) + c) Greater (let r : m <ℤ n = int_ranked n m Greater e in omega (arith, ints))

down : (c : ℕ) (greatest n m : ℤ) → n ≤ℤ greatest → m ≤ℤ greatest → (o : Ordering) → o ≡ int_cmp m n → o ≡ nat_cmp (unsigned_abs (greatest -ℤ n) + c) (unsigned_abs (greatest -ℤ m) + c)
down c greatest n m a b Less e = nat_cmp_is (unsigned_abs (greatest -ℤ n) + c) (unsigned_abs (greatest -ℤ m) + c) Less (let r : m <ℤ n = int_ranked m n Less e in omega (arith, ints))
down c greatest n m a b Equal e = nat_cmp_is (unsigned_abs (greatest -ℤ n) + c) (unsigned_abs (greatest -ℤ m) + c) Equal (let r : m ≡ n = int_ranked m n Equal e in omega (arith, ints))
down c greatest n m a b Greater e = nat_cmp_is (unsigned_abs (greatest -ℤ n) + c) (unsigned_abs (greatest -ℤ m) + c) Greater (let r : n <ℤ m = int_ranked m n Greater e in omega (arith, ints))

within_up : (least greatest n : ℤ) → least ≤ℤ n → n ≤ℤ greatest → unsigned_abs (n -ℤ least) ≤ unsigned_abs (greatest -ℤ least)
within_up least greatest n a b = omega (arith, ints)

within_down : (least greatest n : ℤ) → least ≤ℤ n → n ≤ℤ greatest → unsigned_abs (greatest -ℤ n) ≤ unsigned_abs (greatest -ℤ least)
within_down least greatest n a b = omega (arith, ints)

-- before a greater number, and after a lesser one
before : (p q : ℕ) → p < q → nat_cmp p q ≡ Less
before p q h = sym (nat_cmp_is p q Less h)

after : (p q : ℕ) → q < p → nat_cmp p q ≡ Greater
after p q h = sym (nat_cmp_is p q Greater h)

by_cases : (d f : Bool) (least greatest : ℤ) (a b : Value) → IsWhole least greatest a → IsWhole least greatest b → let key : SortKey = record { desc = d; nulls_first = f } in
    nat_cmp (whole_code key least greatest a) (whole_code key least greatest b) ≡ compare key a b
by_cases d true least greatest Null Null v w = refl
by_cases d false least greatest Null Null v w = sym (nat_cmp_is (unsigned_abs (greatest -ℤ least) + 1) (unsigned_abs (greatest -ℤ least) + 1) Equal refl)
by_cases true true least greatest Null (Int m) v w = before 0 (unsigned_abs (greatest -ℤ m) + 1) (omega arith)
by_cases false true least greatest Null (Int m) v w = before 0 (unsigned_abs (m -ℤ least) + 1) (omega arith)
by_cases true false least greatest Null (Int m) v w = let h = within_down least greatest m w.0 w.1 in after (unsigned_abs (greatest -ℤ least) + 1) (unsigned_abs (greatest -ℤ m) + 0) (omega arith)
by_cases false false least greatest Null (Int m) v w = let h = within_up least greatest m w.0 w.1 in after (unsigned_abs (greatest -ℤ least) + 1) (unsigned_abs (m -ℤ least) + 0) (omega arith)
by_cases true true least greatest (Int n) Null v w = after (unsigned_abs (greatest -ℤ n) + 1) 0 (omega arith)
by_cases false true least greatest (Int n) Null v w = after (unsigned_abs (n -ℤ least) + 1) 0 (omega arith)
by_cases true false least greatest (Int n) Null v w = let h = within_down least greatest n v.0 v.1 in before (unsigned_abs (greatest -ℤ n) + 0) (unsigned_abs (greatest -ℤ least) + 1) (omega arith)
by_cases false false least greatest (Int n) Null v w = let h = within_up least greatest n v.0 v.1 in before (unsigned_abs (n -ℤ least) + 0) (unsigned_abs (greatest -ℤ least) + 1) (omega arith)
by_cases true f least greatest (Int n) (Int m) v w = sym (down (cond f 1 0) greatest n m v.1 w.1 (int_cmp m n) refl)
by_cases false f least greatest (Int n) (Int m) v w = sym (up (cond f 1 0) least n m v.0 w.0 (int_cmp n m) refl)
by_cases d f least greatest (Text t) b v w = absurd v
by_cases d f least greatest (Truth t) b v w = absurd v
by_cases d f least greatest Null (Text t) v w = absurd w
by_cases d f least greatest Null (Truth t) v w = absurd w
by_cases d f least greatest (Int n) (Text t) v w = absurd w
by_cases d f least greatest (Int n) (Truth t) v w = absurd w

pub whole_codes_compare : (key : SortKey) (least greatest : ℤ) (a b : Value) → IsWhole least greatest a → IsWhole least greatest b → nat_cmp (whole_code key least greatest a) (whole_code key least greatest b) ≡ compare key a b
whole_codes_compare key least greatest a b v w = by_cases key.desc key.nulls_first least greatest a b v w

within : (d f : Bool) (least greatest : ℤ) (v : Value) → IsWhole least greatest v → whole_code (record { desc = d; nulls_first = f }) least greatest v < unsigned_abs (greatest -ℤ least) + 2
within d true least greatest Null w = omega arith
within d false least greatest Null w = omega arith
within true true least greatest (Int n) w = let h = within_down least greatest n w.0 w.1 in omega arith
within true false least greatest (Int n) w = let h = within_down least greatest n w.0 w.1 in omega arith
within false true least greatest (Int n) w = let h = within_up least greatest n w.0 w.1 in omega arith
within false false least greatest (Int n) w = let h = within_up least greatest n w.0 w.1 in omega arith
within d f least greatest (Text t) w = absurd w
within d f least greatest (Truth b) w = absurd w

pub whole_code_below : (key : SortKey) (least greatest : ℤ) (v : Value) → IsWhole least greatest v → whole_code key least greatest v < unsigned_abs (greatest -ℤ least) + 2
whole_code_below key least greatest v w = within key.desc key.nulls_first least greatest v w

-- ---- wider ranges

pub whole_in_wider : (least greatest least' greatest' : ℤ) (v : Value) → IsWider least greatest least' greatest' → IsWhole least greatest v → IsWhole least' greatest' v
whole_in_wider least greatest least' greatest' Null w h = tt
whole_in_wider least greatest least' greatest' (Int n) w h = (omega (arith, ints), omega (arith, ints))
whole_in_wider least greatest least' greatest' (Text t) w h = h
whole_in_wider least greatest least' greatest' (Truth b) w h = h

-- in a range that holds no number there is but NULL
pub whole_in_none : (least greatest least' greatest' : ℤ) (v : Value) → greatest <ℤ least → IsWhole least greatest v → IsWhole least' greatest' v
whole_in_none least greatest least' greatest' Null w h = tt
whole_in_none least greatest least' greatest' (Int n) w h = absurd (omega (arith, ints))
whole_in_none least greatest least' greatest' (Text t) w h = h
whole_in_none least greatest least' greatest' (Truth b) w h = h
