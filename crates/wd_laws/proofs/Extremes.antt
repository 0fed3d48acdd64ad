-- The least and the greatest of some values are among them, and none that is not NULL comes before them.
use Rattle.std.proofs.Common.{◌≡◌, ℕ, suc, ◌<◌, Bool, true, false, cond, List, [], ◌∷◌, length, get_or, refl, sym, ap, arith, Ordering, Less, Equal, Greater, is_lt, is_gt}
use Rattle.std.specs.List.{AllByRecursion}
use Rattle.std.specs.Ordering.{ordering_reverse}
use Rattle.std.proofs.lemmas.Cmp.{tied_itself, upto}
use Rattle.wd_value.proofs.OrderLaws.{compare_total}
use Rattle.wd_value.specs.Order.{compare, compare_ascending}
use Rattle.wd_value.specs.declared.order.SortKey.{SortKey}
use Rattle.wd_value.specs.declared.value.Value.{Value}
use Rattle.wd_value.specs.declared.value.Value.TheVariants.{Int, Null, Text, Bool as Truth}
use Rattle.wd_plan.specs.Calls.{first_by, greatest, least}
use Rattle.wd_plan.specs.Expressions.{is_null}
use Rattle.wd_laws.specs.Laws.{ExtremesAreFirst}

-- ---- none comes before the first

not_greater : (a b : Ordering) → a ≡ ordering_reverse b → is_lt b ≡ false → is_gt a ≡ false
not_greater a Less e h = cc
not_greater a Equal e h = ap is_gt e
not_greater a Greater e h = ap is_gt e

not_less : (a b : Ordering) → a ≡ ordering_reverse b → is_gt b ≡ false → is_lt a ≡ false
not_less a Less e h = ap is_lt e
not_less a Equal e h = ap is_lt e
not_less a Greater e h = cc

not_less_itself : (key : SortKey) (v : Value) → is_lt (compare key v v) ≡ false
not_less_itself key v = ap is_lt (tied_itself (compare_total key) v)

less_of_greater : (a : Ordering) → is_gt a ≡ true → is_lt a ≡ false
less_of_greater Less e = cc
less_of_greater Equal e = refl
less_of_greater Greater e = refl

-- no value of the list stands before v
abbrev pub NoneBefore : SortKey → List Value → Value → Type 0
NoneBefore key vs v = AllByRecursion (λ w. is_lt (compare key w v) ≡ false) vs

-- and none stands before what stands before v or ties with it
none_before_too : (key : SortKey) (v w : Value) (vs : List Value) → is_gt (compare key v w) ≡ false → NoneBefore key vs w → NoneBefore key vs v
none_before_too key v w [] h a = tt
none_before_too key v w (u ∷ us) h a =
    let o = compare_total key in
    let w_first : is_gt (compare key w u) ≡ false = not_greater (compare key w u) (compare key u w) (o.antisymm w u) a.0 in
    let v_first : is_gt (compare key v u) ≡ false = upto o v w u h w_first in
    (not_less (compare key u v) (compare key v u) (o.antisymm u v) v_first, none_before_too key v w us h a.1)

first_step : (key : SortKey) (v w : Value) (vs : List Value) (c : Bool) → is_gt (compare key v w) ≡ c → NoneBefore key vs w → NoneBefore key (v ∷ vs) (cond c w v)
first_step key v w vs true e a = (less_of_greater (compare key v w) e, a)
first_step key v w vs false e a = (not_less_itself key v, none_before_too key v w vs e a)

none_before : (key : SortKey) (vs : List Value) → NoneBefore key vs (first_by key vs)
none_before key [] = tt
none_before key (v ∷ vs) = first_step key v (first_by key vs) vs (is_gt (compare key v (first_by key vs))) refl (none_before key vs)

-- ---- the first is a member

abbrev IsMember : List Value → Value → Type 0
IsMember vs v = (i : ℕ) × (i < length vs) × (get_or vs i Null ≡ v)

alone : (desc : Bool) (v : Value) → first_by (record { desc = desc; nulls_first = false }) (v ∷ []) ≡ v
alone desc Null = refl
alone desc (Int n) = refl
alone desc (Text t) = refl
alone desc (Truth b) = refl

member_step : (v w : Value) (vs : List Value) (c : Bool) → IsMember vs w → IsMember (v ∷ vs) (cond c w v)
member_step v w vs true m = (suc m.0, omega (arith, m.1), m.2)
member_step v w vs false m = (0, omega arith, refl)

is_member : (desc : Bool) (v : Value) (vs : List Value) → IsMember (v ∷ vs) (first_by (record { desc = desc; nulls_first = false }) (v ∷ vs))
is_member desc v [] = (0, omega arith, sym (alone desc v))
is_member desc v (u ∷ us) =
    let key : SortKey = record { desc = desc; nulls_first = false } in
    member_step v (first_by key (u ∷ us)) (u ∷ us) (is_gt (compare key v (first_by key (u ∷ us)))) (is_member desc u us)

some_member : (desc : Bool) (vs : List Value) → 0 < length vs → IsMember vs (first_by (record { desc = desc; nulls_first = false }) vs)
some_member desc [] h = absurd (omega arith)
some_member desc (v ∷ vs) h = is_member desc v vs

over_nothing : (desc : Bool) (vs : List Value) → length vs ≡ 0 → first_by (record { desc = desc; nulls_first = false }) vs ≡ Null
over_nothing desc [] h = refl
over_nothing desc (v ∷ vs) h = absurd (omega arith)

-- ---- where NULL stands last

-- a value that is not NULL does not stand before v: v is not NULL, and the value is not less
abbrev NotLess : Value → Value → Type 0
NotLess w v = is_null w ≡ false → (is_null v ≡ false) × (is_lt (compare_ascending w v) ≡ false)

not_less_value : (w v : Value) → is_lt (compare (record { desc = false; nulls_first = false }) w v) ≡ false → NotLess w v
not_less_value Null v h g = cc
not_less_value (Int m) Null h g = cc
not_less_value (Int m) (Int n) h g = (refl, h)
not_less_value (Int m) (Text t) h g = (refl, h)
not_less_value (Int m) (Truth b) h g = (refl, h)
not_less_value (Text s) Null h g = cc
not_less_value (Text s) (Int n) h g = (refl, h)
not_less_value (Text s) (Text t) h g = (refl, h)
not_less_value (Text s) (Truth b) h g = (refl, h)
not_less_value (Truth a) Null h g = cc
not_less_value (Truth a) (Int n) h g = (refl, h)
not_less_value (Truth a) (Text t) h g = (refl, h)
not_less_value (Truth a) (Truth b) h g = (refl, h)

abbrev NotGreater : Value → Value → Type 0
NotGreater w v = is_null w ≡ false → (is_null v ≡ false) × (is_gt (compare_ascending w v) ≡ false)

falls : (w v : Value) → is_lt (compare (record { desc = false; nulls_first = false }) v w) ≡ false → is_gt (compare (record { desc = false; nulls_first = false }) w v) ≡ false
falls w v h = not_greater (compare (record { desc = false; nulls_first = false }) w v) (compare (record { desc = false; nulls_first = false }) v w) ((compare_total (record { desc = false; nulls_first = false })).antisymm w v) h

not_greater_value : (w v : Value) → is_lt (compare (record { desc = true; nulls_first = false }) w v) ≡ false → NotGreater w v
not_greater_value Null v h g = cc
not_greater_value (Int m) Null h g = cc
not_greater_value (Int m) (Int n) h g = (refl, falls (Int m) (Int n) h)
not_greater_value (Int m) (Text t) h g = (refl, falls (Int m) (Text t) h)
not_greater_value (Int m) (Truth b) h g = (refl, falls (Int m) (Truth b) h)
not_greater_value (Text s) Null h g = cc
not_greater_value (Text s) (Int n) h g = (refl, falls (Text s) (Int n) h)
not_greater_value (Text s) (Text t) h g = (refl, falls (Text s) (Text t) h)
not_greater_value (Text s) (Truth b) h g = (refl, falls (Text s) (Truth b) h)
not_greater_value (Truth a) Null h g = cc
not_greater_value (Truth a) (Int n) h g = (refl, falls (Truth a) (Int n) h)
not_greater_value (Truth a) (Text t) h g = (refl, falls (Truth a) (Text t) h)
not_greater_value (Truth a) (Truth b) h g = (refl, falls (Truth a) (Truth b) h)

each : (P Q : Value → Type 0) → ((v : Value) → P v → Q v) → (vs : List Value) → AllByRecursion P vs → AllByRecursion Q vs
each P Q f [] a = tt
each P Q f (v ∷ vs) a = (f v a.0, each P Q f vs a.1)

-- ---- the law

pub extremes_are_first : ExtremesAreFirst
extremes_are_first = record {
  of_least = λ vs. record {
    member = λ h. some_member false vs h;
    over_nothing = λ h. over_nothing false vs h;
    first = each (λ w. is_lt (compare (record { desc = false; nulls_first = false }) w (least vs)) ≡ false) (λ w. NotLess w (least vs)) (λ w h. not_less_value w (least vs) h) vs (none_before (record { desc = false; nulls_first = false }) vs);
  };
  of_greatest = λ vs. record {
    member = λ h. some_member true vs h;
    over_nothing = λ h. over_nothing true vs h;
    first = each (λ w. is_lt (compare (record { desc = true; nulls_first = false }) w (greatest vs)) ≡ false) (λ w. NotGreater w (greatest vs)) (λ w h. not_greater_value w (greatest vs) h) vs (none_before (record { desc = true; nulls_first = false }) vs);
  };
}
