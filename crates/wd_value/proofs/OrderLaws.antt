-- The order of a sort key is a total order, in which values that tie are equal.
use Rattle.std.proofs.Common.{◌≡◌, ℕ, ℤ, pos, Bool, true, false, if◌then◌else◌, List, [], refl, sym, ap, ◌∙◌, subst, Ordering, Less, Equal, Greater, nat_cmp, int_cmp}
use Rattle.std.specs.Ordering.{ordering_then, on, then_cmp, bool_cmp}
use Rattle.std.specs.Cmp.{IsTotalOrder, bool_cmp_total}
use Rattle.std.specs.Cmp.Lexicographic.{slice_cmp}
use Rattle.std.proofs.lemmas.Cmp.{on_total, then_total, back_total, nat_cmp_total, int_cmp_total, nat_list_cmp_total}
use Rattle.std.proofs.lemmas.Map.Lookups.{exact_signed, exact_bytes}
use Rattle.wd_value.specs.declared.value.Value.{Value}
use Rattle.wd_value.specs.declared.value.Value.TheVariants.{Null, Int, Text, Bool as Truth}
use Rattle.wd_value.specs.declared.order.SortKey.{SortKey}
use Rattle.wd_value.specs.Order.{type_rank_of, compare_ascending, compare}

abbrev number : Value → ℤ
number (Int n) = n
number v = pos 0

abbrev bytes : Value → List ℕ
bytes (Text t) = t
bytes v = []

abbrev truth : Value → Bool
truth (Truth b) = b
truth v = false

-- by type, then by the number, the bytes or the truth value
abbrev value_parts : Value → Value → Ordering
value_parts = then_cmp (on type_rank_of nat_cmp) (then_cmp (on number int_cmp) (then_cmp (on bytes (slice_cmp nat_cmp)) (on truth bool_cmp)))

value_parts_total : IsTotalOrder value_parts
value_parts_total =
    then_total (on_total type_rank_of nat_cmp_total) (then_total (on_total number int_cmp_total) (then_total (on_total bytes nat_list_cmp_total) (on_total truth bool_cmp_total)))

then-Equal : (o : Ordering) → o ≡ ordering_then o Equal
then-Equal Less = refl
then-Equal Equal = refl
then-Equal Greater = refl

compare_ascending-parts : (a b : Value) → value_parts a b ≡ compare_ascending a b
compare_ascending-parts (Int m) (Int n) = sym (then-Equal (int_cmp m n))
compare_ascending-parts (Text s) (Text t) = sym (then-Equal (slice_cmp nat_cmp s t))
compare_ascending-parts Null Null = refl
compare_ascending-parts Null (Int y) = refl
compare_ascending-parts Null (Text y) = refl
compare_ascending-parts Null (Truth y) = refl
compare_ascending-parts (Int x) Null = refl
compare_ascending-parts (Int x) (Text y) = refl
compare_ascending-parts (Int x) (Truth y) = refl
compare_ascending-parts (Text x) Null = refl
compare_ascending-parts (Text x) (Int y) = refl
compare_ascending-parts (Text x) (Truth y) = refl
compare_ascending-parts (Truth x) Null = refl
compare_ascending-parts (Truth x) (Int y) = refl
compare_ascending-parts (Truth x) (Text y) = refl
compare_ascending-parts (Truth x) (Truth y) = refl

pub compare_ascending_total : IsTotalOrder compare_ascending
compare_ascending_total = subst IsTotalOrder (λ i a b. compare_ascending-parts a b i) value_parts_total

abbrev null_rank : Bool → Value → ℕ
null_rank first Null = if first then 0 else 2
null_rank first (Int n) = 1
null_rank first (Text t) = 1
null_rank first (Truth b) = 1

abbrev directed : Bool → Value → Value → Ordering
directed d a b = if d then compare_ascending b a else compare_ascending a b

directed_total : (d : Bool) → IsTotalOrder (directed d)
directed_total false = compare_ascending_total
directed_total true = back_total compare_ascending_total

compare-parts : (d n : Bool) (a b : Value) → then_cmp (on (null_rank n) nat_cmp) (directed d) a b ≡ compare (record { desc = d; nulls_first = n }) a b
compare-parts true true Null Null = refl
compare-parts true false Null Null = refl
compare-parts false true Null Null = refl
compare-parts false false Null Null = refl
compare-parts d true Null (Int y) = refl
compare-parts d false Null (Int y) = refl
compare-parts d true Null (Text y) = refl
compare-parts d false Null (Text y) = refl
compare-parts d true Null (Truth y) = refl
compare-parts d false Null (Truth y) = refl
compare-parts d true (Int x) Null = refl
compare-parts d false (Int x) Null = refl
compare-parts d n (Int x) (Int y) = refl
compare-parts d n (Int x) (Text y) = refl
compare-parts d n (Int x) (Truth y) = refl
compare-parts d true (Text x) Null = refl
compare-parts d false (Text x) Null = refl
compare-parts d n (Text x) (Int y) = refl
compare-parts d n (Text x) (Text y) = refl
compare-parts d n (Text x) (Truth y) = refl
compare-parts d true (Truth x) Null = refl
compare-parts d false (Truth x) Null = refl
compare-parts d n (Truth x) (Int y) = refl
compare-parts d n (Truth x) (Text y) = refl
compare-parts d n (Truth x) (Truth y) = refl

pub compare_total : (k : SortKey) → IsTotalOrder (compare k)
compare_total k =
    subst IsTotalOrder (λ i a b. compare-parts k.desc k.nulls_first a b i) (then_total (on_total (null_rank k.nulls_first) nat_cmp_total) (directed_total k.desc))

-- ---- values that tie are equal

truth-exact : (p q : Bool) → bool_cmp p q ≡ Equal → p ≡ q
truth-exact true true e = refl
truth-exact true false e = cc
truth-exact false true e = cc
truth-exact false false e = refl

ascending-exact : (a b : Value) → compare_ascending a b ≡ Equal → a ≡ b
ascending-exact (Int m) (Int n) e = ap Int (exact_signed m n e)
ascending-exact (Text s) (Text t) e = ap Text (exact_bytes s t e)
ascending-exact (Truth p) (Truth q) e = ap Truth (truth-exact p q e)
ascending-exact Null Null e = refl
ascending-exact Null (Int y) e = cc
ascending-exact Null (Text y) e = cc
ascending-exact Null (Truth y) e = cc
ascending-exact (Int x) Null e = cc
ascending-exact (Int x) (Text y) e = cc
ascending-exact (Int x) (Truth y) e = cc
ascending-exact (Text x) Null e = cc
ascending-exact (Text x) (Int y) e = cc
ascending-exact (Text x) (Truth y) e = cc
ascending-exact (Truth x) Null e = cc
ascending-exact (Truth x) (Int y) e = cc
ascending-exact (Truth x) (Text y) e = cc

directed-exact : (d : Bool) (a b : Value) → directed d a b ≡ Equal → a ≡ b
directed-exact true a b e = sym (ascending-exact b a e)
directed-exact false a b e = ascending-exact a b e

ordering_then-Equal : (a b : Ordering) → ordering_then a b ≡ Equal → b ≡ Equal
ordering_then-Equal Less b e = cc
ordering_then-Equal Equal b e = e
ordering_then-Equal Greater b e = cc

pub compare-exact : (k : SortKey) (a b : Value) → compare k a b ≡ Equal → a ≡ b
compare-exact k a b e =
    directed-exact k.desc a b (ordering_then-Equal (nat_cmp (null_rank k.nulls_first a) (null_rank k.nulls_first b)) _ (compare-parts k.desc k.nulls_first a b ∙ e))
