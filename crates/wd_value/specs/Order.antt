-- The order of values under a sort key.
use Rattle.std.specs.Prelude.{ℕ, if◌then◌else◌}
use Rattle.std.specs.declared.cmp.Ordering.{Ordering}
use Rattle.std.specs.declared.cmp.Ordering.TheVariants.{Less, Equal, Greater}
use Rattle.std.specs.Ordering.{nat_cmp, int_cmp, bool_cmp}
use Rattle.std.specs.Cmp.Lexicographic.{slice_cmp}
use Rattle.wd_value.specs.declared.value.Value.{Value}
use Rattle.wd_value.specs.declared.value.Value.TheVariants.{Null, Int, Text, Bool as Truth}
use Rattle.wd_value.specs.declared.order.SortKey.{SortKey}

-- whole numbers come before texts, texts before truth values; the place of NULL is up to the key
abbrev pub type_rank_of : Value → ℕ
type_rank_of (Int n) = 0
type_rank_of (Text t) = 1
type_rank_of (Truth b) = 2
type_rank_of Null = 3

-- ascending: whole numbers by size, texts by their bytes, false before true
abbrev pub compare_ascending : Value → Value → Ordering
compare_ascending (Int m) (Int n) = int_cmp m n
compare_ascending (Text s) (Text t) = slice_cmp nat_cmp s t
compare_ascending (Truth p) (Truth q) = bool_cmp p q
compare_ascending a b = nat_cmp (type_rank_of a) (type_rank_of b)

-- NULL comes first or last as the key says; descending reverses the order of all other values
abbrev pub compare : SortKey → Value → Value → Ordering
compare key Null Null = Equal
compare key Null b = if key.nulls_first then Less else Greater
compare key a Null = if key.nulls_first then Greater else Less
compare key a b = if key.desc then compare_ascending b a else compare_ascending a b
