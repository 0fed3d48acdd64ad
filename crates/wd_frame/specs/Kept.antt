-- What slides keep of the values that they hold.
use Rattle.std.specs.Prelude.{◌≡◌, ℕ, ℤ, pos, neg_ℤ, ◌^◌, ◌≤ℤ◌, Bool, [], ◌∷◌, ◌++◌, if◌then◌else◌}
use Rattle.std.specs.List.{AllByRecursion}
use Rattle.std.specs.Ordering.{is_gt}
use Rattle.wd_value.specs.declared.order.SortKey.{SortKey}
use Rattle.wd_value.specs.declared.value.Value.{Value}
use Rattle.wd_value.specs.declared.value.Value.TheVariants.{Null, Int, Text, Bool as Truth}
use Rattle.wd_value.specs.Order.{compare}
use Rattle.wd_plan.specs.Calls.{total}
use Rattle.wd_plan.specs.Expressions.{is_null}
use Rattle.wd_frame.specs.declared.candidate.Candidates.{Candidates}
use Rattle.wd_frame.specs.Slides.{Values, numbers, seen}

-- ---- sums

-- 1 where a test holds
abbrev pub one_if : Bool → ℕ
one_if b = if b then 1 else 0

-- the whole number, and 0 where the value is none
abbrev pub number_of : Value → ℤ
number_of (Int n) = n
number_of Null = pos 0
number_of (Text bytes) = pos 0
number_of (Truth b) = pos 0

-- 64 bits hold the number
pub record IsHeld (v : Value) : Type 0 where
  pub least : neg_ℤ (pos (2 ^ 63)) ≤ℤ number_of v
  pub most : number_of v ≤ℤ pos (2 ^ 63)

-- of a list of values: how many are whole numbers, their total, and 64 bits hold each
pub record IsSumOf (values : Values) (count : ℕ) (so_far : ℤ) : Type 0 where
  pub counted : count ≡ numbers values
  pub exact : so_far ≡ total values
  pub held : AllByRecursion IsHeld values

-- ---- candidates

-- whether a value comes after all candidates, so that it is none itself
abbrev pub is_after : SortKey → Value → Values → Bool
is_after key v [] = is_null v
is_after key v (c ∷ cs) = is_gt (compare key v c)

-- The values that come first once those before them are gone: each that is not NULL and that no later value comes before. The first of
-- them comes first of all.
abbrev pub candidates : SortKey → Values → Values
candidates key [] = []
candidates key (v ∷ vs) = let cs = candidates key vs in if is_after key v cs then cs else v ∷ cs

-- the candidates that are kept after a candidate, with this candidate; where none is kept, it goes if it comes after the value
abbrev pub kept_before : SortKey → Value → Value → Values → Values
kept_before key c x [] = if is_gt (compare key c x) then [] else c ∷ []
kept_before key c x (d ∷ ds) = c ∷ d ∷ ds

-- the candidates without those at the back that come after a value
abbrev pub trimmed : SortKey → Values → Value → Values
trimmed key [] x = []
trimmed key (c ∷ cs) x = kept_before key c x (trimmed key cs x)

-- the candidates with a value that comes at the back of the list
abbrev pub pushed : SortKey → Values → Value → Values
pushed key cs x = if is_null x then cs else trimmed key cs x ++ x ∷ []

-- the candidates without a value that goes at the front of the list
abbrev pub popped : SortKey → Values → Value → Values
popped key [] v = []
popped key (c ∷ cs) v = if is_gt (compare key v c) then c ∷ cs else cs

-- the candidates of the values
abbrev pub AreCandidates : SortKey → Candidates → Type 0
AreCandidates key c = seen c.first.items ≡ candidates key (seen c.values.items)
