-- What a window function answers over the values of a frame.
use Rattle.std.specs.Prelude.{◌≡◌, ℕ, ℤ, pos, neg_ℤ, ◌*◌, ◌^◌, ◌+ℤ◌, ◌≤ℤ◌, Bool, true, false, not, List, length, map, count_by, nat_eq, if◌then◌else◌, ⊤}
use Rattle.std.specs.Borrow.{Bor}
use Rattle.std.specs.Ordering.{is_gt}
use Rattle.wd_value.specs.declared.order.SortKey.{SortKey}
use Rattle.wd_value.specs.declared.value.Value.{Value}
use Rattle.wd_value.specs.declared.value.Value.TheVariants.{Null, Int, Text, Bool as Truth}
use Rattle.wd_value.specs.Order.{compare}
use Rattle.wd_plan.specs.Calls.{first_by, total}
use Rattle.wd_plan.specs.Expressions.{is_null}
use Rattle.wd_frame.specs.declared.answer.Answer.{Answer}
use Rattle.wd_frame.specs.declared.answer.Answer.TheVariants as answer

abbrev pub Values : Type 0
Values = List Value

-- what references point to
abbrev pub seen : List (Bor Value) → Values
seen references = map (λ r. r.now) references

-- ---- answers

-- an answer: a number, one of the values, or nothing
pub data Plain : Type 0 where
  Number : ℤ → Plain
  Of : Value → Plain
  Nothing : Plain

-- how contracts see an answer
abbrev pub shown : Answer → Plain
shown (answer.Number n) = Number n
shown (answer.Of value) = Of value.now
shown answer.Nothing = Nothing

-- a value as an answer; NULL is nothing
abbrev pub answer_of : Value → Plain
answer_of Null = Nothing
answer_of (Int n) = Of (Int n)
answer_of (Text bytes) = Of (Text bytes)
answer_of (Truth b) = Of (Truth b)

-- how many values are not NULL
abbrev pub present : Values → ℕ
present values = count_by (λ v. not (is_null v)) values

abbrev pub count_over : Values → Plain
count_over values = Number (pos (present values))

abbrev pub is_number : Value → Bool
is_number (Int n) = true
is_number Null = false
is_number (Text bytes) = false
is_number (Truth b) = false

-- how many values are whole numbers
abbrev pub numbers : Values → ℕ
numbers values = count_by is_number values

-- the exact total of the whole numbers, or nothing where there is none
abbrev pub sum_over : Values → Plain
sum_over values = if nat_eq (numbers values) 0 then Nothing else Number (total values)

-- the value that comes first under a key
abbrev pub first_over : SortKey → Values → Plain
first_over key values = answer_of (first_by key values)

abbrev pub ascending : SortKey
ascending = record { desc = false; nulls_first = false }

abbrev pub descending : SortKey
descending = record { desc = true; nulls_first = false }

-- a number is no larger in size than a sum of n whole numbers of 64 bits can be
abbrev pub IsSmall : ℕ → Plain → Type 0
IsSmall n (Number k) = (neg_ℤ (pos (n * 2 ^ 63)) ≤ℤ k) × (k ≤ℤ pos (n * 2 ^ 63))
IsSmall n (Of v) = ⊤
IsSmall n Nothing = ⊤

-- the answer of the code is that over a list of values
pub record IsAnswer (plain : Values → Plain) (values : Values) (answer : Answer) : Type 0 where
  pub exact : shown answer ≡ plain values
  pub small : IsSmall (length values) (shown answer)

-- ---- the answer over one list and another, from those over each

-- numbers add up
abbrev pub added : Plain → Plain → Plain
added (Number m) (Number n) = Number (m +ℤ n)
added (Number m) (Of w) = Number m
added (Number m) Nothing = Number m
added (Of v) q = Of v
added Nothing q = q

-- the one of two values that comes first under a key
abbrev pub first_of_two : SortKey → Plain → Plain → Plain
first_of_two key (Of v) (Of w) = if is_gt (compare key v w) then Of w else Of v
first_of_two key (Of v) (Number n) = Of v
first_of_two key (Of v) Nothing = Of v
first_of_two key (Number m) q = Number m
first_of_two key Nothing q = q
