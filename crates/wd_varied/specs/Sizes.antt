-- How many rows the tables of a candidate have.
use Rattle.std.specs.Prelude.{ℕ, ◌+◌, ◌*◌, ◌&&◌, ◌||◌, Bool, false, List, filter, nat_eq, nat_le, pos, negsuc, Option, Some, None}
use Rattle.std.specs.List.{list_any, range_with_len}
use Rattle.wd_value.specs.declared.value.Value.{Value}
use Rattle.wd_value.specs.declared.value.Value.TheVariants.{Null, Int, Text, Bool as Truth}
use Rattle.wd_plan.specs.Plans.{LimitRule, PlanTree, Scan, Join, Over, Limit}
use Rattle.wd_varied.specs.Literals.{literals}

-- one or two more than a number
abbrev pub is_past : ℕ → ℕ → Bool
is_past n rows = nat_eq (n + 1) rows || nat_eq (n + 2) rows

abbrev pub is_past_literal : ℕ → Value → Bool
is_past_literal rows Null = false
is_past_literal rows (Int (pos n)) = is_past n rows
is_past_literal rows (Int (negsuc n)) = false
is_past_literal rows (Text bytes) = false
is_past_literal rows (Truth b) = false

abbrev pub or_none : Option ℕ → ℕ
or_none None = 0
or_none (Some n) = n

-- how many rows a Limit leaves out and takes
abbrev pub reach : LimitRule → ℕ
reach limit = limit.offset + or_none limit.count

-- one or two more than some Limit of a plan reaches
abbrev pub is_past_limit : ℕ → PlanTree → Bool
is_past_limit rows (Scan table columns) = false
is_past_limit rows (Join condition left right) = is_past_limit rows left || is_past_limit rows right
is_past_limit rows (Over (Limit limit) input) = is_past_limit rows input || is_past (reach limit) rows
is_past_limit rows (Over step input) = is_past_limit rows input

-- how many rows the pairs of a plan's tables have, with the given number of rows each; a table that is read twice counts twice
abbrev pub paired : ℕ → PlanTree → ℕ
paired rows (Scan table columns) = rows
paired rows (Join condition left right) = paired rows left * paired rows right
paired rows (Over step input) = paired rows input

-- 2; and 3, 4, and those one or two more than a literal or than a Limit reaches, if the tables pair to no more than 16,384 rows
abbrev pub is_size : PlanTree → ℕ → Bool
is_size plan rows = nat_eq rows 2 || ((nat_le rows 4 || (list_any (is_past_literal rows) (literals plan) || is_past_limit rows plan)) && nat_le (paired rows plan) 16384)

-- the sizes from 2 to 64 rows
abbrev pub sizes : PlanTree → List ℕ
sizes plan = filter (is_size plan) (range_with_len 2 63)
