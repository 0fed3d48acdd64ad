-- Sets of members as tests, and as bits.
use Rattle.std.specs.Prelude.{ℕ, ◌+◌, ◌/◌, ◌%◌, Bool, true, false, List, nat_eq, get_or}
use Rattle.std.specs.Int.{bit_at}
use Rattle.std.specs.List.{list_any}
-- whether a column is in a list
pub use Rattle.wd_plan.specs.Plans.{has as is_in}
use Rattle.wd_step_facts.specs.declared.facts.Member.{Member}
use Rattle.wd_step_facts.specs.declared.facts.Member.TheVariants.{Column, Left, Right, Row}
use Rattle.wd_sets.specs.declared.set.Set.{Set}

abbrev pub same_member : Member → Member → Bool
same_member (Column c) (Column d) = nat_eq c d
same_member Left Left = true
same_member Right Right = true
same_member Row Row = true
same_member a b = false

abbrev pub stands_in : List Member → Member → Bool
stands_in s m = list_any (same_member m) s

-- ---- bits

-- the number of a member's bit
abbrev pub place : Member → ℕ
place (Column c) = c + 3
place Left = 1
place Right = 2
place Row = 0

-- whether a bit is set in words of 64
abbrev pub has_bit : List ℕ → ℕ → Bool
has_bit words i = nat_eq (bit_at (get_or words (i / 64) 0) (i % 64)) 1

-- whether a member is in a set
abbrev pub has : Set → Member → Bool
has s m = has_bit s.words.items (place m)

-- whether a column is in a set
abbrev pub has_column : Set → ℕ → Bool
has_column s c = has s (Column c)
