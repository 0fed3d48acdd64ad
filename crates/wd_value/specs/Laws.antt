-- The laws of the key order.
use Rattle.std.specs.Prelude.{◌≡◌}
use Rattle.std.specs.Cmp.{IsTotalOrder}
use Rattle.std.specs.declared.cmp.Ordering.TheVariants.{Equal}
use Rattle.wd_value.specs.declared.value.Value.{Value}
use Rattle.wd_value.specs.declared.order.SortKey.{SortKey}
use Rattle.wd_value.specs.Order.{compare}

-- each sort key orders the values totally
abbrev pub IsTotal : Type 0
IsTotal = (key : SortKey) → IsTotalOrder (compare key)

-- values that tie under a sort key are equal
abbrev pub IsExact : Type 0
IsExact = (key : SortKey) (a b : Value) → compare key a b ≡ Equal → a ≡ b
