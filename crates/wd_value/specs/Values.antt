-- When two values are not distinct: NULL equals NULL.
use Rattle.std.specs.Prelude.{Bool, true, false, ◌==◌}
use Rattle.std.specs.Bool.{beq}
use Rattle.std.specs.Ordering.{int_eq}
use lib.Pointwise.{pointwise}
use Rattle.wd_value.specs.declared.value.Value.{Value}
use Rattle.wd_value.specs.declared.value.Value.TheVariants.{Null, Int, Text, Bool as Truth}

-- NULL and NULL, or equal values of one type
abbrev pub same : Value → Value → Bool
same Null Null = true
same (Int m) (Int n) = int_eq m n
same (Text s) (Text t) = pointwise ◌==◌ s t
same (Truth p) (Truth q) = beq p q
same a b = false
