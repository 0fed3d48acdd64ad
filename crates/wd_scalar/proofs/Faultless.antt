-- An expression without arithmetic has a value over each row.
use Rattle.std.proofs.Common.{◌≡◌, Bool, true, false, cond, ◌||◌, Result, Ok, refl, sym, ap, ◌∙◌}
use Rattle.std.proofs.lemmas.Bool.{false≢true}
use Rattle.wd_value.specs.declared.value.Value.{Value}
use Rattle.wd_value.specs.declared.value.Value.TheVariants.{Null, Int, Text, Bool as Truth}
use Rattle.wd_value.specs.declared.value.Fault.{Fault}
use Rattle.wd_value.specs.Rows.{Row, column_of}
use Rattle.wd_plan.specs.Expressions.{Expression, Column, Literal, Negate, Arithmetic, Compare, Not, And, Or, IsNull, IsNotNull, Case, value_of, and_result, or_result, is_true}
use Rattle.wd_plan.specs.Faults.{and_then}
use Rattle.wd_scalar.specs.Arithmetic.{has_arithmetic}

-- a result that is a value
abbrev pub HasValue : Result Value Fault → Type 0
HasValue r = (v : Value) × (r ≡ Ok v)

neither : (a b : Bool) → (a || b) ≡ false → (a ≡ false) × (b ≡ false)
neither true b h = absurd (false≢true (sym h))
neither false b h = (refl, h)

then_value : (r : Result Value Fault) (f : Value → Result Value Fault) → HasValue r → ((v : Value) → HasValue (f v)) → HasValue (and_then r f)
then_value r f (v, is) h = ((h v).0, ap (λ x. and_then x f) is ∙ (h v).1)

and_value : (v : Value) (r : Result Value Fault) → HasValue r → HasValue (and_result v r)
and_value (Truth false) r h = (Truth false, refl)
and_value (Truth true) r h = then_value r _ h (λ w. (_, refl))
and_value Null r h = then_value r _ h (λ w. (_, refl))
and_value (Int n) r h = then_value r _ h (λ w. (_, refl))
and_value (Text t) r h = then_value r _ h (λ w. (_, refl))

or_value : (v : Value) (r : Result Value Fault) → HasValue r → HasValue (or_result v r)
or_value (Truth true) r h = (Truth true, refl)
or_value (Truth false) r h = then_value r _ h (λ w. (_, refl))
or_value Null r h = then_value r _ h (λ w. (_, refl))
or_value (Int n) r h = then_value r _ h (λ w. (_, refl))
or_value (Text t) r h = then_value r _ h (λ w. (_, refl))

either_value : (b : Bool) (r s : Result Value Fault) → HasValue r → HasValue s → HasValue (cond b r s)
either_value true r s h g = h
either_value false r s h g = g

pub never_faults : (e : Expression) (row : Row) → has_arithmetic e ≡ false → HasValue (value_of e row)
never_faults (Column c) row h = (column_of row c, refl)
never_faults (Literal v kind) row h = (v, refl)
never_faults (Negate a) row h = absurd (false≢true (sym h))
never_faults (Arithmetic op a b) row h = absurd (false≢true (sym h))
never_faults (Compare op a b) row h =
    let parts = neither (has_arithmetic a) (has_arithmetic b) h in
    let right = never_faults b row parts.1 in
    then_value (value_of a row) _ (never_faults a row parts.0) (λ v. then_value (value_of b row) _ right (λ w. (_, refl)))
never_faults (Not a) row h = then_value (value_of a row) _ (never_faults a row h) (λ v. (_, refl))
never_faults (And a b) row h =
    let parts = neither (has_arithmetic a) (has_arithmetic b) h in
    let right = never_faults b row parts.1 in
    then_value (value_of a row) _ (never_faults a row parts.0) (λ v. and_value v (value_of b row) right)
never_faults (Or a b) row h =
    let parts = neither (has_arithmetic a) (has_arithmetic b) h in
    let right = never_faults b row parts.1 in
    then_value (value_of a row) _ (never_faults a row parts.0) (λ v. or_value v (value_of b row) right)
never_faults (IsNull a) row h = then_value (value_of a row) _ (never_faults a row h) (λ v. (_, refl))
never_faults (IsNotNull a) row h = then_value (value_of a row) _ (never_faults a row h) (λ v. (_, refl))
never_faults (Case branch a b c) row h =
    let parts = neither (has_arithmetic a) (has_arithmetic b || has_arithmetic c) h in
    let others = neither (has_arithmetic b) (has_arithmetic c) parts.1 in
    let yes_value = never_faults b row others.0 in
    let no_value = never_faults c row others.1 in
    then_value (value_of a row) _ (never_faults a row parts.0) (λ v. either_value (is_true v) (value_of b row) (value_of c row) yes_value no_value)
