-- Worked examples of expressions.
use Rattle.std.specs.Prelude.{◌≡◌, ℕ, List, [], ◌∷◌, Ok, true, false, map, flat_map, Result, codes}
use Rattle.wd_value.specs.declared.value.Value.{Value}
use Rattle.wd_value.specs.declared.value.Value.TheVariants.{Null}
use Rattle.wd_value.specs.declared.value.Fault.{Fault}
use Rattle.wd_plan.specs.declared.expression.ComparisonOp.{ComparisonOp}
use Rattle.wd_plan.specs.declared.expression.ArithmeticOp.TheVariants.{Add, Subtract, Multiply, Divide, Remainder}
use Rattle.wd_plan.specs.declared.expression.ComparisonOp.TheVariants.{Equal, NotEqual, Less, LessOrEqual, Greater, GreaterOrEqual}
use Rattle.wd_plan.specs.declared.expression.ValueKind.TheVariants.{Number}
use Rattle.wd_plan.specs.declared.expression.Branch.TheVariants.{First}
use Rattle.wd_plan.specs.Expressions.{Expression, Literal, Negate, Arithmetic, Compare, Not, And, Or, IsNull, IsNotNull, Case, value_of}
use Rattle.wd_plan.specs.Outcomes.{outcome}
use Rattle.wd_plan.specs.Plans.{PlanTree, Map, Over}
use Rattle.wd_laws.specs.examples.Literals.{n, minus, text, truth, num, scan_t, four_rows, one_row}
use Rattle.wd_plan.specs.declared.expression.ValueKind.TheVariants as kind

-- a literal of a whole number with a minus sign
abbrev pub neg : ℕ → Expression
neg k = Literal (minus k) Number

-- a NULL of whole numbers
abbrev pub no_number : Expression
no_number = Literal Null Number

-- a truth value, or NULL
abbrev pub is : Value → Expression
is v = Literal v kind.Truth

-- the value of an expression without columns
abbrev pub value : Expression → Result Value Fault
value e = value_of e []

-- a connective over true, false and NULL on the left, each with true, false and NULL on the right
abbrev pub table_of : (Expression → Expression → Expression) → List (Result Value Fault)
table_of f = flat_map (λ left. map (λ right. value (f (is left) (is right))) three) three
  where
    three : List Value
    three = truth true ∷ truth false ∷ Null ∷ []

-- a comparison of 1, 2 and 2 with 2, 2 and 1
abbrev pub compared : ComparisonOp → List (Result Value Fault)
compared op = value (Compare op (num 1) (num 2)) ∷ value (Compare op (num 2) (num 2)) ∷ value (Compare op (num 2) (num 1)) ∷ []

abbrev pub all_fine : List Value → List (Result Value Fault)
all_fine = map (λ v. Ok v)

-- SELECT 9 - (4 - 2), 9 - 4 - 2, -7 / 2, -7 % 2, -9223372036854775808 % -1 FROM t
abbrev pub computed : PlanTree
computed = Over (Map
    (Arithmetic Subtract (num 9) (Arithmetic Subtract (num 4) (num 2))
    ∷ Arithmetic Subtract (Arithmetic Subtract (num 9) (num 4)) (num 2)
    ∷ Arithmetic Divide (neg 7) (num 2)
    ∷ Arithmetic Remainder (neg 7) (num 2)
    ∷ Arithmetic Remainder (neg 9223372036854775808) (neg 1)
    ∷ [])) scan_t

-- SELECT NOT NOT TRUE FROM t
abbrev pub not_not : PlanTree
not_not = Over (Map (Not (Not (is (truth true))) ∷ [])) scan_t

-- The values of expressions.
pub record ValuesComeOut : Type 0 where
  -- Brackets count, division truncates toward zero, the remainder by -1 is 0.
  pub arithmetic_and_brackets : outcome computed one_row []
      ≡ Ok ((n 7 ∷ n 3 ∷ minus 3 ∷ minus 1 ∷ n 0 ∷ []) ∷ [])
  -- NOT may repeat.
  pub run_repeated_not : outcome not_not four_rows []
      ≡ Ok ((truth true ∷ []) ∷ (truth true ∷ []) ∷ (truth true ∷ []) ∷ (truth true ∷ []) ∷ [])
  -- 7 / -2
  pub divided_toward_zero : value (Arithmetic Divide (num 7) (neg 2)) ≡ Ok (minus 3)
  -- 7 % -2: the remainder has the dividend's sign.
  pub remainder_of_a_positive_number : value (Arithmetic Remainder (num 7) (neg 2)) ≡ Ok (n 1)
  -- 9223372036854775806 + 1: the greatest number of 64 bits.
  pub greatest_sum : value (Arithmetic Add (num 9223372036854775806) (num 1)) ≡ Ok (n 9223372036854775807)
  -- -4611686018427387904 * 2: the least number of 64 bits.
  pub least_product : value (Arithmetic Multiply (neg 4611686018427387904) (num 2)) ≡ Ok (minus 9223372036854775808)
  -- The greatest number, negated.
  pub negated_greatest : value (Negate (num 9223372036854775807)) ≡ Ok (minus 9223372036854775807)
  -- A NULL operand gives NULL.
  pub null_in_arithmetic : value (Arithmetic Add (num 1) no_number) ≡ Ok Null
  -- NULL / 0: NULL, even with a zero divisor.
  pub null_by_zero : value (Arithmetic Divide no_number (num 0)) ≡ Ok Null
  -- NULL = NULL: a side that is NULL gives NULL.
  pub null_compared : value (Compare Equal no_number no_number) ≡ Ok Null
  -- NULL IS NULL: never NULL.
  pub null_is_null : value (IsNull no_number) ≡ Ok (truth true)
  -- NULL IS NOT NULL.
  pub null_is_not_null : value (IsNotNull no_number) ≡ Ok (truth false)
  -- 'ab' < 'b': texts are compared by their bytes.
  pub texts_by_bytes : value (Compare Less (Literal (text (codes "ab")) kind.Text) (Literal (text (codes "b")) kind.Text)) ≡ Ok (truth true)
  -- 'ab' < 'a': a text comes after what it begins with.
  pub prefix_of_a_text : value (Compare Less (Literal (text (codes "ab")) kind.Text) (Literal (text (codes "a")) kind.Text)) ≡ Ok (truth false)
  -- FALSE < TRUE.
  pub false_before_true : value (Compare Less (is (truth false)) (is (truth true))) ≡ Ok (truth true)
  -- FALSE AND 1 / 0 = 1: the right side is not evaluated.
  pub and_not_looked_at : value (And (is (truth false)) (Compare Equal (Arithmetic Divide (num 1) (num 0)) (num 1))) ≡ Ok (truth false)
  -- TRUE OR 1 / 0 = 1: not here either.
  pub or_not_looked_at : value (Or (is (truth true)) (Compare Equal (Arithmetic Divide (num 1) (num 0)) (num 1))) ≡ Ok (truth true)
  -- CASE WHEN TRUE THEN 1 ELSE 1 / 0 END: only what is reached is evaluated.
  pub case_that_is_reached : value (Case First (is (truth true)) (num 1) (Arithmetic Divide (num 1) (num 0))) ≡ Ok (n 1)
  -- CASE WHEN NULL THEN 1 ELSE 2 END: a condition that is NULL is not true.
  pub case_of_null : value (Case First (is Null) (num 1) (num 2)) ≡ Ok (n 2)
  -- AND in three values.
  pub table_of_and : table_of And
      ≡ all_fine (truth true ∷ truth false ∷ Null ∷ truth false ∷ truth false ∷ truth false ∷ Null ∷ truth false ∷ Null ∷ [])
  -- OR in three values.
  pub table_of_or : table_of Or
      ≡ all_fine (truth true ∷ truth true ∷ truth true ∷ truth true ∷ truth false ∷ Null ∷ truth true ∷ Null ∷ Null ∷ [])
  -- 1 = 2, 2 = 2, 2 = 1
  pub compared_equal : compared Equal ≡ all_fine (truth false ∷ truth true ∷ truth false ∷ [])
  -- 1 <> 2, 2 <> 2, 2 <> 1
  pub compared_not_equal : compared NotEqual ≡ all_fine (truth true ∷ truth false ∷ truth true ∷ [])
  -- 1 < 2, 2 < 2, 2 < 1
  pub compared_less : compared Less ≡ all_fine (truth true ∷ truth false ∷ truth false ∷ [])
  -- 1 <= 2, 2 <= 2, 2 <= 1
  pub compared_less_or_equal : compared LessOrEqual ≡ all_fine (truth true ∷ truth true ∷ truth false ∷ [])
  -- 1 > 2, 2 > 2, 2 > 1
  pub compared_greater : compared Greater ≡ all_fine (truth false ∷ truth false ∷ truth true ∷ [])
  -- 1 >= 2, 2 >= 2, 2 >= 1
  pub compared_greater_or_equal : compared GreaterOrEqual ≡ all_fine (truth false ∷ truth true ∷ truth true ∷ [])
