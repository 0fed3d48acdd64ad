-- Columns that others give back: where a column is computed so from another one, a function takes its values back to that one's.
use Rattle.std.proofs.Common.{◌≡◌, ℕ, zero, suc, ◌<◌, ℤ, pos, Bool, true, false, cond, List, [], ◌∷◌, ◌++◌, map, length, nat_eq, nat_lt, refl, sym, ◌∙◌, ap, subst, arith, Option, Some, None, option_and_then, option_map, option_to_list, slice_get, Result, Ok, Err}
use Rattle.std.specs.Prelude.{◌+ℤ◌, ◌-ℤ◌, neg_ℤ}
use Rattle.std.specs.List.{AllByRecursion, list_all}
use Rattle.std.proofs.lemmas.Bool.{and_parts, eqb-true, false≢true, ltb-true}
use Rattle.std.proofs.lemmas.Int.{ints}
use Rattle.std.proofs.Math.Bool.{or-false}
use Rattle.std.proofs.lemmas.List.{get_or_append_left}
use Rattle.wd_schema.specs.Meets.{Meets}
use Rattle.wd_schema.specs.Tables.{TableRule}
use Rattle.wd_value.specs.declared.value.Fault.{Fault}
use Rattle.wd_value.specs.declared.value.Fault.TheVariants.{OutOfRange}
use Rattle.wd_value.specs.declared.value.Value.{Value}
use Rattle.wd_value.specs.declared.value.Value.TheVariants.{Null, Int, Text, Bool as Truth}
use Rattle.wd_value.specs.Rows.{Instance, Row, column_of, row_at}
use Rattle.wd_laws.proofs.AllValues.{AllOk, all_ok_each}
use Rattle.wd_laws.proofs.ValueKinds.{Each, IsOf, value_is}
use Rattle.wd_laws.proofs.Widths.{AllRows, all_distinct, all_filtered, has_kinds, has_widths}
use Rattle.wd_laws.specs.Laws.{IsOfKinds}
use Rattle.wd_plan.specs.Choices.{AreLawful}
use Rattle.wd_plan.specs.declared.expression.ArithmeticOp.{ArithmeticOp}
use Rattle.wd_plan.specs.declared.expression.ArithmeticOp.TheVariants.{Add, Subtract, Multiply, Divide, Remainder}
use Rattle.wd_plan.specs.declared.expression.ValueKind.{ValueKind}
use Rattle.wd_plan.specs.declared.expression.ValueKind.TheVariants as kind
use Rattle.wd_plan.specs.Expressions.{Expression, Column, Literal, Negate, Arithmetic, Compare, Not, And, Or, IsNull, IsNotNull, Case, arithmetic_value, fits_64, in_64, negated, value_of}
use Rattle.wd_plan.specs.Facts.{HasWidth}
use Rattle.wd_plan.specs.Faults.{all_ok, and_then}
use Rattle.wd_plan.specs.Fits.{Kinds, fits, is_kind, is_narrow, is_typed, kind_of, kinds_of, width}
use Rattle.wd_plan.specs.Outcomes.{call_at, distinct, filter_outcome, map_outcome, outcome, window_outcome}
use Rattle.wd_plan.specs.Plans.{PlanTree, Scan, Join, Over, Filter, Map, Group, Window, WindowRule, Distinct, Limit, has, own_orderings}
use Rattle.wd_simpler.proofs.Rows.{all_made, at_any, at_each, is_extended, item_value, then_all, window_rows}
use Rattle.wd_simpler.specs.Keyed.{column_shown, source_column, is_number, is_shift, is_whole, origin, place_of, shifted}

-- ---- expressions

-- a number added to a value, and the value of the other sign; other values stay
abbrev pub plus : ℤ → Value → Value
plus m (Int n) = Int (n +ℤ m)
plus m Null = Null
plus m (Text t) = Text t
plus m (Truth b) = Truth b

abbrev pub signed : Value → Value
signed (Int n) = Int (neg_ℤ n)
signed Null = Null
signed (Text t) = Text t
signed (Truth b) = Truth b

abbrev pub number_in : Value → ℤ
number_in (Int n) = n
number_in Null = pos 0
number_in (Text t) = pos 0
number_in (Truth b) = pos 0

-- the number of a literal
abbrev pub number_of : Expression → ℤ
number_of (Column c) = pos 0
number_of (Literal v kind) = number_in v
number_of (Negate a) = pos 0
number_of (Arithmetic o a b) = pos 0
number_of (Compare o a b) = pos 0
number_of (Not a) = pos 0
number_of (And a b) = pos 0
number_of (Or a b) = pos 0
number_of (IsNull a) = pos 0
number_of (IsNotNull a) = pos 0
number_of (Case k a b c) = pos 0

-- the left operand beside a number, and the right one after a number
abbrev pub left_back : ArithmeticOp → ℤ → Value → Value
left_back Add m v = plus (neg_ℤ m) v
left_back Subtract m v = plus m v
left_back Multiply m v = v
left_back Divide m v = v
left_back Remainder m v = v

abbrev pub right_back : ArithmeticOp → ℤ → Value → Value
right_back Add m v = plus (neg_ℤ m) v
right_back Subtract m v = signed (plus (neg_ℤ m) v)
right_back Multiply m v = v
right_back Divide m v = v
right_back Remainder m v = v

-- the value of the column from which an expression is computed, by the expression's value
abbrev pub back : Expression → Value → Value
back (Column c) v = v
back (Literal w kind) v = v
back (Negate a) v = back a (signed v)
back (Arithmetic o a b) v = cond (is_number b) (back a (left_back o (number_of b) v)) (back b (right_back o (number_of a) v))
back (Compare o a b) v = v
back (Not a) v = v
back (And a b) v = v
back (Or a b) v = v
back (IsNull a) v = v
back (IsNotNull a) v = v
back (Case k a b c) v = v

-- NULL stays
null_left : (o : ArithmeticOp) (m : ℤ) → left_back o m Null ≡ Null
null_left Add m = refl
null_left Subtract m = refl
null_left Multiply m = refl
null_left Divide m = refl
null_left Remainder m = refl

null_right : (o : ArithmeticOp) (m : ℤ) → right_back o m Null ≡ Null
null_right Add m = refl
null_right Subtract m = refl
null_right Multiply m = refl
null_right Divide m = refl
null_right Remainder m = refl

either_null : (b : Bool) (v w : Value) → v ≡ Null → w ≡ Null → cond b v w ≡ Null
either_null true v w h k = h
either_null false v w h k = k

back_null : (e : Expression) → back e Null ≡ Null
back_null (Column c) = refl
back_null (Literal w kind) = refl
back_null (Negate a) = back_null a
back_null (Arithmetic o a b) = either_null (is_number b) _ _ (ap (back a) (null_left o (number_of b)) ∙ back_null a) (ap (back b) (null_right o (number_of a)) ∙ back_null b)
back_null (Compare o a b) = refl
back_null (Not a) = refl
back_null (And a b) = refl
back_null (Or a b) = refl
back_null (IsNull a) = refl
back_null (IsNotNull a) = refl
back_null (Case k a b c) = refl

-- ---- what a value is computed from

value_same : (v w : Value) → ◌≡◌ {A = Result Value Fault} (Ok v) (Ok w) → v ≡ w
value_same v w e = cc

in_64_is : (n : ℤ) (w : Value) → in_64 n ≡ Ok w → w ≡ Int n
in_64_is n w = by (fits_64 n)
  where
    by : (b : Bool) → ◌≡◌ {A = Result Value Fault} (cond b (Ok (Int n)) (Err OutOfRange)) (Ok w) → w ≡ Int n
    by true e = sym (value_same (Int n) w e)
    by false e = absurd cc

twice_signed : (n : ℤ) → neg_ℤ (neg_ℤ n) ≡ n
twice_signed n = grind (arith, ints)

added_back : (n m : ℤ) → (n +ℤ m) +ℤ neg_ℤ m ≡ n
added_back n m = grind (arith, ints)

subtracted_back : (n m : ℤ) → (n -ℤ m) +ℤ m ≡ n
subtracted_back n m = grind (arith, ints)

added_after : (n m : ℤ) → (m +ℤ n) +ℤ neg_ℤ m ≡ n
added_after n m = grind (arith, ints)

subtracted_after : (n m : ℤ) → neg_ℤ ((m -ℤ n) +ℤ neg_ℤ m) ≡ n
subtracted_after n m = grind (arith, ints)

signed_back : (r : Result Value Fault) → Each (IsOf kind.Number) r → (w : Value) → and_then r negated ≡ Ok w → r ≡ Ok (signed w)
signed_back (Ok (Int n)) is w e = ap (λ m. Ok (Int m)) (sym (twice_signed n)) ∙ ap (λ v. Ok (signed v)) (sym (in_64_is (neg_ℤ n) w e))
signed_back (Ok Null) is w e = ap (λ v. Ok (signed v)) (value_same Null w e)
signed_back (Ok (Text t)) is w e = absurd (false≢true is)
signed_back (Ok (Truth b)) is w e = absurd (false≢true is)
signed_back (Err fault) is w e = absurd cc

left_is : (o : ArithmeticOp) (m : ℤ) → is_shift o ≡ true → (r : Result Value Fault) → Each (IsOf kind.Number) r → (w : Value) → and_then r (λ v. arithmetic_value o v (Int m)) ≡ Ok w → r ≡ Ok (left_back o m w)
left_is Add m h (Ok (Int n)) is w e = ap (λ k. Ok (Int k)) (sym (added_back n m)) ∙ ap (λ v. Ok (plus (neg_ℤ m) v)) (sym (in_64_is (n +ℤ m) w e))
left_is Subtract m h (Ok (Int n)) is w e = ap (λ k. Ok (Int k)) (sym (subtracted_back n m)) ∙ ap (λ v. Ok (plus m v)) (sym (in_64_is (n -ℤ m) w e))
left_is Multiply m h r is w e = absurd (false≢true h)
left_is Divide m h r is w e = absurd (false≢true h)
left_is Remainder m h r is w e = absurd (false≢true h)
left_is Add m h (Ok Null) is w e = ap (λ v. Ok (plus (neg_ℤ m) v)) (value_same Null w e)
left_is Subtract m h (Ok Null) is w e = ap (λ v. Ok (plus m v)) (value_same Null w e)
left_is Add m h (Ok (Text t)) is w e = absurd (false≢true is)
left_is Subtract m h (Ok (Text t)) is w e = absurd (false≢true is)
left_is Add m h (Ok (Truth b)) is w e = absurd (false≢true is)
left_is Subtract m h (Ok (Truth b)) is w e = absurd (false≢true is)
left_is Add m h (Err fault) is w e = absurd cc
left_is Subtract m h (Err fault) is w e = absurd cc

right_is : (o : ArithmeticOp) (m : ℤ) → is_shift o ≡ true → (r : Result Value Fault) → Each (IsOf kind.Number) r → (w : Value) → and_then r (λ v. arithmetic_value o (Int m) v) ≡ Ok w → r ≡ Ok (right_back o m w)
right_is Add m h (Ok (Int n)) is w e = ap (λ k. Ok (Int k)) (sym (added_after n m)) ∙ ap (λ v. Ok (plus (neg_ℤ m) v)) (sym (in_64_is (m +ℤ n) w e))
right_is Subtract m h (Ok (Int n)) is w e = ap (λ k. Ok (Int k)) (sym (subtracted_after n m)) ∙ ap (λ v. Ok (signed (plus (neg_ℤ m) v))) (sym (in_64_is (m -ℤ n) w e))
right_is Multiply m h r is w e = absurd (false≢true h)
right_is Divide m h r is w e = absurd (false≢true h)
right_is Remainder m h r is w e = absurd (false≢true h)
right_is Add m h (Ok Null) is w e = ap (λ v. Ok (plus (neg_ℤ m) v)) (value_same Null w e)
right_is Subtract m h (Ok Null) is w e = ap (λ v. Ok (signed (plus (neg_ℤ m) v))) (value_same Null w e)
right_is Add m h (Ok (Text t)) is w e = absurd (false≢true is)
right_is Subtract m h (Ok (Text t)) is w e = absurd (false≢true is)
right_is Add m h (Ok (Truth b)) is w e = absurd (false≢true is)
right_is Subtract m h (Ok (Truth b)) is w e = absurd (false≢true is)
right_is Add m h (Err fault) is w e = absurd cc
right_is Subtract m h (Err fault) is w e = absurd cc

whole_is : (v : Value) → is_whole v ≡ true → v ≡ Int (number_in v)
whole_is (Int n) h = refl
whole_is Null h = absurd (false≢true h)
whole_is (Text t) h = absurd (false≢true h)
whole_is (Truth b) h = absurd (false≢true h)

number_is : (e : Expression) (row : Row) → is_number e ≡ true → value_of e row ≡ Ok (Int (number_of e))
number_is (Column c) row h = absurd (false≢true h)
number_is (Literal v kind) row h = ap (λ x. Ok x) (whole_is v h)
number_is (Negate a) row h = absurd (false≢true h)
number_is (Arithmetic o a b) row h = absurd (false≢true h)
number_is (Compare o a b) row h = absurd (false≢true h)
number_is (Not a) row h = absurd (false≢true h)
number_is (And a b) row h = absurd (false≢true h)
number_is (Or a b) row h = absurd (false≢true h)
number_is (IsNull a) row h = absurd (false≢true h)
number_is (IsNotNull a) row h = absurd (false≢true h)
number_is (Case k a b c) row h = absurd (false≢true h)

is_number_kind : (o : Option ValueKind) → is_kind kind.Number o ≡ true → o ≡ Some kind.Number
is_number_kind None h = absurd (false≢true h)
is_number_kind (Some kind.Number) h = refl
is_number_kind (Some kind.Text) h = absurd (false≢true h)
is_number_kind (Some kind.Truth) h = absurd (false≢true h)

no_column : (c : ℕ) → ◌≡◌ {A = Option ℕ} None (Some c) → ⊥
no_column c e = cc

column_same : (c d : ℕ) → Some c ≡ Some d → c ≡ d
column_same c d e = cc

module _ (kinds : Kinds) (row : Row) (are : IsOfKinds kinds row) where
  operand_is : (a : Expression) → is_typed kinds a ≡ true → is_kind kind.Number (kind_of kinds a) ≡ true → Each (IsOf kind.Number) (value_of a row)
  operand_is a typed number = value_is kinds row are a typed kind.Number (is_number_kind (kind_of kinds a) number)

  pub shifted_back : (e : Expression) → is_typed kinds e ≡ true → (c : ℕ) → shifted e ≡ Some c → (w : Value) → value_of e row ≡ Ok w → column_of row c ≡ back e w
  shifted_back (Column d) typed c h w e = ap (column_of row) (sym (column_same d c h)) ∙ value_same (column_of row d) w e
  shifted_back (Literal v kind) typed c h w e = absurd (no_column c h)
  shifted_back (Negate a) typed c h w e =
      let parts = and_parts (is_typed kinds a) (is_kind kind.Number (kind_of kinds a)) typed in
      shifted_back a parts.0 c h (signed w) (signed_back (value_of a row) (operand_is a parts.0 parts.1) w e)
  shifted_back (Arithmetic o a b) typed c h w e =
      let parts = and_parts _ _ typed in
      let left = and_parts (is_typed kinds a) (is_kind kind.Number (kind_of kinds a)) parts.0 in
      let right = and_parts (is_typed kinds b) (is_kind kind.Number (kind_of kinds b)) parts.1 in
      by (is_shift o) refl (is_number b) refl (is_number a) refl (shifted_back a left.0) (shifted_back b right.0) (operand_is a left.0 left.1) (operand_is b right.0 right.1) h
    where
      by : (s : Bool) → is_shift o ≡ s → (second : Bool) → is_number b ≡ second → (first : Bool) → is_number a ≡ first → ((c : ℕ) → shifted a ≡ Some c → (w : Value) → value_of a row ≡ Ok w → column_of row c ≡ back a w) → ((c : ℕ) → shifted b ≡ Some c → (w : Value) → value_of b row ≡ Ok w → column_of row c ≡ back b w) → Each (IsOf kind.Number) (value_of a row) → Each (IsOf kind.Number) (value_of b row)
          → cond s (cond second (shifted a) (cond first (shifted b) None)) None ≡ Some c → column_of row c ≡ cond second (back a (left_back o (number_of b) w)) (back b (right_back o (number_of a) w))
      by false s second f first g left right is_a is_b k = absurd (no_column c k)
      by true s true f first g left right is_a is_b k =
          left c k (left_back o (number_of b) w) (left_is o (number_of b) s (value_of a row) is_a w (ap (λ r. and_then (value_of a row) (λ v. and_then r (λ x. arithmetic_value o v x))) (sym (number_is b row f)) ∙ e))
      by true s false f true g left right is_a is_b k =
          right c k (right_back o (number_of a) w) (right_is o (number_of a) s (value_of b row) is_b w (ap (λ r. and_then r (λ v. and_then (value_of b row) (λ x. arithmetic_value o v x))) (sym (number_is a row g)) ∙ e))
      by true s false f false g left right is_a is_b k = absurd (no_column c k)
  shifted_back (Compare o a b) typed c h w e = absurd (no_column c h)
  shifted_back (Not a) typed c h w e = absurd (no_column c h)
  shifted_back (And a b) typed c h w e = absurd (no_column c h)
  shifted_back (Or a b) typed c h w e = absurd (no_column c h)
  shifted_back (IsNull a) typed c h w e = absurd (no_column c h)
  shifted_back (IsNotNull a) typed c h w e = absurd (no_column c h)
  shifted_back (Case k a b d) typed c h w e = absurd (no_column c h)

-- ---- plans

-- the value that an output gives back of a Map's input, by the function of a column that it shows
abbrev pub output_back : (ℕ → Value → Value) → Expression → Value → Value
output_back below (Column c) = below c
output_back below (Literal v kind) = back (Literal v kind)
output_back below (Negate a) = back (Negate a)
output_back below (Arithmetic o a b) = back (Arithmetic o a b)
output_back below (Compare o a b) = back (Compare o a b)
output_back below (Not a) = back (Not a)
output_back below (And a b) = back (And a b)
output_back below (Or a b) = back (Or a b)
output_back below (IsNull a) = back (IsNull a)
output_back below (IsNotNull a) = back (IsNotNull a)
output_back below (Case k a b c) = back (Case k a b c)

abbrev pub some_back : (ℕ → Value → Value) → Option Expression → Value → Value
some_back below None v = v
some_back below (Some e) v = output_back below e v

-- the value that a plan's column gives back
abbrev pub undone : PlanTree → ℕ → Value → Value
undone (Scan table columns) c v = v
undone (Join condition left right) c v = v
undone (Over (Map outputs) input) c v = some_back (undone input) (slice_get outputs c) v
undone (Over (Group rule) input) c v = v
undone (Over (Limit limit) input) c v = v
undone (Over step input) c v = undone input c v

abbrev pub GivesBack : PlanTree → Row → Type 0
GivesBack plan row = (c d : ℕ) → source_column plan c ≡ Some d → column_of row d ≡ undone plan c (column_of row c)

-- also of a row without columns, where all is NULL
output_null : (below : ℕ → Value → Value) → ((c : ℕ) → below c Null ≡ Null) → (e : Expression) → output_back below e Null ≡ Null
output_null below h (Column c) = h c
output_null below h (Literal v kind) = back_null (Literal v kind)
output_null below h (Negate a) = back_null (Negate a)
output_null below h (Arithmetic o a b) = back_null (Arithmetic o a b)
output_null below h (Compare o a b) = refl
output_null below h (Not a) = refl
output_null below h (And a b) = refl
output_null below h (Or a b) = refl
output_null below h (IsNull a) = refl
output_null below h (IsNotNull a) = refl
output_null below h (Case k a b c) = refl

some_null : (below : ℕ → Value → Value) → ((c : ℕ) → below c Null ≡ Null) → (o : Option Expression) → some_back below o Null ≡ Null
some_null below h None = refl
some_null below h (Some e) = output_null below h e

undone_null : (plan : PlanTree) (c : ℕ) → undone plan c Null ≡ Null
undone_null (Scan table columns) c = refl
undone_null (Join condition left right) c = refl
undone_null (Over (Map outputs) input) c = some_null (undone input) (undone_null input) (slice_get outputs c)
undone_null (Over (Group rule) input) c = refl
undone_null (Over (Limit limit) input) c = refl
undone_null (Over step input) c = undone_null input c

pub empty_gives : (plan : PlanTree) → GivesBack plan []
empty_gives plan c d h = sym (undone_null plan c)

-- ---- Maps

shown_is : (c : ℕ) (e : Expression) → has (option_to_list (column_shown e)) c ≡ true → e ≡ Column c
shown_is c (Column d) h = ap Column (sym (eqb-true c d (sym (or-false (nat_eq c d)) ∙ h)))
shown_is c (Literal v kind) h = absurd (false≢true h)
shown_is c (Negate a) h = absurd (false≢true h)
shown_is c (Arithmetic o a b) h = absurd (false≢true h)
shown_is c (Compare o a b) h = absurd (false≢true h)
shown_is c (Not a) h = absurd (false≢true h)
shown_is c (And a b) h = absurd (false≢true h)
shown_is c (Or a b) h = absurd (false≢true h)
shown_is c (IsNull a) h = absurd (false≢true h)
shown_is c (IsNotNull a) h = absurd (false≢true h)
shown_is c (Case k a b d) h = absurd (false≢true h)

place_is : (c : ℕ) (outputs : List Expression) (d : ℕ) → place_of c outputs ≡ Some d → slice_get outputs d ≡ Some (Column c)
place_is c [] d h = absurd (no_column d h)
place_is c (e ∷ outputs) d h = by (place_is c outputs) (has (option_to_list (column_shown e)) c) refl (place_of c outputs) refl h
  where
    by : ((n : ℕ) → place_of c outputs ≡ Some n → slice_get outputs n ≡ Some (Column c)) → (b : Bool) → has (option_to_list (column_shown e)) c ≡ b → (o : Option ℕ) → place_of c outputs ≡ o → cond b (Some 0) (option_map suc o) ≡ Some d → slice_get (e ∷ outputs) d ≡ Some (Column c)
    by next true f o g k = subst (λ n. slice_get (e ∷ outputs) n ≡ Some (Column c)) (column_same 0 d k) (ap (λ x. Some x) (shown_is c e f))
    by next false f None g k = absurd (no_column d k)
    by next false f (Some n) g k = subst (λ m. slice_get (e ∷ outputs) m ≡ Some (Column c)) (column_same (suc n) d k) (next n g)

typed_at : (kinds : Kinds) (outputs : List Expression) (c : ℕ) (e : Expression) → list_all (is_typed kinds) outputs ≡ true → slice_get outputs c ≡ Some e → is_typed kinds e ≡ true
typed_at kinds [] c e h k = absurd cc
typed_at kinds (o ∷ outputs) zero e h k = subst (λ x. is_typed kinds x ≡ true) (let same : o ≡ e = cc in same) (and_parts (is_typed kinds o) (list_all (is_typed kinds) outputs) h).0
typed_at kinds (o ∷ outputs) (suc c) e h k = typed_at kinds outputs c e (and_parts (is_typed kinds o) (list_all (is_typed kinds) outputs) h).1 k

module _ (input : PlanTree) (kinds : Kinds) (outputs : List Expression) (typed : list_all (is_typed kinds) outputs ≡ true) where
  -- the column of the input by what an output shows
  origin_back : (row : Row) → GivesBack input row → IsOfKinds kinds row → (e : Expression) → is_typed kinds e ≡ true → (d : ℕ) → origin (source_column input) e ≡ Some d → (w : Value) → value_of e row ≡ Ok w → column_of row d ≡ output_back (undone input) e w
  origin_back row gives are (Column c) own d h w e = gives c d h ∙ ap (undone input c) (value_same (column_of row c) w e)
  origin_back row gives are (Literal v kind) own d h w e = shifted_back kinds row are (Literal v kind) own d h w e
  origin_back row gives are (Negate a) own d h w e = shifted_back kinds row are (Negate a) own d h w e
  origin_back row gives are (Arithmetic o a b) own d h w e = shifted_back kinds row are (Arithmetic o a b) own d h w e
  origin_back row gives are (Compare o a b) own d h w e = shifted_back kinds row are (Compare o a b) own d h w e
  origin_back row gives are (Not a) own d h w e = shifted_back kinds row are (Not a) own d h w e
  origin_back row gives are (And a b) own d h w e = shifted_back kinds row are (And a b) own d h w e
  origin_back row gives are (Or a b) own d h w e = shifted_back kinds row are (Or a b) own d h w e
  origin_back row gives are (IsNull a) own d h w e = shifted_back kinds row are (IsNull a) own d h w e
  origin_back row gives are (IsNotNull a) own d h w e = shifted_back kinds row are (IsNotNull a) own d h w e
  origin_back row gives are (Case k a b c) own d h w e = shifted_back kinds row are (Case k a b c) own d h w e

  made_gives : (row made : Row) → GivesBack input row → IsOfKinds kinds row → all_ok (map (λ output. value_of output row) outputs) ≡ Ok made → GivesBack (Over (Map outputs) input) made
  made_gives row made gives are e c d h = by (slice_get outputs c) refl h
    where
      all : AllOk (λ output. value_of output row) outputs made
      all = all_ok_each (λ output. value_of output row) outputs made e

      placed : (x : ℕ) → place_of x outputs ≡ Some d → column_of row x ≡ column_of made d
      placed x k = value_same (column_of row x) (column_of made d) (item_value (λ output. value_of output row) outputs made all d (Column x) (place_is x outputs d k))

      from : (o : Expression) → slice_get outputs c ≡ Some o → (x : Option ℕ) → origin (source_column input) o ≡ x → option_and_then (λ (n : ℕ). place_of n outputs) x ≡ Some d → column_of made d ≡ output_back (undone input) o (column_of made c)
      from o at None f k = absurd (no_column d k)
      from o at (Some x) f k = sym (placed x k) ∙ origin_back row gives are o (typed_at kinds outputs c o typed at) x f (column_of made c) (item_value (λ output. value_of output row) outputs made all c o at)

      by : (o : Option Expression) → slice_get outputs c ≡ o → option_and_then (λ (n : ℕ). place_of n outputs) (option_and_then (origin (source_column input)) o) ≡ Some d → column_of made d ≡ some_back (undone input) o (column_of made c)
      by None at k = absurd (no_column d k)
      by (Some o) at k = from o at (origin (source_column input) o) refl k

  map_gives : (rows : List Row) → AllByRecursion (GivesBack input) rows → AllByRecursion (IsOfKinds kinds) rows → AllRows (GivesBack (Over (Map outputs) input)) (map_outcome outputs rows)
  map_gives rows gives are =
      all_made [] (GivesBack (Over (Map outputs) input)) (λ row. all_ok (map (λ output. value_of output row) outputs)) rows
      (λ p made k e. made_gives (row_at rows p) made (at_each (GivesBack input) rows p gives k) (at_each (IsOfKinds kinds) rows p are k) e)

-- ---- Windows

place_below : (c : ℕ) (outputs : List Expression) (d : ℕ) → place_of c outputs ≡ Some d → d < length outputs
place_below c [] d h = absurd (no_column d h)
place_below c (e ∷ outputs) d h = by (place_below c outputs) (has (option_to_list (column_shown e)) c) (place_of c outputs) refl h
  where
    by : ((n : ℕ) → place_of c outputs ≡ Some n → n < length outputs) → (b : Bool) (o : Option ℕ) → place_of c outputs ≡ o → cond b (Some 0) (option_map suc o) ≡ Some d → d < length (e ∷ outputs)
    by next true o g k = let same = column_same 0 d k in omega (arith, same)
    by next false None g k = absurd (no_column d k)
    by next false (Some n) g k = let same = column_same (suc n) d k in let below = next n g in omega (arith, same, below)

-- a column that is given back is one of the plan's
given_below : (plan : PlanTree) (c d : ℕ) → source_column plan c ≡ Some d → d < width plan
given_below (Scan table columns) c d h = absurd (no_column d h)
given_below (Join condition left right) c d h = absurd (no_column d h)
given_below (Over (Map outputs) input) c d h = by (option_and_then (origin (source_column input)) (slice_get outputs c)) h
  where
    by : (o : Option ℕ) → option_and_then (λ (n : ℕ). place_of n outputs) o ≡ Some d → d < length outputs
    by None k = absurd (no_column d k)
    by (Some n) k = place_below n outputs d k
given_below (Over (Group rule) input) c d h = absurd (no_column d h)
given_below (Over (Window w) input) c d h = by (given_below input c d) (nat_lt c (width input)) h
  where
    by : (source_column input c ≡ Some d → d < width input) → (b : Bool) → cond b (source_column input c) None ≡ Some d → d < width (Over (Window w) input)
    by below true k = let within = below k in omega (arith, within)
    by below false k = absurd (no_column d k)
given_below (Over (Limit limit) input) c d h = absurd (no_column d h)
given_below (Over step input) c d h = given_below input c d h

extended_gives : (w : WindowRule) (input : PlanTree) (row values : Row) → length row ≡ width input → GivesBack input row → GivesBack (Over (Window w) input) (row ++ values)
extended_gives w input row values long gives c d h = by (nat_lt c (width input)) refl h
  where
    by : (b : Bool) → nat_lt c (width input) ≡ b → cond b (source_column input c) None ≡ Some d → column_of (row ++ values) d ≡ undone input c (column_of (row ++ values) c)
    by true e k =
        let first = ltb-true c (width input) e in
        let second = given_below input c d k in
        get_or_append_left row values Null d (omega arith) ∙ gives c d k ∙ ap (undone input c) (sym (get_or_append_left row values Null c (omega arith)))
    by false e k = absurd (no_column d k)

window_gives : (w : WindowRule) (input : PlanTree) (orderings : List (List ℕ)) (rows : List Row) → HasWidth (width input) rows → AllByRecursion (GivesBack input) rows → AllRows (GivesBack (Over (Window w) input)) (window_outcome w rows orderings)
window_gives w input orderings rows wide gives =
    window_rows (GivesBack (Over (Window w) input)) w rows orderings
    (λ p row k e.
    let parts = is_extended (row_at rows p) (all_ok (map (call_at w rows orderings p) w.calls)) row e in
    subst (GivesBack (Over (Window w) input)) (sym parts.is) (extended_gives w input (row_at rows p) parts.added (at_each (λ (r : Row). length r ≡ width input) rows p wide k) (at_each (GivesBack input) rows p gives k)))

-- ---- all plans

nothing_given : (plan : PlanTree) → ((c : ℕ) → source_column plan c ≡ None) → (row : Row) → GivesBack plan row
nothing_given plan none row c d h = absurd (no_column d (sym (none c) ∙ h))

module _ (tables : List TableRule) (instance : Instance) (meets : Meets tables instance) where
  pub all_give : (plan : PlanTree) (choice : List (List ℕ)) → fits tables plan ≡ true → AreLawful plan instance choice → AllRows (GivesBack plan) (outcome plan instance choice)
  all_give (Scan table columns) choice fit a = at_any (GivesBack (Scan table columns)) (nothing_given (Scan table columns) (λ c. refl)) (outcome (Scan table columns) instance choice)
  all_give (Join condition left right) choice fit a = at_any (GivesBack (Join condition left right)) (nothing_given (Join condition left right) (λ c. refl)) (outcome (Join condition left right) instance choice)
  all_give (Over (Filter condition) input) choice fit a =
      let here = all_give input choice (and_parts _ _ fit).0 a.0 in
      then_all (AllByRecursion (GivesBack input)) (AllByRecursion (GivesBack input)) (GivesBack input) (outcome input instance choice) (filter_outcome condition) (λ rows p q. all_filtered (GivesBack input) condition rows p) here here
  all_give (Over (Map outputs) input) choice fit a =
      let parts = and_parts _ _ fit in
      let typed = (and_parts (is_narrow (length outputs)) (list_all (is_typed (kinds_of tables input)) outputs) parts.1).1 in
      then_all (AllByRecursion (GivesBack input)) (AllByRecursion (IsOfKinds (kinds_of tables input))) (GivesBack (Over (Map outputs) input)) (outcome input instance choice) (map_outcome outputs)
      (map_gives input (kinds_of tables input) outputs typed) (all_give input choice parts.0 a.0) (has_kinds tables input instance choice parts.0 meets a.0)
  all_give (Over (Window w) input) choice fit a =
      let own = (and_parts _ _ fit).0 in
      let orderings = own_orderings (Window w) input choice in
      then_all (HasWidth (width input)) (AllByRecursion (GivesBack input)) (GivesBack (Over (Window w) input)) (outcome input instance choice) (λ rows. window_outcome w rows orderings)
      (λ rows wide p. window_gives w input orderings rows wide p) (has_widths tables input instance choice own meets a.0) (all_give input choice own a.0)
  all_give (Over Distinct input) choice fit a =
      let here = all_give input choice (and_parts (fits tables input) true fit).0 a.0 in
      then_all (AllByRecursion (GivesBack input)) (AllByRecursion (GivesBack input)) (GivesBack input) (outcome input instance choice) (λ rows. Ok (distinct rows)) (λ rows p q. all_distinct (GivesBack input) rows p) here here
  all_give (Over step input) choice fit a = at_any (GivesBack (Over step input)) (nothing_given (Over step input) (λ c. refl)) (outcome (Over step input) instance choice)
