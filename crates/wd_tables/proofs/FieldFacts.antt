-- What `parse` reads of a field is the whole number that the field writes.
use Rattle.std.proofs.Common.{◌≡◌, ◌≢◌, ℕ, zero, suc, ◌^◌, ◌<◌, ◌≤◌, ◌&&◌, Bool, true, false, List, [], ◌∷◌, length, get_or, drop, Option, Some, None, Result, Ok, Err, option_map, refl, sym, w64, arith, leb}
use Rattle.std.specs.Prelude.{ℤ, pos, neg_ℤ, option_and_then, if◌then◌else◌}
use Rattle.std.specs.Result.{OkIff, result_ok}
use Rattle.std.specs.Str.{all_ascii_digits}
use Rattle.std.specs.Str.Parse.{ParsesSigned, digits_value, starts_with_minus}
use Rattle.std.proofs.lemmas.Bool.{false_from_ne_true, eqb-true, eqb-false, leb-true}
use Rattle.std.proofs.lemmas.Str.Parse.{IsNumeralModel, numerals_by_value, tells_all_ascii_digits, parse_signed_minus, parse_signed_plain}
use Rattle.wd_value.specs.declared.value.Value.{Value}
use Rattle.wd_value.specs.declared.value.Value.TheVariants.{Null, Int, Text as Words, Bool as Truth}
use Rattle.wd_value.specs.declared.value.ColumnType.{ColumnType}
use Rattle.wd_value.specs.declared.value.ColumnType.TheVariants.{SmallInt, Integer, BigInt, Text, Boolean}
use Rattle.wd_schema.specs.declared.table.Column.{Column}
use Rattle.wd_schema.specs.Meets.{is_null, is_of_type, may_hold}
use Rattle.wd_tables.specs.Fields.{field_value, is_text, number_in, numeral_value, truth_value, value_of_type, whole_number}

own : IsNumeralModel (λ ds. all_ascii_digits ds ≡ true) (digits_value 10)
own = numerals_by_value (λ ds. all_ascii_digits ds ≡ true) tells_all_ascii_digits

not_leb : (m n : ℕ) → ¬ (m ≤ n) → leb m n ≡ false
not_leb m n h = false_from_ne_true _ (λ e. h (leb-true m n e))

-- no column holds a whole number that 64 bits don't
too_large : (kind : ColumnType) (v : ℕ) → ¬ (v < 2 ^ 63) → is_of_type kind (Int (pos v)) ≡ false
too_large SmallInt v h = not_leb v 32767 (λ k. h (omega arith))
too_large Integer v h = not_leb v 2147483647 (λ k. h (omega arith))
too_large BigInt v h = not_leb v 9223372036854775807 (λ k. h (omega arith))
too_large Text v h = refl
too_large Boolean v h = refl

too_small : (kind : ColumnType) (v : ℕ) → ¬ (v ≤ 2 ^ 63) → is_of_type kind (Int (neg_ℤ (pos v))) ≡ false
too_small kind zero h = absurd (h (omega arith))
too_small SmallInt (suc v) h = rw (not_leb v 32767 (λ k. h (omega arith))) refl
too_small Integer (suc v) h = rw (not_leb v 2147483647 (λ k. h (omega arith))) refl
too_small BigInt (suc v) h = rw (not_leb v 9223372036854775807 (λ k. h (omega arith))) refl
too_small Text (suc v) h = refl
too_small Boolean (suc v) h = refl

not_within : (kind : ColumnType) (n : ℤ) → is_of_type kind (Int n) ≡ false → number_in kind n ≡ None
not_within kind n h = rw h refl

by_digits : (kind : ColumnType) (g : ℕ → ℤ) (ds : List ℕ) (b : Bool) → all_ascii_digits ds ≡ b → (b ≡ true → 0 < length ds → is_of_type kind (Int (g (digits_value 10 ds))) ≡ false) → None ≡ option_and_then (number_in kind) (option_map g (numeral_value ds))
by_digits kind g [] b e h = refl
by_digits kind g (d ∷ ds) true e h = rw e (sym (not_within kind (g (digits_value 10 (d ∷ ds))) (h refl (omega arith))))
by_digits kind g (d ∷ ds) false e h = rw e refl

-- digits that write a number, as `parse` reads them, with what is made of the number and where it fits
read_digits : {E : Type 0} (kind : ColumnType) (g : ℕ → ℤ) (Within : ℕ → Type 0) → ((v : ℕ) → ¬ (Within v) → is_of_type kind (Int (g v)) ≡ false) → (ds : List ℕ) (r : Result ℤ E)
    → OkIff r ((all_ascii_digits ds ≡ true) × (0 < length ds) × Within (digits_value 10 ds)) (g (digits_value 10 ds)) → option_and_then (number_in kind) (result_ok r) ≡ option_and_then (number_in kind) (option_map g (numeral_value ds))
read_digits kind g Within outside [] (Ok x) h = absurd (omega (arith, h.0.1))
read_digits kind g Within outside (d ∷ ds) (Ok x) h = rw (h.0.0, h.1) refl
read_digits kind g Within outside ds (Err e) h = by_digits kind g ds (all_ascii_digits ds) refl (λ digits some. outside (digits_value 10 ds) (λ within. h (digits, some, within)))

-- a text that does not begin with a plus, by whether it begins with a minus
by_sign : {E : Type 0} (kind : ColumnType) (bytes : List ℕ) (r : Result ℤ E) (b : Bool) → starts_with_minus bytes ≡ b → ParsesSigned w64 10 bytes r → get_or bytes 0 0 ≢ 43 → option_and_then (number_in kind) (result_ok r) ≡ option_and_then (number_in kind) (whole_number bytes)
by_sign {E} kind bytes r true e h no_plus =
    rw e (read_digits {E = E} kind (λ n. neg_ℤ (pos n)) (λ v. v ≤ 2 ^ 63) (too_small kind) (drop 1 bytes) r (parse_signed_minus own w64 bytes r h (eqb-true _ _ e)))
by_sign {E} kind bytes r false e h no_plus =
    rw e (read_digits {E = E} kind pos (λ v. v < 2 ^ 63) (too_large kind) bytes r (parse_signed_plain own w64 bytes r h no_plus (eqb-false _ _ e)))

pub number_is : {E : Type 0} (kind : ColumnType) (bytes : List ℕ) (r : Result ℤ E) → ParsesSigned w64 10 bytes r → get_or bytes 0 0 ≢ 43 → option_and_then (number_in kind) (result_ok r) ≡ option_and_then (number_in kind) (whole_number bytes)
number_is kind bytes r h no_plus = by_sign kind bytes r (starts_with_minus bytes) refl h no_plus

-- ---- a value that a field denotes is of its column's type

null-of_type : (kind : ColumnType) → is_of_type kind Null ≡ true
null-of_type Text = refl
null-of_type Boolean = refl
null-of_type SmallInt = refl
null-of_type Integer = refl
null-of_type BigInt = refl

some_of_type : (kind : ColumnType) (u v : Value) → is_of_type kind u ≡ true → Some u ≡ Some v → is_of_type kind v ≡ true
some_of_type kind u v h e = let same : u ≡ v = cc in rw (← same) h

number-of_type : (kind : ColumnType) (n : ℤ) (b : Bool) (v : Value) → is_of_type kind (Int n) ≡ b → number_in kind n ≡ Some v → is_of_type kind v ≡ true
number-of_type kind n true v e h = some_of_type kind (Int n) v e (rw e at h)
number-of_type kind n false v e h = absurd (cc (rw e at h))

numbers-of_type : (kind : ColumnType) (o : Option ℤ) (v : Value) → option_and_then (number_in kind) o ≡ Some v → is_of_type kind v ≡ true
numbers-of_type kind None v h = absurd (cc h)
numbers-of_type kind (Some n) v h = number-of_type kind n (is_of_type kind (Int n)) v refl h

truth-of_type : (o : Option Bool) (v : Value) → option_map Truth o ≡ Some v → is_of_type Boolean v ≡ true
truth-of_type None v h = absurd (cc h)
truth-of_type (Some b) v h = some_of_type Boolean (Truth b) v refl h

value-of_type : (kind : ColumnType) (bytes : List ℕ) (v : Value) → value_of_type kind bytes ≡ Some v → is_of_type kind v ≡ true
value-of_type Text bytes v h = some_of_type Text (Words bytes) v refl h
value-of_type Boolean bytes v h = truth-of_type (truth_value bytes) v h
value-of_type SmallInt bytes v h = numbers-of_type SmallInt (whole_number bytes) v h
value-of_type Integer bytes v h = numbers-of_type Integer (whole_number bytes) v h
value-of_type BigInt bytes v h = numbers-of_type BigInt (whole_number bytes) v h

empty-of_type : (kind : ColumnType) (b : Bool) (v : Value) → ◌≡◌ {A = Option Value} (Some (if b && is_text kind then Words [] else Null)) (Some v) → is_of_type kind v ≡ true
empty-of_type kind false v h = some_of_type kind Null v (null-of_type kind) h
empty-of_type Text true v h = some_of_type Text (Words []) v refl h
empty-of_type Boolean true v h = some_of_type Boolean Null v refl h
empty-of_type SmallInt true v h = some_of_type SmallInt Null v refl h
empty-of_type Integer true v h = some_of_type Integer Null v refl h
empty-of_type BigInt true v h = some_of_type BigInt Null v refl h

pub field-of_type : (column : Column) (bytes : List ℕ) (v : Value) → field_value column bytes ≡ Some v → is_of_type column.kind v ≡ true
field-of_type column [] v h = empty-of_type column.kind column.not_null v h
field-of_type column (b ∷ bs) v h = value-of_type column.kind (b ∷ bs) v h

-- ---- a value that a column may hold

and_no : (a b : Bool) → b ≡ false → (a && b) ≡ false
and_no true b e = e
and_no false b e = refl

pub held_not_null : (column : Column) (v : Value) → is_of_type column.kind v ≡ true → column.not_null ≡ false → may_hold column v ≡ true
held_not_null column v typed e = rw (typed, e) refl

pub held_value : (column : Column) (v : Value) → is_of_type column.kind v ≡ true → is_null v ≡ false → may_hold column v ≡ true
held_value column v typed e = rw (typed, and_no column.not_null (is_null v) e) refl
