-- Numbers, as `parse` reads them.
use Rattle.std.proofs.Common.{◌≡◌, ℕ, ◌^◌, ◌<◌, true, List, length, Some, None, Err, ⊎_elim, lt_of_lt_of_le, lit<, refl, sym, arith}
use Rattle.std.proofs.lemmas.Bool.{and_parts, and_from, cond-false, lt-leb, cases_lt}
use Rattle.std.proofs.lemmas.Bool.Decides.{nat_tests}
use Rattle.std.proofs.lemmas.Str.Parse.{IsDigitsTest, IsNumeralModel, numerals_by_value, parse_digits}
use Rattle.std.specs.Int.{IsInRange}
use Rattle.std.specs.List.{list_all}
use Rattle.std.specs.Str.Parse.{digits_value, ParsesUnsigned}
use Rattle.wd_lex.specs.Characters.{is_digit}
use Rattle.wd_lex.specs.Pieces.{greatest_number}
use Rattle.wd_lex.specs.Reading.{number_value}

in_range : (c : ℕ) → is_digit c ≡ true → IsInRange 48 57 c
in_range c e = grind (arith, nat_tests)

from_range : (c : ℕ) → IsInRange 48 57 c → is_digit c ≡ true
from_range c h = grind (arith, nat_tests)

tells : IsDigitsTest (λ ds. list_all is_digit ds ≡ true)
tells = record {
  empty = refl;
  parts = λ c cs e. let parts = and_parts (is_digit c) (list_all is_digit cs) e in (in_range c parts.0, parts.1);
  more = λ c cs range rest. and_from (is_digit c) (list_all is_digit cs) (from_range c range) rest;
}

own : IsNumeralModel (λ ds. list_all is_digit ds ≡ true) (digits_value 10)
own = numerals_by_value (λ ds. list_all is_digit ds ≡ true) tells

-- digits that `parse` refuses write a number past 64 bits
pub value_none : {E : Type 0} (digits : List ℕ) (e : E) → ParsesUnsigned 64 10 digits (Err e) → list_all is_digit digits ≡ true → 0 < length digits → None ≡ number_value digits
value_none digits e h all some =
    let no_fit : ¬ ((0 < length digits) × (digits_value 10 digits < 2 ^ 64)) = parse_digits own 64 digits (Err e) h all in
    let past : greatest_number < digits_value 10 digits = ⊎_elim (λ lt. absurd (no_fit (some, lt))) (λ le. lt_of_lt_of_le (lit< tt) le) (cases_lt (digits_value 10 digits) (2 ^ 64)) in
    sym (cond-false _ (Some (digits_value 10 digits)) None (lt-leb (digits_value 10 digits) greatest_number past))
