-- The decimal digits of a number, as the lexer reads them.
use Rattle.std.proofs.Common.{◌≡◌, ℕ, ◌<◌, ◌≤◌, ◌^◌, true, false, List, [], ◌∷◌, ◌++◌, length, decimal, lit<, lt_of_le_of_lt, refl, arith}
use Rattle.std.proofs.lemmas.Bool.{and_parts, and_from}
use Rattle.std.proofs.lemmas.Bool.Decides.{nat_tests}
use Rattle.std.proofs.lemmas.Fmt.{decimal_nonempty, digits_decimal, digits_value-decimal}
use Rattle.std.proofs.lemmas.Str.Parse.{IsDigitsTest, IsNumeralModel, numerals_by_value}
use Rattle.std.specs.Int.{IsInRange}
use Rattle.std.specs.List.{list_all}
use Rattle.std.specs.Str.Parse.{digits_value}
use Rattle.wd_lex.specs.Characters.{is_blank, is_digit}
use Rattle.wd_lex.specs.Pieces.{Number, IsRunOf, Stands, greatest_number}
use Rattle.wd_lex.proofs.KindFacts.{kind_number}
use Rattle.wd_lex.proofs.Longest.{number_longest}
use Rattle.wd_lex.proofs.RunFacts.{Stops}
use Rattle.wd_print.proofs.TerminalFacts.{BeginsInAscii}

in_range : (c : ℕ) → is_digit c ≡ true → IsInRange 48 57 c
in_range c e = grind (arith, nat_tests)

from_range : (c : ℕ) → IsInRange 48 57 c → is_digit c ≡ true
from_range c h = grind (arith, nat_tests)

tells : IsDigitsTest (λ ds. list_all is_digit ds ≡ true)
tells = record {
  empty = refl;
  parts = λ c cs e. let parts = and_parts (is_digit c) (list_all is_digit cs) e in (in_range c parts.0, parts.1);
  more = λ c cs range rest. and_from (is_digit c) (list_all is_digit cs) (from_range c range) rest;
}

own : IsNumeralModel (λ ds. list_all is_digit ds ≡ true) (digits_value 10)
own = numerals_by_value (λ ds. list_all is_digit ds ≡ true) tells

run_of : (digits : List ℕ) → list_all is_digit digits ≡ true → 0 < length digits → IsRunOf is_digit is_digit digits
run_of [] all some = absurd (omega arith)
run_of (b ∷ digits) all some = and_parts (is_digit b) (list_all is_digit digits) all

digit_no_blank : (b : ℕ) → is_digit b ≡ true → is_blank b ≡ false
digit_no_blank b e = grind (arith, nat_tests)

digit_ascii : (b : ℕ) → is_digit b ≡ true → b < 128
digit_ascii b e = grind (arith, nat_tests)

pub digits_stand : (digits rest : List ℕ) → IsRunOf is_digit is_digit digits → digits_value 10 digits ≤ greatest_number → Stands (Number digits) (32 ∷ rest)
digits_stand [] rest run small = absurd run
digits_stand (b ∷ digits) rest run small =
    record { is = run; longest = number_longest (b ∷ digits) (32 ∷ rest) run (kind_number b (digits ++ 32 ∷ rest) run.0) refl; good = (small, refl) }

pub digits_stop : (digits more : List ℕ) → IsRunOf is_digit is_digit digits → Stops is_blank (digits ++ more)
digits_stop [] more run = absurd run
digits_stop (b ∷ digits) more run = digit_no_blank b run.0

pub digits_first : (digits more : List ℕ) → IsRunOf is_digit is_digit digits → BeginsInAscii (digits ++ more)
digits_first [] more run = absurd run
digits_first (b ∷ digits) more run = digit_ascii b run.0

fits : (number : ℕ) → number ≤ greatest_number → number < 2 ^ 64
fits number small = lt_of_le_of_lt small (lit< tt)

pub number_run : (number : ℕ) → number ≤ greatest_number → IsRunOf is_digit is_digit (decimal number)
number_run number small = run_of (decimal number) (digits_decimal own number (fits number small)) (decimal_nonempty number (fits number small))

pub number_is : (number : ℕ) → number ≤ greatest_number → digits_value 10 (decimal number) ≡ number
number_is number small = digits_value-decimal own number (fits number small)
