-- Classes of characters. All are ASCII, so each character is one byte.
use Rattle.std.specs.Prelude.{ℕ, ◌==◌, Bool, ◌||◌}
use Rattle.std.specs.Char.{is_ascii_alphabetic, is_ascii_alphanumeric, is_ascii_digit}

-- white space: tab, line feed, form feed, carriage return and space
abbrev pub is_blank : ℕ → Bool
is_blank b = b == 9 || b == 10 || b == 12 || b == 13 || b == 32

-- the end of a line: line feed or carriage return
abbrev pub is_line_end : ℕ → Bool
is_line_end b = b == 10 || b == 13

-- 0 to 9
abbrev pub is_digit : ℕ → Bool
is_digit b = is_ascii_digit b

-- the code of `_`
abbrev pub underscore : ℕ
underscore = 95

-- what an unquoted word begins with (this project's choice: no letters past ASCII)
abbrev pub begins_word : ℕ → Bool
begins_word b = is_ascii_alphabetic b || b == underscore

-- what an unquoted word may continue with: letters, digits, `_` and `$`
abbrev pub goes_on_word : ℕ → Bool
goes_on_word b = is_ascii_alphanumeric b || b == underscore || b == 36

-- what may not follow a number at once: a letter, `_` and `.`
abbrev pub spoils_number : ℕ → Bool
spoils_number b = is_ascii_alphabetic b || b == underscore || b == 46

-- the code of `'`
abbrev pub single_quote : ℕ
single_quote = 39

-- the code of `"`
abbrev pub double_quote : ℕ
double_quote = 34
