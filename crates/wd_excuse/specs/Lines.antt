-- What a line comment tells wdreport. White space may come before each word, and letters may be upper or lower case.
use Rattle.std.specs.Prelude.{ℕ, Bool, List, [], ◌∷◌, length, map, take, drop, codes, Option, Some, None, option_and_then, if◌then◌else◌}
use Rattle.std.specs.Char.{to_ascii_lowercase}
use Rattle.std.specs.List.{list_all}
use Rattle.std.specs.Str.{bytes_eq}
use Rattle.wd_lex.specs.Characters.{is_blank}
use Rattle.wd_lex.specs.Reading.{drop_while}

-- whether the letters are the same, apart from their case
abbrev pub is_alike : List ℕ → List ℕ → Bool
is_alike a b = bytes_eq (map to_ascii_lowercase a) (map to_ascii_lowercase b)

-- what follows a word that comes first
abbrev pub after_first : List ℕ → List ℕ → Option (List ℕ)
after_first word bytes = if is_alike (take (length word) bytes) word then Some (drop (length word) bytes) else None

-- what follows a word, after any white space before it
abbrev pub following : List ℕ → List ℕ → Option (List ℕ)
following word bytes = after_first word (drop_while is_blank bytes)

-- the bytes, if they begin with white space
abbrev pub spaced : List ℕ → Option (List ℕ)
spaced [] = None
spaced (b ∷ bytes) = if is_blank b then Some (b ∷ bytes) else None

-- what a line says after `wdreport:`
abbrev pub words_to_program : List ℕ → Option (List ℕ)
words_to_program line = option_and_then (following (codes ":")) (following (codes "wdreport") line)

-- what words say after `may depend,`
abbrev pub after_may_depend : List ℕ → Option (List ℕ)
after_may_depend words = option_and_then (following (codes ",")) (option_and_then (following (codes "depend")) (option_and_then spaced (following (codes "may") words)))

-- the bytes without white space at the end
abbrev pub cut_after : List ℕ → List ℕ
cut_after [] = []
cut_after (b ∷ bytes) = if list_all is_blank (b ∷ bytes) then [] else b ∷ cut_after bytes

-- the bytes without white space at the start and the end
abbrev pub trimmed : List ℕ → List ℕ
trimmed bytes = cut_after (drop_while is_blank bytes)

abbrev pub unless_empty : List ℕ → Option (List ℕ)
unless_empty [] = None
unless_empty (b ∷ bytes) = Some (b ∷ bytes)

-- the reason that words give: what follows `may depend,`, if it is more than white space
abbrev pub reason_in : List ℕ → Option (List ℕ)
reason_in words = option_and_then (λ rest. unless_empty (trimmed rest)) (after_may_depend words)
