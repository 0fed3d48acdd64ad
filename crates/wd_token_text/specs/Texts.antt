-- Tokens that can be written as a text in which the lexer reads just these.
use Rattle.std.specs.Prelude.{ℕ, ◌≤◌, List, length, All}
use Rattle.wd_lex.specs.declared.token.Token.{Token}
use Rattle.wd_lex.specs.Lexed.{IsLexed, kinds_of, most_bytes}
use Rattle.wd_print.specs.Printed.{IsPrintable, printed}

-- a token that has a spelling: no word with a capital letter, no reserved word, no empty name, and no number that the lexer does not read
abbrev pub IsSpellable : Token → Type 0
IsSpellable token = IsPrintable token.kind

-- tokens as a text, each in its own spelling, and white space after it
abbrev pub text_of : List Token → List ℕ
text_of tokens = printed (kinds_of tokens)

-- tokens that can be written: each has a spelling, and their text is not longer than what the lexer reads
pub record AreWritable (tokens : List Token) : Type 0 where
  pub each : All IsSpellable tokens
  pub short : length (text_of tokens) ≤ most_bytes

-- Each token that the lexer reads in a text has a spelling.
abbrev pub LexedAreSpellable : Type 0
LexedAreSpellable = (text : List ℕ) (tokens : List Token) → IsLexed text tokens → All IsSpellable tokens
