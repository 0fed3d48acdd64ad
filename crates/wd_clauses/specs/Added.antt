-- Tokens that an equation adds.
use Rattle.wd_lex.specs.declared.token.Terminal.{Terminal}
use Rattle.wd_lex.specs.declared.token.TokenKind.TheVariants as t
use Rattle.wd_lex.specs.declared.token.Token.{Token}

-- a terminal that is added because of a word has the word's place
abbrev pub added : Terminal → Token → Token
added terminal word = record { kind = t.Terminal terminal; span = word.span }
