-- Texts whose answers are read off by hand.
use Rattle.std.specs.Prelude.{codes, List, [], ◌∷◌, ◌++◌}
use Rattle.wd_lex.specs.declared.error.LexError.TheVariants.{UnknownCharacter, NotUtf8}
use Rattle.wd_lex.specs.declared.token.Token.{Token}
use Rattle.wd_lex.specs.Lexed.{IsLexed, byte_order_mark}
use Rattle.wd_lex.specs.Causes.{HasCause}

-- A comment with a byte that is no UTF-8 has no tokens, and is refused; a comment after a byte order mark is no token;
-- a second byte order mark is refused at its place.
pub record TextsComeOut : Type 0 where
  pub no_tokens : (tokens : List Token) → IsLexed (codes "--" ++ 0xFF ∷ []) tokens → ⊥
  pub not_utf8 : HasCause NotUtf8 (codes "--" ++ 0xFF ∷ [])
  pub marked : IsLexed (byte_order_mark ++ codes "--") []
  pub marked_twice : HasCause (UnknownCharacter 3) (byte_order_mark ++ byte_order_mark)
