-- Whole tokens of a text.
use Rattle.std.specs.Prelude.{ℕ, List}
use Rattle.wd_lex.specs.declared.token.Span.{Span}
use Rattle.wd_lex.specs.declared.token.Token.{Token}
use Rattle.wd_sites.specs.Sites.{IsSpanFrom}

-- the bytes of whole tokens, at least one
pub record IsWhole (tokens : List Token) (span : Span) : Type 0 where
  pub first : ℕ
  pub last : ℕ
  pub bytes : IsSpanFrom tokens first last span
