-- Single tokens.
use Rattle.std.specs.Prelude.{Bool, true, false}
use Rattle.wd_lex.specs.declared.token.Terminal.TheVariants as m
use Rattle.wd_lex.specs.declared.token.TokenKind.{TokenKind}
use Rattle.wd_lex.specs.declared.token.TokenKind.TheVariants as t

abbrev pub is_natural : TokenKind → Bool
is_natural (t.Terminal m.Natural) = true
is_natural _ = false

abbrev pub is_join : TokenKind → Bool
is_join (t.Terminal m.Join) = true
is_join _ = false

-- a condition on which tables are joined: ON or USING
abbrev pub begins_condition : TokenKind → Bool
begins_condition (t.Terminal m.On) = true
begins_condition (t.Terminal m.Using) = true
begins_condition _ = false
