-- Names, quoted or not.
use Rattle.std.specs.Prelude.{ℕ, Bool, true, false, List}
use Rattle.std.specs.Str.{bytes_eq}
use Rattle.wd_lex.specs.declared.token.TokenKind.{TokenKind}
use Rattle.wd_lex.specs.declared.token.TokenKind.TheVariants as t

-- a name, quoted or not
abbrev pub is_name : TokenKind → Bool
is_name (t.Word text) = true
is_name (t.Quoted text) = true
is_name _ = false

-- whether a token is the name with these bytes
abbrev pub is_named : List ℕ → TokenKind → Bool
is_named bytes (t.Word text) = bytes_eq bytes text
is_named bytes (t.Quoted text) = bytes_eq bytes text
is_named bytes _ = false

-- whether two tokens are the same name: quoted or not, their bytes are the same
abbrev pub is_same_name : TokenKind → TokenKind → Bool
is_same_name (t.Word text) kind = is_named text kind
is_same_name (t.Quoted text) kind = is_named text kind
is_same_name _ kind = false
