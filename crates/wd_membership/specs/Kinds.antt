-- Single tokens.
use Rattle.std.specs.Prelude.{codes, nat_eq, ◌||◌, ◌&&◌, not, if◌then◌else◌, Bool, true, false, List, [], ◌∷◌}
use Rattle.std.specs.List.{starts_with}
use Rattle.std.specs.Str.{bytes_eq}
use Rattle.wd_lex.specs.declared.token.Terminal.TheVariants as m
use Rattle.wd_lex.specs.declared.token.TokenKind.{TokenKind}
use Rattle.wd_lex.specs.declared.token.TokenKind.TheVariants as t
use Rattle.wd_lex.specs.declared.token.Token.{Token}
use Rattle.wd_distinct_on.specs.Kinds.{is_dot}
use Rattle.wd_using.specs.Kinds.{begins_columns, is_star}

abbrev pub is_in : TokenKind → Bool
is_in (t.Word text) = bytes_eq text (codes "in")
is_in _ = false

abbrev pub is_exists : TokenKind → Bool
is_exists (t.Word text) = bytes_eq text (codes "exists")
is_exists _ = false

abbrev pub is_equals : TokenKind → Bool
is_equals (t.Terminal m.Equals) = true
is_equals _ = false

-- a quoted name that may equal one of the added names
abbrev pub is_ours : TokenKind → Bool
is_ours (t.Quoted text) = starts_with nat_eq text (codes "in ") || starts_with nat_eq text (codes "exists ")
is_ours _ = false

-- after such a token, a star among the items of a select stands for the columns of all its tables
abbrev pub stands_for_all : TokenKind → Token → Bool
stands_for_all before token = is_star token.kind && begins_columns before && not (is_dot before)

-- an item stands for the columns of all tables
abbrev pub has_all : TokenKind → List Token → Bool
has_all before [] = false
has_all before (token ∷ tokens) = if stands_for_all before token then true else has_all token.kind tokens
