-- Parts of a list of tokens, up to separators outside brackets.
use Rattle.std.specs.Prelude.{ℕ, zero, suc, ◌+◌, ◌-◌, ◌==◌, ◌&&◌, if◌then◌else◌, List, [], ◌∷◌, length, take, drop}
use Rattle.wd_lex.specs.declared.token.Terminal.{Terminal}
use Rattle.wd_lex.specs.declared.token.Terminal.TheVariants as m
use Rattle.wd_lex.specs.declared.token.Token.{Token}
use Rattle.wd_lex.specs.declared.token.TokenKind.{TokenKind}
use Rattle.wd_lex.specs.declared.token.TokenKind.TheVariants as t
use Rattle.wd_equations.specs.Tokens.{is_terminal}

-- how many brackets are open after a token; CASE and END are a pair of brackets
abbrev pub depth_after : ℕ → TokenKind → ℕ
depth_after depth (t.Terminal m.LeftBracket) = depth + 1
depth_after depth (t.Terminal m.Case) = depth + 1
depth_after depth (t.Terminal m.RightBracket) = depth - 1
depth_after depth (t.Terminal m.End) = depth - 1
depth_after depth _ = depth

-- how many tokens come before the first separator outside brackets; `count` tokens come before these, and `depth` brackets are open
unfoldable pub part_from : Terminal → ℕ → ℕ → List Token → ℕ
part_from separator count depth [] = count
part_from separator count depth (token ∷ tokens) =
    if depth == 0 && is_terminal separator token.kind then count else part_from separator (count + 1) (depth_after depth token.kind) tokens

-- the tokens before the first separator outside brackets, and those from there on
abbrev pub first_part : Terminal → List Token → List Token
first_part separator tokens = take (part_from separator 0 0 tokens) tokens

abbrev pub after_part : Terminal → List Token → List Token
after_part separator tokens = drop (part_from separator 0 0 tokens) tokens

-- the parts: where no separator is left the rest is the last part
abbrev pub and_parts : List Token → List Token → (List Token → List (List Token)) → List (List Token)
and_parts tokens [] more = tokens ∷ []
and_parts tokens (separator ∷ following) more = more following

-- the parts of tokens: the first goes up to the one separator, the next up to the other, and so on in turn; the number bounds the
-- parts, and the count of the tokens is always enough
unfoldable pub parts_of : ℕ → Terminal → Terminal → List Token → List (List Token)
parts_of zero first second tokens = tokens ∷ []
parts_of (suc turns) first second tokens = and_parts tokens (after_part first tokens) (λ following. first_part first tokens ∷ parts_of turns second first following)

-- the values of a list, between commas
abbrev pub values_of : List Token → List (List Token)
values_of tokens = parts_of (length tokens) m.Comma m.Comma tokens

-- the operand of a CASE, and for each WHEN its value and its result
abbrev pub arms_of : List Token → List (List Token)
arms_of tokens = parts_of (length tokens) m.When m.Then tokens
