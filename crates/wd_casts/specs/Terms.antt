-- An operand with its casts.
use Rattle.std.specs.Prelude.{ℕ, zero, suc, ◌==◌, ◌&&◌, ◌||◌, ◌++◌, codes, Bool, true, false, if◌then◌else◌, List, [], ◌∷◌, length, take, drop, Option, Some, None}
use Rattle.wd_lex.specs.declared.token.Terminal.TheVariants as m
use Rattle.wd_lex.specs.declared.token.Token.{Token}
use Rattle.wd_lex.specs.declared.token.TokenKind.{TokenKind}
use Rattle.wd_lex.specs.declared.token.TokenKind.TheVariants as t
use Rattle.wd_operands.specs.Operands.{primary_length}
use Rattle.wd_units.specs.declared.token.Stop.TheVariants.{As}
use Rattle.wd_operands.specs.Parts.{brackets_at}
use Rattle.wd_units.specs.Tokens.{◌>>=◌, begins_bracket, part_length}
use Rattle.wd_casts.specs.declared.kind.Kind.{Kind}
use Rattle.wd_casts.specs.declared.term.Cast.{Cast}
use Rattle.wd_casts.specs.Types.{is_word, type_at}

abbrev pub is_percent : TokenKind → Bool
is_percent (t.Terminal m.Percent) = true
is_percent _ = false

-- `::` as it is masked: two percent signs side by side
unfoldable pub begins_sign : List Token → Bool
begins_sign (first ∷ second ∷ tokens) = is_percent first.kind && is_percent second.kind && first.span.end == second.span.start
begins_sign _ = false

-- whether tokens begin with CAST (
unfoldable pub begins_call : List Token → Bool
begins_call [] = false
begins_call (token ∷ tokens) = is_word (codes "cast") token.kind && begins_bracket tokens

-- whether a cast is among the tokens
unfoldable pub has_casts : List Token → Bool
has_casts [] = false
has_casts (token ∷ tokens) = begins_sign (token ∷ tokens) || begins_call (token ∷ tokens) || has_casts tokens

-- ---- casts after an operand

-- `:: type`, and the tokens after it
unfoldable pub cast_at : List Token → Option (Cast × List Token)
cast_at (first ∷ second ∷ tokens) =
    if begins_sign (first ∷ second ∷ tokens) then (type_at tokens >>= λ found. Some (record { kind = found.0; at = first.span }, found.1)) else None
cast_at _ = None

-- casts, and the tokens after them
abbrev pub Casts : Type 0
Casts = List Cast × List Token

abbrev pub and_more : (List Token → Casts) → List Token → Option (Cast × List Token) → Casts
and_more more tokens None = ([], tokens)
and_more more tokens (Some found) = (found.0 ∷ (more found.1).0, (more found.1).1)

-- {:: type}; the number bounds how many casts are read
unfoldable pub casts_from : ℕ → List Token → Casts
casts_from zero tokens = ([], tokens)
casts_from (suc turns) tokens = and_more (casts_from turns) tokens (cast_at tokens)

-- as many casts as there are; the count of the tokens is always enough
unfoldable pub casts_at : List Token → Casts
casts_at tokens = casts_from (length tokens) tokens

-- ---- an operand and its casts

pub record Term : Type 0 where
  pub operand : List Token
  pub casts : List Cast
  pub rest : List Token

-- an operand with these casts and those that follow, where no other `::` follows
unfoldable pub term_of : List Token → List Cast → List Token → Option Term
term_of operand first tokens =
    if begins_sign (casts_at tokens).1 then None else Some (record { operand = operand; casts = first ++ (casts_at tokens).0; rest = (casts_at tokens).1 })

-- a name, a constant, a call, or a part in brackets or from CASE to END, with the casts after it
unfoldable pub primary_at : List Token → Option Term
primary_at tokens = if primary_length tokens == 0 then None else term_of (take (primary_length tokens) tokens) [] (drop (primary_length tokens) tokens)

-- the type after AS, and nothing after it
unfoldable pub type_after : List Token → Option Kind
type_after [] = None
type_after (token ∷ tokens) = type_at tokens >>= λ found. if length found.1 == 0 then Some found.0 else None

-- CAST ( x AS type ), with the casts after it
unfoldable pub call_at : List Token → Option Term
call_at [] = None
call_at (first ∷ tokens) =
    brackets_at tokens >>= λ call. type_after (drop (part_length As call.0) call.0) >>= λ kind.
    term_of (take (part_length As call.0) call.0) (record { kind = kind; at = first.span } ∷ []) call.1

unfoldable pub term_at : List Token → Option Term
term_at tokens = if begins_call tokens then call_at tokens else primary_at tokens
