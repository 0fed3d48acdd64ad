-- Which call or CASE that has an equation begins here, and its parts.
use Rattle.std.specs.Prelude.{◌||◌, ◌&&◌, ◌==◌, ◌%◌, not, nat_lt, codes, Bool, true, false, if◌then◌else◌, List, [], ◌∷◌, length, Option, Some, None}
use Rattle.wd_lex.specs.declared.token.Terminal.TheVariants as m
use Rattle.wd_lex.specs.declared.token.Span.{Span}
use Rattle.wd_lex.specs.declared.token.Token.{Token}
use Rattle.wd_lex.specs.declared.token.TokenKind.{TokenKind}
use Rattle.wd_equations.specs.declared.equation.Form.TheVariants as form
use Rattle.wd_equations.specs.Parts.{arms_of, values_of}
use Rattle.wd_equations.specs.Places.{Place, place}
use Rattle.wd_operands.specs.Parts.{brackets_at, nest_at}
use Rattle.wd_equations.specs.Tokens.{◌>>=◌, is_terminal, is_word, past}

-- COALESCE (x, y, ..), after its name: at least two values
unfoldable pub coalesce_after : Span → List Token → Option Place
coalesce_after at tokens =
    brackets_at tokens >>= λ list. if nat_lt (length (values_of list.0)) 2 then None else Some (place form.Coalesce false at (values_of list.0) list.1)

-- NULLIF (x, y), after its name
unfoldable pub null_if_after : Span → List Token → Option Place
null_if_after at tokens =
    brackets_at tokens >>= λ list. if length (values_of list.0) == 2 then Some (place form.NullIf false at (values_of list.0) list.1) else None

-- ---- FILTER

-- the place of FILTER, if tokens begin with it, and the tokens after it
unfoldable pub filter_word : List Token → Option (Span × List Token)
filter_word [] = None
filter_word (token ∷ tokens) = if is_word (codes "filter") token.kind then Some (token.span, tokens) else None

-- * alone
unfoldable pub is_all : List Token → Bool
is_all [] = false
is_all (token ∷ []) = is_terminal m.Star token.kind
is_all (token ∷ _ ∷ tokens) = false

-- whether tokens begin with a value, as far as the first token tells: there is one, and it is neither DISTINCT nor ALL
unfoldable pub begins_value : List Token → Bool
begins_value [] = false
begins_value (token ∷ tokens) = not (is_terminal m.Distinct token.kind) && not (is_terminal m.All token.kind)

unfoldable pub filtered : Span → List Token → List Token → List Token → List Token → Option Place
filtered at name condition argument rest = if begins_value argument then Some (place form.Filter false at (name ∷ condition ∷ argument ∷ []) rest) else None

abbrev pub counted : Span → List Token → List Token → List Token → Option Place
counted at name condition rest = Some (place form.CountAll false at (name ∷ condition ∷ []) rest)

-- the aggregates that pass over NULL: COUNT, SUM, MIN and MAX
abbrev pub is_aggregate : TokenKind → Bool
is_aggregate kind = is_word (codes "count") kind || is_word (codes "sum") kind || is_word (codes "min") kind || is_word (codes "max") kind

-- f (x) FILTER (WHERE p), after its name, where f passes over NULL; with * only COUNT
unfoldable pub filter_after : Bool → List Token → List Token → Option Place
filter_after is_count name tokens =
    brackets_at tokens >>= λ argument. filter_word argument.1 >>= λ word. brackets_at word.1 >>= λ inside. past m.Where inside.0 >>= λ condition.
    if is_count && is_all argument.0 then counted word.0 name condition inside.1
    else (if is_all argument.0 then None else filtered word.0 name condition argument.0 inside.1)

-- ---- CASE with an operand

-- whether tokens begin with the arms of a CASE, without an operand
unfoldable pub begins_arms : List Token → Bool
begins_arms [] = true
begins_arms (token ∷ tokens) = is_terminal m.When token.kind

-- CASE x WHEN a THEN r .. END, from CASE on: an operand, and for each WHEN its value and its result
unfoldable pub case_after : Span → List Token → Option Place
case_after at tokens =
    nest_at tokens >>= λ nest. if begins_arms nest.0 then None
    else (if nat_lt (length (arms_of nest.0)) 3 || length (arms_of nest.0) % 2 == 0 then None else Some (place form.SimpleCase false at (arms_of nest.0) nest.1))

-- ---- calls and CASE

unfoldable pub named_call : Token → List Token → List Token → Option Place
named_call first name tokens =
    if is_word (codes "coalesce") first.kind then coalesce_after first.span tokens
    else (if is_word (codes "nullif") first.kind then null_if_after first.span tokens
    else (if is_aggregate first.kind then filter_after (is_word (codes "count") first.kind) name tokens else None))

unfoldable pub call_at : List Token → Option Place
call_at [] = None
call_at (token ∷ tokens) = if is_terminal m.Case token.kind then case_after token.span (token ∷ tokens) else named_call token (token ∷ []) tokens
