-- What is known of an operand.
use Rattle.std.specs.Prelude.{ℕ, zero, suc, ◌==◌, ◌&&◌, ◌||◌, nat_lt, codes, Bool, false, if◌then◌else◌, List, [], ◌∷◌, length, take, drop, Option, Some, None}
use Rattle.std.specs.Str.{bytes_eq}
use Rattle.wd_lex.specs.declared.token.Token.{Token}
use Rattle.wd_lex.specs.declared.token.TokenKind.{TokenKind}
use Rattle.wd_lex.specs.declared.token.TokenKind.TheVariants as t
use Rattle.wd_operands.specs.Operands.{is_name}
use Rattle.wd_units.specs.declared.token.Stop.TheVariants.{Comma}
use Rattle.wd_amounts.specs.Terms.{bracket_contents, is_picked}
use Rattle.wd_operands.specs.Parts.{brackets_at}
use Rattle.wd_units.specs.Tokens.{◌>>=◌, begins_bracket, is_dot, or_else, part_length}
use Rattle.wd_casts.specs.declared.kind.Kind.{Kind}
use Rattle.wd_casts.specs.declared.kind.Kind.TheVariants as k
use Rattle.wd_casts.specs.declared.known.Known.{Known}
use Rattle.wd_casts.specs.declared.known.Known.TheVariants.{Nothing, Literal, Number, Value}
use Rattle.wd_casts.specs.declared.term.Cast.{Cast}
use Rattle.wd_casts.specs.declared.equation.Form.{Form}
use Rattle.wd_casts.specs.Equations.{equation}
use Rattle.wd_casts.specs.Names.{Kinds}
use Rattle.wd_casts.specs.Terms.{Term, term_at}

-- ---- names and constants

abbrev pub value_of : Option Kind → Known
value_of None = Nothing
value_of (Some kind) = Value kind

abbrev pub token_known : Kinds → TokenKind → Known
token_known kinds (t.Word name) = value_of (kinds name)
token_known kinds (t.Quoted name) = value_of (kinds name)
token_known kinds (t.Number number) = Number number
token_known kinds (t.Literal text) = Literal
token_known kinds _ = Nothing

-- what is known of a single token: a name, with its table or not, a number or a text
unfoldable pub column_known : Kinds → List Token → Known
column_known kinds (only ∷ []) = token_known kinds only.kind
column_known kinds (table ∷ dot ∷ column ∷ []) = if is_name table.kind && is_dot dot.kind && is_name column.kind then token_known kinds column.kind else Nothing
column_known kinds _ = Nothing

-- ---- calls

-- the names of calls that count rows, in whole numbers of 64 bits
abbrev pub is_counted : TokenKind → Bool
is_counted (t.Word name) = bytes_eq name (codes "count") || bytes_eq name (codes "row_number") || bytes_eq name (codes "rank") || bytes_eq name (codes "dense_rank")
is_counted _ = false

unfoldable pub counts_rows : List Token → Bool
counts_rows [] = false
counts_rows (token ∷ tokens) = is_counted token.kind && begins_bracket tokens

unfoldable pub plain_known : Kinds → List Token → Known
plain_known kinds tokens = if counts_rows tokens then Value k.Big else column_known kinds tokens

-- the first argument, where at most a comma and one more token come after it: the distance of LAG, and no default
unfoldable pub first_argument : List Token → Option (List Token)
first_argument tokens = if nat_lt 2 (length (drop (part_length Comma tokens) tokens)) then None else Some (take (part_length Comma tokens) tokens)

-- the argument whose values a call returns
unfoldable pub picked : List Token → Option (List Token)
picked [] = None
picked (token ∷ tokens) = if is_picked token.kind then (brackets_at tokens >>= λ call. first_argument call.0) else None

-- the smaller operand within this one that has the same values
unfoldable pub inner_operand : List Token → Option (List Token)
inner_operand tokens = or_else (bracket_contents tokens) (picked tokens)

-- only what is known of values: a constant in brackets does not count as a constant
abbrev pub as_value : Known → Known
as_value (Value kind) = Value kind
as_value _ = Nothing

abbrev pub primary_by : (List Token → Known) → Kinds → List Token → Option (List Token) → Known
primary_by inner kinds tokens (Some inside) = as_value (inner inside)
primary_by inner kinds tokens None = plain_known kinds tokens

-- what is known of an operand without casts
unfoldable pub primary_known : (List Token → Known) → Kinds → List Token → Known
primary_known inner kinds tokens = primary_by inner kinds tokens (inner_operand tokens)

-- ---- casts

abbrev pub value_by : Kind → Option Form → Known
value_by kind None = Nothing
value_by kind (Some form) = Value kind

-- what is known of a cast of an operand, if the cast has an equation
abbrev pub known_as : Known → Kind → Known
known_as known kind = value_by kind (equation known kind)

unfoldable pub known_after : Known → List Cast → Known
known_after known [] = known
known_after known (cast ∷ casts) = known_after (known_as known cast.kind) casts

abbrev pub term_by : (List Token → Known) → Kinds → List Token → List Cast → Known
term_by inner kinds operand [] = primary_known inner kinds operand
term_by inner kinds operand (cast ∷ casts) = known_after (inner operand) (cast ∷ casts)

-- what is known of a term, if it is all of the tokens
abbrev pub whole_known : (List Token → Known) → Kinds → Option Term → Known
whole_known inner kinds None = Nothing
whole_known inner kinds (Some term) = if length term.rest == 0 then term_by inner kinds term.operand term.casts else Nothing

-- what is known of tokens that are one operand with its casts, followed into at most the given number of brackets and casts
unfoldable pub known_within : Kinds → ℕ → List Token → Known
known_within kinds zero tokens = Nothing
known_within kinds (suc depth) tokens = whole_known (known_within kinds depth) kinds (term_at tokens)

-- brackets and casts are followed to 130 levels
abbrev pub known_of : Kinds → List Token → Known
known_of kinds tokens = known_within kinds 130 tokens
