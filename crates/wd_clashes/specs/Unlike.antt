-- Operators between amounts that have no equation in whole numbers: products of decimals, quotients of decimals, and sums, comparisons,
-- branches and defaults of two units, or where it isn't clear what an operand counts. Such an operator is replaced by a word at which the
-- profile refuses the query.
use Rattle.std.specs.Prelude.{ℕ, ◌+◌, ◌==◌, ◌&&◌, ◌||◌, not, codes, is_some, Bool, true, false, if◌then◌else◌, List, [], ◌∷◌, length, take, Option, Some, None}
use Rattle.wd_lex.specs.declared.token.Token.{Token}
use Rattle.wd_lex.specs.declared.token.TokenKind.{TokenKind}
use Rattle.wd_lex.specs.declared.token.TokenKind.TheVariants as t
use Rattle.wd_operands.specs.Nests.{nest_length}
use Rattle.wd_operands.specs.Operands.{is_left_bracket, is_sign, primary_length}
use Rattle.wd_units.specs.declared.token.Stop.TheVariants.{Branch, Operator, Sign}
use Rattle.wd_units.specs.declared.unit.Unit.{Unit as Counts}
use Rattle.wd_units.specs.declared.unit.Unit.TheVariants.{Number}
use Rattle.wd_units.specs.Units.{counts_decimal, either, is_number, is_unclear, operation_unit, with_branch}
use Rattle.wd_amounts.specs.Terms.{Known, case_contents, default_of, is_picked, is_star, past_sign, picked_argument, unit_of}
use Rattle.wd_operands.specs.Parts.{operand_at}
use Rattle.wd_units.specs.Tokens.{◌>>=◌, depth_after, is_between_factors, is_branch, is_case, is_comparison, or_else, part_length}
use Rattle.wd_clashes.specs.declared.unlike.Clash.{Clash}
use Rattle.wd_clashes.specs.declared.unlike.Clash.TheVariants.{Product, Quotient, Units}
use Rattle.wd_clashes.specs.declared.unlike.Standing.{Standing}
use Rattle.wd_clashes.specs.declared.unlike.Unlike.{Unlike}
use Rattle.wd_clashes.specs.Comparisons.{begins_side, sides_of, sign_at}

-- ---- two amounts

-- the unit is known, and is not that of a plain number
abbrev pub is_known : Option Counts → Bool
is_known None = false
is_known (Some unit) = not (is_number unit)

abbrev pub is_none : Option Counts → Bool
is_none None = true
is_none (Some unit) = false

abbrev pub counts_unclear : Option Counts → Bool
counts_unclear None = false
counts_unclear (Some unit) = is_unclear unit

-- one operand counts a decimal, and the unit of the other is not known
abbrev pub is_half_known : Option Counts → Option Counts → Bool
is_half_known first second = (counts_decimal first && is_none second) || (is_none first && counts_decimal second)

-- Two operands together count nothing, or an unclear unit: both units are known, or one is a decimal and the other operand is as simple
-- as a name.
abbrev pub are_apart : Bool → Option Counts → Option Counts → Option Counts → Bool
are_apart is_simple first second None = (is_known first && is_known second) || (is_simple && is_half_known first second)
are_apart is_simple first second (Some unit) = is_unclear unit

-- two operands can't be compared
abbrev pub are_unlike : Bool → Option Counts → Option Counts → Bool
are_unlike is_simple (Some first) (Some second) =
    is_unclear first || is_unclear second || (not (is_number first) && not (is_number second) && not (is_some (sides_of first second)))
are_unlike is_simple first second = is_simple && is_half_known first second

abbrev pub opens : TokenKind → Bool
opens (t.Literal text) = true
opens kind = is_left_bracket kind || is_case kind

-- neither a text nor a bracket nor CASE is among tokens
unfoldable pub is_simple : List Token → Bool
is_simple [] = true
is_simple (token ∷ tokens) = not (opens token.kind) && is_simple tokens

abbrev pub clash_if : Bool → Clash → Option Clash
clash_if true clash = Some clash
clash_if false clash = None

-- a decimal is multiplied by something other than a plain number
abbrev pub has_no_product : Bool → Option Counts → Option Counts → Option Counts → Bool
has_no_product is_simple before next together =
    (counts_decimal before || counts_decimal next) && is_none together && ((is_known before && is_known next) || (is_simple && is_half_known before next))

-- between factors: the product of the factors before, and the next one
abbrev pub clash_between : Bool → TokenKind → Option Counts → Option Counts → Option Clash
clash_between is_simple kind before next =
    if not (is_star kind) then clash_if (counts_decimal before || counts_decimal next) Quotient
    else (if counts_decimal before && counts_decimal next then Some Product else clash_if (has_no_product is_simple before next (operation_unit kind before next)) Units)

-- ---- an operand

-- what the term at the start counts
unfoldable pub term_ahead : Known → List Token → Option Counts
term_ahead known tokens = unit_of known (take (part_length Sign tokens) tokens)

-- what the factor at the start counts, perhaps with a sign of its own
unfoldable pub factor_ahead : Known → List Token → Option Counts
factor_ahead known tokens = unit_of known (take (part_length Operator (past_sign tokens)) (past_sign tokens))

-- an operator outside brackets, and the tokens after it; a sign right after what is between factors is that of a factor
abbrev pub clash_at_operator : Known → Standing → TokenKind → List Token → Option Clash
clash_at_operator known here kind tokens =
    if is_sign kind && not here.is_factor then clash_if (are_apart here.is_simple here.sum (term_ahead known tokens) (operation_unit kind here.sum (term_ahead known tokens))) Units
    else (if is_between_factors kind then clash_between here.is_simple kind here.product (factor_ahead known tokens) else None)

abbrev pub clash_here : Known → Standing → TokenKind → List Token → Option Clash
clash_here known here kind tokens = if here.depth == 0 then clash_at_operator known here kind tokens else None

-- after a sign a term begins, and after what is between factors a factor
abbrev pub stands_after : Known → Standing → TokenKind → List Token → Standing
stands_after known here kind tokens =
    if here.depth == 0 && (is_sign kind && not here.is_factor) then record { place = here.place + 1; depth = 0; sum = operation_unit kind here.sum (term_ahead known tokens); product = factor_ahead known tokens; is_factor = false; is_simple = here.is_simple }
    else (if here.depth == 0 && is_between_factors kind then record { place = here.place + 1; depth = 0; sum = here.sum; product = operation_unit kind here.product (factor_ahead known tokens); is_factor = true; is_simple = here.is_simple }
    else record { place = here.place + 1; depth = depth_after here.depth kind; sum = here.sum; product = here.product; is_factor = false; is_simple = here.is_simple })

abbrev pub unlike_at : ℕ → Option Clash → Option Unlike
unlike_at place None = None
unlike_at place (Some clash) = Some (record { place = place; clash = clash })

-- the first such operator from here on
unfoldable pub clash_from : Known → Standing → List Token → Option Unlike
clash_from known here [] = None
clash_from known here (token ∷ tokens) = or_else (unlike_at here.place (clash_here known here token.kind tokens)) (clash_from known (stands_after known here token.kind tokens) tokens)

abbrev pub start : Known → ℕ → List Token → Standing
start known count tokens = record { place = count; depth = 0; sum = term_ahead known tokens; product = factor_ahead known tokens; is_factor = false; is_simple = is_simple tokens }

-- the first such operator of an operand, before which this number of tokens come
unfoldable pub operand_clash : Known → ℕ → List Token → Option Unlike
operand_clash known count tokens = clash_from known (start known count tokens) tokens

-- ---- comparisons

abbrev pub unlike_sides : Known → ℕ → List Token → List Token → Option Unlike
unlike_sides known count left right =
    unlike_at (count + length left) (clash_if (are_unlike (is_simple left && is_simple right) (unit_of known left) (unit_of known right)) Units)

-- the sign of a comparison after an operand, where the sides count two units
unfoldable pub comparison_clash : Known → ℕ → List Token → List Token → Option Unlike
comparison_clash known count left tokens = sign_at tokens >>= λ sign. operand_at sign.1 >>= λ right. unlike_sides known count left right.0

-- the first such operator of the operand at the start, or of the comparison that it begins
unfoldable pub clash_at : Known → ℕ → List Token → Option Unlike
clash_at known count tokens = operand_at tokens >>= λ left. or_else (operand_clash known count left.0) (comparison_clash known count left.0 left.1)

-- ---- the branches of a CASE, and the default of a call

-- what the value or the condition at the start counts
unfoldable pub branch_ahead : Known → List Token → Option Counts
branch_ahead known tokens = unit_of known (take (part_length Branch tokens) tokens)

-- what the values count up to the next branch, outside brackets
abbrev pub unit_after : Known → ℕ → Option Counts → TokenKind → List Token → Option Counts
unit_after known depth unit kind tokens = if depth == 0 && is_branch kind then with_branch kind unit (branch_ahead known tokens) else unit

-- between CASE and its END, after this number of tokens, with this number of open brackets and values that count this unit: the first
-- THEN or ELSE after which it isn't clear what the values count
unfoldable pub branch_from : Known → ℕ → ℕ → Option Counts → List Token → Option Unlike
branch_from known place depth unit [] = None
branch_from known place depth unit (token ∷ tokens) =
    if counts_unclear (unit_after known depth unit token.kind tokens) then Some (record { place = place; clash = Units })
    else branch_from known (place + 1) (depth_after depth token.kind) (unit_after known depth unit token.kind tokens) tokens

abbrev pub branches_clash : Known → ℕ → List Token → Option Unlike
branches_clash known count inside = branch_from known count 0 (Some (Number 0)) inside

-- the first THEN or ELSE of a CASE after which it isn't clear what its values count, where this number of tokens come before the CASE
unfoldable pub case_clash : Known → ℕ → List Token → Option Unlike
case_clash known count tokens = case_contents (take (nest_length tokens) tokens) >>= branches_clash known (count + 1)

-- a value and its default, where it isn't clear what one of them counts
abbrev pub is_mixed : Known → List Token → List Token → Bool
is_mixed known value default = not (length default == 0) && counts_unclear (either (unit_of known value) (unit_of known default))

-- the name of a call with such a default, where this number of tokens come before it
abbrev pub call_clash : Known → ℕ → List Token → Option Unlike
call_clash known count call = picked_argument call >>= λ value. unlike_at count (clash_if (is_mixed known value (default_of call)) Units)

unfoldable pub default_clash : Known → ℕ → List Token → Option Unlike
default_clash known count tokens = call_clash known count (take (primary_length tokens) tokens)

-- ---- queries

abbrev pub begins_operand : TokenKind → Bool
begins_operand kind = begins_side kind || is_comparison kind

abbrev pub clash_begun : Known → ℕ → Bool → List Token → Option Unlike
clash_begun known count begins tokens = if begins then clash_at known count tokens else None

-- the CASE or the call at the start
abbrev pub clash_within : Known → ℕ → TokenKind → List Token → Option Unlike
clash_within known count kind tokens =
    if is_case kind then case_clash known count tokens else (if is_picked kind then default_clash known count tokens else None)

-- what is not allowed at the start
abbrev pub clash_first : Known → ℕ → Bool → TokenKind → List Token → Option Unlike
clash_first known count begins kind tokens = or_else (clash_begun known count begins tokens) (clash_within known count kind tokens)

-- the first such operator, where this number of tokens come before, and an operand may begin or not
unfoldable pub unlike_from : Known → ℕ → Bool → List Token → Option Unlike
unlike_from known count begins [] = None
unlike_from known count begins (token ∷ tokens) =
    or_else (clash_first known count begins token.kind (token ∷ tokens)) (unlike_from known (count + 1) (begins_operand token.kind) tokens)

abbrev pub word_of : Clash → List ℕ
word_of Product = codes "decimal_product"
word_of Quotient = codes "decimal_quotient"
word_of Units = codes "unlike_units"

-- a word in place of a token
abbrev pub word_or_token : Bool → Clash → Token → Token
word_or_token true clash token = record { kind = t.Word (word_of clash); span = token.span }
word_or_token false clash token = token

-- tokens with the word at its place, where this number of tokens come before
unfoldable pub with_word_from : ℕ → Unlike → List Token → List Token
with_word_from count unlike [] = []
with_word_from count unlike (token ∷ tokens) = word_or_token (count == unlike.place) unlike.clash token ∷ with_word_from (count + 1) unlike tokens

-- the tokens with a word in place of the first such operator
abbrev pub with_word : Option Unlike → List Token → List Token
with_word None tokens = tokens
with_word (Some unlike) tokens = with_word_from 0 unlike tokens
