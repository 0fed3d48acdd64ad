-- What the names of a query count, by the columns of a schema and the names that the query gives.
use Rattle.std.specs.Prelude.{ℕ, zero, suc, ◌-◌, ◌==◌, ◌&&◌, ◌||◌, not, nat_lt, Bool, true, false, if◌then◌else◌, List, [], ◌∷◌, ◌++◌, map, take, Option, Some, None}
use Rattle.wd_lex.specs.declared.token.Terminal.TheVariants as m
use Rattle.wd_lex.specs.declared.token.Token.{Token}
use Rattle.wd_lex.specs.declared.token.TokenKind.{TokenKind}
use Rattle.wd_lex.specs.declared.token.TokenKind.TheVariants as t
use Rattle.wd_operands.specs.Operands.{is_constant, is_filter, is_name, is_test_word, operand_length, primary_length}
use Rattle.wd_dialect_read.specs.declared.said.Statement.{Statement}
use Rattle.wd_amounts.specs.declared.scan.ItemOperand.{ItemOperand}
use Rattle.wd_amounts.specs.declared.scan.Scan.{Scan}
use Rattle.wd_units.specs.declared.unit.Unit.{Unit as Counts}
use Rattle.wd_amounts.specs.Terms.{Known, unit_of}
use Rattle.wd_amounts.specs.Uses.{Use, column_uses, known_by}
use Rattle.wd_units.specs.Units.{as_value, either, unit_of_kind}
use Rattle.wd_units.specs.Tokens.{begins_bracket, begins_item, begins_query, depth_after, is_as, is_right_bracket}

-- ---- the names that a query gives

-- A name is an alias right after AS, and where AS is left out: after what ends an operand or a table.
abbrev pub ends_operand : TokenKind → Bool
ends_operand (t.Terminal m.As) = true
ends_operand (t.Terminal m.RightBracket) = true
ends_operand (t.Terminal m.End) = true
ends_operand kind = is_name kind || is_constant kind

abbrev pub name_text : TokenKind → Option (List ℕ)
name_text (t.Word text) = if is_test_word text then None else Some text
name_text (t.Quoted text) = Some text
name_text _ = None

abbrev pub texts_in : Option (List ℕ) → List (List ℕ)
texts_in None = []
texts_in (Some text) = text ∷ []

abbrev pub text_if : Bool → TokenKind → List (List ℕ)
text_if true kind = texts_in (name_text kind)
text_if false kind = []

-- aliases, and names of calls, which are names of their results
unfoldable pub given_names : Bool → List Token → List (List ℕ)
given_names is_alias [] = []
given_names is_alias (token ∷ tokens) = text_if (is_alias || begins_bracket tokens) token.kind ++ given_names (ends_operand token.kind) tokens

-- AS and no name
unfoldable pub begins_as : List Token → Bool
begins_as (first ∷ second ∷ tokens) = is_as first.kind && not (is_name second.kind)
begins_as _ = false

-- an alias with a list of names, or the end of such a list in WITH
abbrev pub lists_names : Bool → TokenKind → List Token → Bool
lists_names is_alias kind tokens = (is_alias && is_name kind && not (is_filter kind) && begins_bracket tokens) || (is_right_bracket kind && begins_as tokens)

unfoldable pub has_lists : Bool → List Token → Bool
has_lists is_alias [] = false
has_lists is_alias (token ∷ tokens) = lists_names is_alias token.kind tokens || has_lists (ends_operand token.kind) tokens

-- ---- what the names count that are given in so many brackets

-- the operand at the start of an item: how many tokens of it are to come, and what its values count; a derived table after a comma is none
abbrev pub item_operand : (List Token → Option Counts) → List Token → Option ItemOperand
item_operand unit tokens = if operand_length tokens == 0 || begins_query tokens then None else Some (record { tokens = operand_length tokens; unit = as_value (unit (take (operand_length tokens) tokens)) })

-- after a token: one token less is to come, and AS may stand before the name
abbrev pub operand_after : TokenKind → Option ItemOperand → Option ItemOperand
operand_after kind None = None
operand_after kind (Some x) = if x.tokens == 0 then (if is_as kind then Some x else None) else Some (record { tokens = x.tokens - 1; unit = x.unit })

-- an operand has ended right before
abbrev pub has_ended : Option ItemOperand → Bool
has_ended None = false
has_ended (Some x) = x.tokens == 0

abbrev pub operand_unit : Option ItemOperand → Option Counts
operand_unit None = None
operand_unit (Some x) = x.unit

abbrev pub uses_of : Option Counts → List (List ℕ) → List (Use Counts)
uses_of unit texts = map (λ text. (text, unit)) texts

-- what the call at the start counts
abbrev pub call_unit : (List Token → Option Counts) → List Token → Option Counts
call_unit unit tokens = as_value (unit (take (primary_length tokens) tokens))

-- A name right after the operand of an item counts what the operand does, and the name of a call what the call does, since it is the name
-- of an output without another. An alias of a table counts nothing, and what no operand is, as a condition, stands beside no number.
unfoldable pub use_first : (List Token → Option Counts) → Option ItemOperand → List Token → List (Use Counts)
use_first unit found [] = []
use_first unit found (token ∷ tokens) =
    if has_ended found then uses_of (operand_unit found) (text_if true token.kind)
    else (if begins_bracket tokens then uses_of (call_unit unit (token ∷ tokens)) (text_if true token.kind) else [])

abbrev pub use_here : (List Token → Option Counts) → Bool → Option ItemOperand → List Token → List (Use Counts)
use_here unit is_here found tokens = if is_here then use_first unit found tokens else []

-- what is in more than 64 brackets is taken as in 64
abbrev pub level_of : ℕ → ℕ
level_of depth = if nat_lt depth 64 then depth else 64

abbrev pub is_at : ℕ → Scan → Bool
is_at level here = level_of here.depth == level

-- the operand of the item that begins here, or else of the last one
abbrev pub current_operand : (List Token → Option Counts) → ℕ → Scan → List Token → Option ItemOperand
current_operand unit level here tokens = if is_at level here && here.begins then item_operand unit tokens else here.item

abbrev pub scan_after : TokenKind → ℕ → Option ItemOperand → Scan
scan_after kind depth found = record { depth = depth_after depth kind; begins = begins_item kind; item = operand_after kind found }

-- the names that are given in so many brackets, where operands count so much, from here on
unfoldable pub level_uses_from : (List Token → Option Counts) → ℕ → Scan → List Token → List (Use Counts)
level_uses_from unit level here [] = []
level_uses_from unit level here (token ∷ tokens) =
    use_here unit (is_at level here) (current_operand unit level here (token ∷ tokens)) (token ∷ tokens)
    ++ level_uses_from unit level (scan_after token.kind here.depth (current_operand unit level here (token ∷ tokens))) tokens

abbrev pub at_start : Scan
at_start = record { depth = 0; begins = false; item = None }

abbrev pub level_uses : (List Token → Option Counts) → ℕ → List Token → List (Use Counts)
level_uses unit level tokens = level_uses_from unit level at_start tokens

-- ---- what a name counts

-- the columns, and the names that are given in so many levels of brackets, from the innermost on: an operand may name what is given in
-- further brackets
unfoldable pub uses_in : List Statement → List Token → ℕ → List (Use Counts)
uses_in statements tokens zero = column_uses unit_of_kind statements
uses_in statements tokens (suc levels) = uses_in statements tokens levels ++ level_uses (unit_of (known_by either (uses_in statements tokens levels))) (64 - levels) tokens

-- the uses of names in a query: none are known where it gives whole lists of names
unfoldable pub uses : List Statement → List Token → List (Use Counts)
uses statements tokens = if has_lists false tokens then [] else uses_in statements tokens 65

-- what the names of a query count
abbrev pub known_in : List Statement → List Token → Known
known_in statements tokens = known_by either (uses statements tokens)
