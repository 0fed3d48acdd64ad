-- Tokens with numbers in place of the literals of moments, and of numbers beside decimals: in comparisons whose sides count one unit, and
-- in the items of lists.
use Rattle.std.specs.Prelude.{ℕ, zero, suc, ◌++◌, nat_lt, Bool, true, false, if◌then◌else◌, List, [], ◌∷◌, length, Option, Some, None}
use Rattle.wd_lex.specs.declared.token.Terminal.TheVariants as m
use Rattle.wd_lex.specs.declared.token.Span.{Span as Place}
use Rattle.wd_lex.specs.declared.token.Token.{Token}
use Rattle.wd_dialect_read.specs.declared.said.Statement.{Statement}
use Rattle.wd_amounts.specs.Names.{known_in}
use Rattle.wd_amounts.specs.Terms.{Known}
use Rattle.wd_units.specs.Tokens.{depth_after}
use Rattle.wd_units.specs.declared.unit.Unit.{Unit as Counts}
use Rattle.wd_units.specs.declared.unit.Unit.TheVariants.{Days, Microseconds}
use Rattle.wd_moments.specs.Literals.{made, number_token}
use Rattle.wd_moments.specs.Sides.{StepTo, side, stepped}
use Rattle.wd_clashes.specs.Unlike.{unlike_from, with_word}
use Rattle.wd_moments.specs.declared.item.Start.{Start}
use Rattle.wd_moments.specs.declared.item.Start.TheVariants.{Elsewhere, AtSide}
use Rattle.wd_clashes.specs.Comparisons.{Comparison, comparison_at}
use Rattle.wd_moments.specs.Items.{Item, is_item, is_side, item_at, start_after}

-- what opens and what closes the midnight of a day
abbrev pub midnight_front : Place → List Token
midnight_front at = made m.LeftBracket at ∷ made m.LeftBracket at ∷ []

abbrev pub midnight_back : Place → List Token
midnight_back at = made m.RightBracket at ∷ made m.Star at ∷ number_token 86400000000 at ∷ made m.RightBracket at ∷ []

-- the comparison and the item that begin here
abbrev pub comparison_begun : Known → Start → List Token → Option Comparison
comparison_begun known start tokens = if is_side start then comparison_at known tokens else None

abbrev pub item_begun : Known → Start → List Token → Option Item
item_begun known start tokens = if is_item start then item_at known tokens else None

-- how parts of an operand are written on their own
module _ (itself : List Token → List Token) (known : Known) where
  -- the midnight of a day: `( ( d ) * 86400000000 )`
  abbrev pub midnight : Place → List Token → List Token
  midnight at tokens = (midnight_front at ++ side itself known Days tokens) ++ midnight_back at

  -- a side of a comparison, by its own unit and that of the other side
  abbrev pub side_beside : Place → Counts → Counts → List Token → List Token
  side_beside at Days Microseconds tokens = midnight at tokens
  side_beside at unit other tokens = side itself known unit tokens

  -- a comparison with numbers of the units of its sides
  abbrev pub compared : Comparison → List Token
  compared c = side_beside c.sign.span c.first c.second c.left ++ c.sign ∷ side_beside c.sign.span c.second c.first c.right

  -- a comparison, an item, or else the token at the start
  abbrev pub step_by : List Token → Option Comparison → Option Item → StepTo Start
  step_by tokens (Some c) item = (compared c, Elsewhere, c.rest)
  step_by tokens None (Some item) = (side itself known item.unit item.operand, Elsewhere, item.rest)
  step_by [] None None = ([], Elsewhere, [])
  step_by (token ∷ tokens) None None = (token ∷ [], start_after token.kind, tokens)

  unfoldable pub step : Start → List Token → StepTo Start
  step start tokens = step_by tokens (comparison_begun known start tokens) (item_begun known start tokens)

  abbrev pub walked : List Token → List Token
  walked tokens = stepped step (length tokens) AtSide tokens

-- parts are written on their own to the given number of levels
unfoldable pub numbers_within : Known → ℕ → List Token → List Token
numbers_within known zero tokens = tokens
numbers_within known (suc levels) tokens = walked (numbers_within known levels) known tokens

abbrev pub numbers_for : Known → List Token → List Token
numbers_for known tokens = numbers_within known 65 tokens

-- more than 64 brackets are open at once, where this number is open before these tokens
unfoldable pub is_deep : ℕ → List Token → Bool
is_deep depth [] = false
is_deep depth (token ∷ tokens) = if nat_lt 64 depth then true else is_deep (depth_after depth token.kind) tokens

-- the tokens of a query with numbers for its moments and beside its decimals, and with a word in place of the first operator that has no
-- equation; a query with more than 64 open brackets, which the profile refuses, stays as it is
unfoldable pub with_numbers : List Statement → List Token → List Token
with_numbers statements tokens =
    if is_deep 0 tokens then tokens
    else (let known = known_in statements tokens in numbers_for known (with_word (unlike_from known 0 true tokens) tokens))
