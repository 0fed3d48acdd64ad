-- The conjuncts of a WHERE clause: the tokens between WHERE, AND and AND, outside brackets. The AND of BETWEEN separates two of them as
-- well, so the tokens after it are never read as a conjunct of their own. Where OR or CASE is outside brackets, no conjunct is read.
use Rattle.std.specs.Prelude.{ℕ, zero, suc, not, if◌then◌else◌, Bool, List, [], ◌∷◌, take, drop, Option, Some, None}
use Rattle.wd_lex.specs.declared.token.Token.{Token}
use Rattle.wd_distinct_on.specs.Lists.{with_front}
use Rattle.wd_using.specs.declared.level.Extent.{Extent}
use Rattle.wd_using.specs.declared.level.Extent.TheVariants as extent
use Rattle.wd_using.specs.Joins.{is_end}
use Rattle.wd_using.specs.Reach.{reach}

-- WHERE or AND, and what follows it
pub record Conjunct : Type 0 where
  pub word : Token
  pub test : List Token

-- the tokens begin with what ends such a part, outside brackets
abbrev pub stands : Extent → List Token → Bool
stands part tokens = not (is_end (drop (reach part tokens) tokens))

abbrev pub conjunct_at : Token → List Token → Conjunct
conjunct_at word tokens = record { word = word; test = take (reach extent.Conjunct tokens) tokens }

-- word test {word test}, at most the given number of tests
unfoldable pub conjuncts_at : ℕ → List Token → Option (List Conjunct)
conjuncts_at more [] = Some []
conjuncts_at zero (word ∷ tokens) = None
conjuncts_at (suc more) (word ∷ tokens) = with_front (conjunct_at word tokens) (conjuncts_at more (drop (reach extent.Conjunct tokens) tokens))

-- the most conjuncts of a WHERE clause (this project's choice)
abbrev pub most_conjuncts : ℕ
most_conjuncts = 64

-- the conjuncts of a WHERE clause
abbrev pub conjuncts : List Token → Option (List Conjunct)
conjuncts tokens = if stands extent.Choice tokens then None else conjuncts_at most_conjuncts tokens
