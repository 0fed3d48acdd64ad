-- The lengths of parts of a select: a table of a FROM clause with its condition, a conjunct, a level, and the tokens before certain
-- words.
use Rattle.std.specs.Prelude.{ℕ, ◌+◌, ◌==◌, ◌||◌, ◌&&◌, if◌then◌else◌, Bool, false, List, [], ◌∷◌}
use Rattle.wd_lex.specs.declared.token.TokenKind.{TokenKind}
use Rattle.wd_lex.specs.declared.token.Token.{Token}
use Rattle.wd_clauses.specs.Reach.{depth_after, ends_level}
use Rattle.wd_using.specs.declared.level.Extent.{Extent}
use Rattle.wd_using.specs.declared.level.Extent.TheVariants as extent
use Rattle.wd_using.specs.Kinds.{begins_limit, begins_select, ends_table, is_and, is_between, is_choice}

-- a token ends the part, besides the end of its level
abbrev pub stops : Extent → TokenKind → Bool
stops extent.Table kind = ends_table kind
stops extent.Level kind = false
stops extent.Conjunct kind = is_and kind
stops extent.Choice kind = is_choice kind
stops extent.Between kind = is_between kind
stops extent.Select kind = begins_select kind
stops extent.Limit kind = begins_limit kind

-- how many tokens come before the end of the part, from a number of open brackets and a number of tokens already counted
unfoldable pub reach_from : Extent → ℕ → ℕ → List Token → ℕ
reach_from extent depth count [] = count
reach_from extent depth count (token ∷ tokens) =
    if depth == 0 && (ends_level token.kind || stops extent token.kind) then count else reach_from extent (depth_after depth token.kind) (count + 1) tokens

-- how many of the tokens come before the end of the part
abbrev pub reach : Extent → List Token → ℕ
reach extent tokens = reach_from extent 0 0 tokens
