-- Refusals: their numbers and places, and the properties of the tokens for which they are reported.
use Rattle.std.specs.Prelude.{◌≡◌, ℕ, Option, Some, None, Result, Ok, Err}
use Rattle.wd_syntax.specs.declared.query.Query.{Query}
use Rattle.wd_read_cursor.specs.Tokens.{Kinds}
use Rattle.wd_syntax.specs.Tree.{QueryTree}
use Rattle.wd_syntax.specs.View.{view_query}
use Rattle.wd_syntax.specs.Limits.{KeepsLimits, PassesLimitAt}
use Rattle.wd_syntax.specs.Laws.{IsTreeOf}
use Rattle.wd_parse.specs.declared.error.ParseError.{ParseError}
use Rattle.wd_parse.specs.declared.error.ParseError.TheVariants.{Unexpected, PastLimit, OutOfMemory}

abbrev pub number_of : ParseError → Option ℕ
number_of (Unexpected place) = Some 201
number_of (PastLimit place) = Some 202
number_of OutOfMemory = None

abbrev pub place_of : ParseError → Option ℕ
place_of (Unexpected place) = Some place
place_of (PastLimit place) = Some place
place_of OutOfMemory = None

-- No well-levelled tree spells the tokens; or each tree that spells them passes a limit, at this place.
abbrev pub HasCause : ParseError → Kinds → Type 0
HasCause (Unexpected place) ts = (tree : QueryTree) → IsTreeOf ts tree → ⊥
HasCause (PastLimit place) ts = PassesLimitAt ts place × ((tree : QueryTree) → IsTreeOf ts tree → KeepsLimits tree → ⊥)
HasCause OutOfMemory ts = Unit {0}

-- The answer is this tree, or memory ran out.
abbrev pub GivesTree : QueryTree → Result Query ParseError → Type 0
GivesTree tree (Ok query) = view_query query ≡ tree
GivesTree tree (Err (Unexpected place)) = ⊥
GivesTree tree (Err (PastLimit place)) = ⊥
GivesTree tree (Err OutOfMemory) = Unit {0}

-- The answer is 202, or memory ran out.
abbrev pub IsPastLimit : Result Query ParseError → Type 0
IsPastLimit (Ok query) = ⊥
IsPastLimit (Err (Unexpected place)) = ⊥
IsPastLimit (Err (PastLimit place)) = Unit {0}
IsPastLimit (Err OutOfMemory) = Unit {0}
