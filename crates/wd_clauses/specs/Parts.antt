-- The parts of a list, with commas between them.
use Rattle.std.specs.Prelude.{ℕ, zero, suc, List, [], ◌∷◌, take, drop, Option, Some, None}
use Rattle.wd_lex.specs.declared.token.Token.{Token}
use Rattle.wd_clauses.specs.declared.level.Stop.TheVariants.{Comma}
use Rattle.wd_clauses.specs.Reach.{reach}

-- the most parts of a list (this project's choice)
abbrev pub most_parts : ℕ
most_parts = 256

abbrev pub Parts : Type 0
Parts = Option (List (List Token))

abbrev pub with_front : List Token → Parts → Parts
with_front part None = None
with_front part (Some parts) = Some (part ∷ parts)

-- the tokens after the first, if there is one
abbrev pub past_first : List Token → Option (List Token)
past_first [] = None
past_first (first ∷ tokens) = Some tokens

-- one part alone, or, where a comma follows it, this part and those after the comma
abbrev pub with_further : (List Token → Parts) → List Token → Option (List Token) → Parts
with_further further part None = Some (part ∷ [])
with_further further part (Some tokens) = with_front part (further tokens)

-- part {, part}, at most the given number of parts
unfoldable pub parts_at : ℕ → List Token → Parts
parts_at zero tokens = None
parts_at (suc more) tokens = with_further (parts_at more) (take (reach Comma tokens) tokens) (past_first (drop (reach Comma tokens) tokens))

abbrev pub parts : List Token → Parts
parts tokens = parts_at most_parts tokens
