-- The pieces of SELECT [DISTINCT] items FROM tables [WHERE ..] [GROUP BY keys] [HAVING ..] ..
use Rattle.std.specs.Prelude.{◌&&◌, if◌then◌else◌, List, [], ◌∷◌, take, drop}
use Rattle.wd_lex.specs.declared.token.Token.{Token}
use Rattle.wd_clauses.specs.declared.level.Stop.TheVariants.{Later}
use Rattle.wd_clauses.specs.Reach.{reach}
use Rattle.wd_distinct_on.specs.Kinds.{is_by}
use Rattle.wd_grouping.specs.Kinds.{is_group}

-- GROUP BY or nothing, its keys, and the clauses after them
pub record Grouping : Type 0 where
  pub words : List Token
  pub keys : List Token
  pub later : List Token

abbrev pub no_grouping : List Token → Grouping
no_grouping tokens = record { words = []; keys = []; later = tokens }

-- [GROUP BY keys]
abbrev pub grouping_at : List Token → Grouping
grouping_at (group ∷ by ∷ tokens) =
    if is_group group.kind && is_by by.kind then record { words = group ∷ by ∷ []; keys = take (reach Later tokens) tokens; later = drop (reach Later tokens) tokens }
    else no_grouping (group ∷ by ∷ tokens)
grouping_at tokens = no_grouping tokens

-- a WHERE clause, and what follows it
abbrev pub condition_of : List Token → List Token
condition_of clauses = take (reach Later clauses) clauses

abbrev pub grouping_of : List Token → Grouping
grouping_of clauses = grouping_at (drop (reach Later clauses) clauses)
