-- The select that replaces one with COUNT( DISTINCT c ): it counts c over FROM ( SELECT keys, c FROM .. WHERE .. GROUP BY keys, c ) AS
-- a, in which each value of c appears once in each group.
use Rattle.std.specs.Prelude.{List, [], ◌∷◌, ◌++◌, Option}
use Rattle.wd_lex.specs.declared.token.Terminal.TheVariants as m
use Rattle.wd_lex.specs.declared.token.Token.{Token}
use Rattle.wd_clauses.specs.Added.{added}
use Rattle.wd_distinct_on.specs.Written.{all_added, all_placed}
use Rattle.wd_using.specs.Pieces.{Pieces}
use Rattle.wd_grouping.specs.Pieces.{OneTable}
use Rattle.wd_grouping.specs.Replaced.{qualified}
use Rattle.wd_grouping.specs.Written.{closing}
use Rattle.wd_distinct_counts.specs.Counts.{counted}
use Rattle.wd_distinct_counts.specs.Pieces.{Grouping, condition_of}

-- a comma after keys
abbrev pub comma_after : List Token → Token → List Token
comma_after [] word = []
comma_after (key ∷ keys) word = added m.Comma word ∷ []

-- keys, c
abbrev pub columns : List Token → List Token → Token → List Token
columns keys column word = all_placed keys word ++ comma_after keys word ++ all_placed column word

-- FROM ( SELECT
unfoldable pub opening : Token → List Token
opening word = all_added (m.From ∷ m.LeftBracket ∷ m.Select ∷ []) word

-- FROM ( SELECT keys, c FROM .. WHERE ..
abbrev pub inner : Pieces → OneTable → List Token → List Token → List Token
inner select one keys column = opening one.from ++ columns keys column one.from ++ select.tables ++ condition_of select.clauses

-- GROUP BY keys, c ) AS a
abbrev pub by_columns : OneTable → List Token → List Token → List Token
by_columns one keys column = all_added (m.Group ∷ m.By ∷ []) one.from ++ columns keys column one.from ++ closing one.alias one.from

-- SELECT [DISTINCT] items
abbrev pub head : Pieces → Option Token → List Token
head select table = select.select ∷ (select.distinct ++ counted table select.select.kind select.items)

-- [GROUP BY keys] and the clauses after them
abbrev pub tail : Pieces → Grouping → Option Token → List Token
tail select grouping table = grouping.words ++ qualified table grouping.keys ++ counted table select.select.kind grouping.later ++ select.after

-- the whole select, and what follows it
abbrev pub written : Pieces → Grouping → OneTable → List Token → List Token
written select grouping one column = head select one.qualifier ++ inner select one grouping.keys column ++ by_columns one grouping.keys column ++ tail select grouping one.qualifier
