-- A select without USING: each JOIN has ON with the equations of its columns, and a merged column has its table before it.
use Rattle.std.specs.Prelude.{◌||◌, if◌then◌else◌, List, [], ◌∷◌, ◌++◌, Option, Some, None}
use Rattle.wd_lex.specs.declared.token.Terminal.{Terminal}
use Rattle.wd_lex.specs.declared.token.Terminal.TheVariants as m
use Rattle.wd_lex.specs.declared.token.TokenKind.{TokenKind}
use Rattle.wd_lex.specs.declared.token.Token.{Token}
use Rattle.wd_with.specs.Derived.{goes_on}
use Rattle.wd_distinct_on.specs.Kinds.{begins}
use Rattle.wd_clauses.specs.Added.{added}
use Rattle.wd_using.specs.Kinds.{is_taken}
use Rattle.wd_using.specs.Joins.{JoinedTable}
use Rattle.wd_using.specs.Merged.{MergedColumn, table_of}
use Rattle.wd_using.specs.Pieces.{Pieces}

-- table . name; all tokens but the name have the place of a word
abbrev pub of_table : Token → Token → Token → List Token
of_table word name table = record { kind = table.kind; span = word.span } ∷ added m.Dot word ∷ name ∷ []

abbrev pub of_table_if : Token → Token → Option Token → List Token
of_table_if word name None = name ∷ []
of_table_if word name (Some table) = of_table word name table

-- what replaces a token between two others: a merged column gets its table, if no dot, AS or bracket makes it another name
abbrev pub written_token : List MergedColumn → TokenKind → Token → List Token → List Token
written_token merged before token after = if is_taken before || begins goes_on after then token ∷ [] else of_table_if token token (table_of token.kind merged)

-- tokens, with its table before each merged column
unfoldable pub qualified : List MergedColumn → TokenKind → List Token → List Token
qualified merged before [] = []
qualified merged before (token ∷ after) = written_token merged before token after ++ qualified merged token.kind after

-- left.name = right.name
abbrev pub comparison : List MergedColumn → JoinedTable → Token → List Token
comparison merged table name = of_table_if table.condition.word name (table_of name.kind merged) ++ added m.Equals table.condition.word ∷ of_table table.condition.word name table.alias

-- the word, a comparison, and AND with each further one
abbrev pub comparisons : List MergedColumn → JoinedTable → Terminal → List Token → List Token
comparisons merged table first [] = []
comparisons merged table first (name ∷ names) = (added first table.condition.word ∷ comparison merged table name) ++ comparisons merged table m.And names

-- a table, and the condition on which it is joined
abbrev pub joined : List MergedColumn → JoinedTable → List Token
joined merged table = table.join ∷ (table.table ++ comparisons merged table m.On table.condition.names ++ qualified merged table.alias.kind table.condition.rest)

-- tables, and the conditions on which they are joined
abbrev pub all_joined : List MergedColumn → List JoinedTable → List Token
all_joined merged [] = []
all_joined merged (table ∷ tables) = joined merged table ++ all_joined merged tables

-- the select without USING, and the tokens after it
abbrev pub written : List MergedColumn → List JoinedTable → Pieces → List Token
written merged tables select =
    select.select ∷ (select.distinct ++ qualified merged select.select.kind select.items ++ all_joined merged tables ++ qualified merged select.select.kind select.clauses ++ select.after)
