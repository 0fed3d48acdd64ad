-- A select with a derived table for each membership: SELECT items FROM tables, ( SELECT DISTINCT y AS "in 1" FROM .. ) AS "in 1" WHERE x
-- = "in 1"."in 1". Added tokens have the place of IN or EXISTS.
use Rattle.std.specs.Prelude.{ℕ, ◌+◌, List, [], ◌∷◌, ◌++◌, Option, Some, None}
use Rattle.wd_lex.specs.declared.token.Terminal.{Terminal}
use Rattle.wd_lex.specs.declared.token.Terminal.TheVariants as m
use Rattle.wd_lex.specs.declared.token.Token.{Token}
use Rattle.wd_clauses.specs.Added.{added}
use Rattle.wd_distinct_on.specs.Written.{added_name, comma_before}
use Rattle.wd_using.specs.Pieces.{Pieces}
use Rattle.wd_membership.specs.Conjuncts.{Conjunct}
use Rattle.wd_membership.specs.Memberships.{Member, Membership, Pair}
use Rattle.wd_membership.specs.Names.{column_name, table_name}
use Rattle.wd_membership.specs.Queries.{later}

-- y AS "in 1"
abbrev pub item_of : Membership → ℕ → ℕ → Pair → List Token
item_of membership table column pair = pair.inner ++ added m.As membership.word ∷ added_name (column_name membership.test table column) membership.word ∷ []

-- y AS "in 1" {, y AS "in 1"}, from a number of a column on
abbrev pub items : Membership → ℕ → ℕ → List Pair → List Token
items membership table column [] = []
items membership table column (pair ∷ pairs) = item_of membership table column pair ++ comma_before pairs membership.word ++ items membership table (column + 1) pairs

-- WHERE test {AND test}
abbrev pub conditions : Terminal → List Conjunct → List Token
conditions first [] = []
conditions first (conjunct ∷ conjuncts) = added first conjunct.word ∷ (conjunct.test ++ conditions m.And conjuncts)

-- ) AS "in 1"
abbrev pub alias : Membership → ℕ → List Token
alias membership table = added m.RightBracket membership.word ∷ added m.As membership.word ∷ added_name (table_name membership.test table) membership.word ∷ []

-- SELECT DISTINCT y AS "in 1" FROM ..
abbrev pub query : Membership → ℕ → List Token
query membership table =
    membership.select ∷ added m.Distinct membership.word ∷ (items membership table 1 membership.pairs ++ membership.tables ++ conditions m.Where membership.conjuncts ++ membership.clauses)

-- , ( query ) AS "in 1"
abbrev pub derived : Membership → ℕ → List Token
derived membership table = added m.Comma membership.word ∷ added m.LeftBracket membership.word ∷ (query membership table ++ alias membership table)

-- = "in 1"."in 1"
abbrev pub column_of : Membership → ℕ → ℕ → List Token
column_of membership table column =
    added m.Equals membership.word ∷ added_name (table_name membership.test table) membership.word ∷ added m.Dot membership.word ∷ added_name (column_name membership.test table column) membership.word ∷ []

-- AND, if something follows
abbrev pub and_before : List Pair → Token → List Token
and_before [] word = []
and_before (next ∷ more) word = added m.And word ∷ []

-- x = "in 1"."in 1"
abbrev pub comparison_of : Membership → ℕ → ℕ → Pair → List Token
comparison_of membership table column pair = pair.outer ++ column_of membership table column

-- x = "in 1"."in 1" {AND x = "in 1"."in 1"}, from a number of a column on
abbrev pub comparisons : Membership → ℕ → ℕ → List Pair → List Token
comparisons membership table column [] = []
comparisons membership table column (pair ∷ pairs) = comparison_of membership table column pair ++ and_before pairs membership.word ++ comparisons membership table (column + 1) pairs

abbrev pub table_if : ℕ → Option Membership → List Token
table_if table None = []
table_if table (Some membership) = derived membership table

-- the number of the next table
abbrev pub next : ℕ → Option Membership → ℕ
next table None = table
next table (Some membership) = table + 1

-- the added tables, numbered from the given number on
abbrev pub tables : ℕ → List Member → List Token
tables table [] = []
tables table (member ∷ members) = table_if table member.membership ++ tables (next table member.membership) members

abbrev pub test : ℕ → Conjunct → Option Membership → List Token
test table conjunct None = conjunct.test
test table conjunct (Some membership) = comparisons membership table 1 membership.pairs

-- the conjuncts, with comparisons in place of the memberships
abbrev pub tests : ℕ → List Member → List Token
tests table [] = []
tests table (member ∷ members) = member.conjunct.word ∷ (test table member.conjunct member.membership ++ tests (next table member.membership) members)

-- the whole select, and what follows it
abbrev pub written : Pieces → List Member → List Token
written select members = select.select ∷ (select.distinct ++ select.items ++ select.tables ++ tables 1 members ++ tests 1 members ++ later select ++ select.after)
