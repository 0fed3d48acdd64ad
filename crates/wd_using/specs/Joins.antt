-- The tables of a FROM clause in which tables are joined by [INNER] JOIN, each ON a condition or USING columns. A table is a declared
-- one, or a derived one with an alias, each of whose items has a name. A FROM clause with another kind of join, a comma between tables,
-- or a select in a condition is not read.
use Rattle.std.specs.Prelude.{ℕ, zero, suc, ◌+◌, ◌==◌, ◌||◌, ◌&&◌, not, if◌then◌else◌, Bool, true, false, List, [], ◌∷◌, map, take, drop, Option, Some, None}
use Rattle.wd_lex.specs.declared.token.TokenKind.{TokenKind}
use Rattle.wd_lex.specs.declared.token.TokenKind.TheVariants as t
use Rattle.wd_lex.specs.declared.token.Token.{Token}
use Rattle.wd_schema.specs.Tables.{TableRule}
use Rattle.wd_schema.specs.Schemas.{table_named}
use Rattle.wd_clauses.specs.Names.{is_name}
use Rattle.wd_clauses.specs.Reach.{closing, opens}
use Rattle.wd_clauses.specs.Parts.{parts}
use Rattle.wd_distinct_on.specs.Kinds.{is_as, is_on, is_select}
use Rattle.wd_distinct_on.specs.Lists.{with_front}
use Rattle.wd_distinct_on.specs.Respelled.{◌>>=◌}
use Rattle.wd_using.specs.declared.level.Extent.TheVariants.{Table}
use Rattle.wd_clauses.specs.declared.level.Stop.TheVariants.{From}
use Rattle.wd_clauses.specs.Reach.{reach as reach_items}
use Rattle.wd_distinct_on.specs.Items.{NamedItem, item_of}
use Rattle.wd_using.specs.Kinds.{begins_select, begins_table, has, is_inner, is_using}
use Rattle.wd_using.specs.Pieces.{distinct_count}
use Rattle.wd_using.specs.Reach.{reach}

-- how many tokens a table and its alias take, and the name before its columns
pub record Alias : Type 0 where
  pub count : ℕ
  pub name : Token

-- the columns of USING, the word USING, and the tokens after them; without USING no columns
pub record Condition : Type 0 where
  pub word : Token
  pub names : List Token
  pub rest : List Token

-- a table as it is joined
pub record JoinedTable : Type 0 where
  pub join : Token
  pub table : List Token
  pub alias : Token
  pub columns : List (List ℕ)
  pub condition : Condition

abbrev pub alias_after_as : Token → List Token → Alias
alias_after_as name [] = record { count = 1; name = name }
alias_after_as name (alias ∷ tokens) = if is_name alias.kind then record { count = 3; name = alias } else record { count = 1; name = name }

-- [[AS] alias] after a table's name
abbrev pub alias_at : Token → List Token → Alias
alias_at name [] = record { count = 1; name = name }
alias_at name (next ∷ tokens) =
    if is_as next.kind then alias_after_as name tokens else (if is_name next.kind then record { count = 2; name = next } else record { count = 1; name = name })

-- the declared table of that name
abbrev pub declared : List TableRule → TokenKind → Option TableRule
declared tables (t.Word text) = table_named text tables
declared tables (t.Quoted text) = table_named text tables
declared tables kind = None

-- a name alone
abbrev pub name_of : List Token → Option Token
name_of (name ∷ []) = if is_name name.kind then Some name else None
name_of tokens = None

abbrev pub with_name : Option Token → Option (List Token) → Option (List Token)
with_name None names = None
with_name (Some name) names = with_front name names

-- the names, if each part is one
abbrev pub names_of : List (List Token) → Option (List Token)
names_of [] = Some []
names_of (part ∷ found) = with_name (name_of part) (names_of found)

-- the names of a list
abbrev pub names_in_list : List Token → Option (List Token)
names_in_list tokens = parts tokens >>= names_of

-- nothing, or INNER before the next JOIN
abbrev pub ends : List Token → Bool
ends [] = true
ends (word ∷ []) = is_inner word.kind
ends tokens = false

abbrev pub with_names : Token → List Token → Option (List Token) → Option Condition
with_names word rest None = None
with_names word rest (Some names) = if ends rest then Some (record { word = word; names = names; rest = rest }) else None

-- the columns up to the closing bracket
abbrev pub names_up_to : Token → List Token → Option ℕ → Option Condition
names_up_to word tokens None = None
names_up_to word tokens (Some place) = with_names word (drop (place + 1) tokens) (names_in_list (take place tokens))

-- ( columns ) after USING
abbrev pub using_at : Token → List Token → Option Condition
using_at word [] = None
using_at word (bracket ∷ tokens) = if opens bracket.kind then names_up_to word tokens (closing tokens) else None

-- USING columns, or ON a condition, or nothing
abbrev pub condition_at : Token → List Token → Option Condition
condition_at alias [] = Some (record { word = alias; names = []; rest = [] })
condition_at alias (word ∷ tokens) =
    if is_using word.kind then using_at word tokens
    else (if (is_on word.kind || ends (word ∷ tokens)) && not (has begins_select tokens) then Some (record { word = alias; names = []; rest = word ∷ tokens }) else None)

abbrev pub with_condition : Token → List Token → Token → List (List ℕ) → Option Condition → Option JoinedTable
with_condition join table alias columns None = None
with_condition join table alias columns (Some condition) = Some (record { join = join; table = table; alias = alias; columns = columns; condition = condition })

abbrev pub name_in : Option NamedItem → Option Token
name_in None = None
name_in (Some item) = Some item.name

abbrev pub text_of : TokenKind → Option (List ℕ)
text_of (t.Word text) = Some text
text_of (t.Quoted text) = Some text
text_of kind = None

abbrev pub text_in : Option Token → Option (List ℕ)
text_in None = None
text_in (Some name) = text_of name.kind

abbrev pub with_column : Option (List ℕ) → Option (List (List ℕ)) → Option (List (List ℕ))
with_column None columns = None
with_column (Some column) columns = with_front column columns

-- the names of items, if each has one
abbrev pub item_names : List (List Token) → Option (List (List ℕ))
item_names [] = Some []
item_names (part ∷ found) = with_column (text_in (name_in (item_of part))) (item_names found)

-- the columns of a derived table, by the items of its select
abbrev pub derived_columns : List Token → Option (List (List ℕ))
derived_columns [] = None
derived_columns (select ∷ tokens) =
    let list = drop (distinct_count tokens) tokens in
    if is_select select.kind then parts (take (reach_items From list) list) >>= item_names else None

-- the columns of a table, how many tokens it takes with its alias, and its alias
pub record Source : Type 0 where
  pub columns : List (List ℕ)
  pub alias : Alias

abbrev pub columns_of : TableRule → List (List ℕ)
columns_of table = map (λ column. column.name) table.columns

abbrev pub declared_source : Alias → Option TableRule → Option Source
declared_source alias None = None
declared_source alias (Some table) = Some (record { columns = columns_of table; alias = alias })

abbrev pub with_columns : ℕ → Alias → Option (List (List ℕ)) → Option Source
with_columns place alias None = None
with_columns place alias (Some columns) = Some (record { columns = columns; alias = record { count = place + 1 + alias.count; name = alias.name } })

-- a query in brackets, whose closing bracket is at this place, and its alias, which is required
abbrev pub derived_source : Token → List Token → Option ℕ → Option Source
derived_source bracket tokens None = None
derived_source bracket tokens (Some place) =
    let alias = alias_at bracket (drop (place + 1) tokens) in
    if alias.count == 1 then None else with_columns place alias (derived_columns (take place tokens))

-- a declared table, or a derived one, with its alias
unfoldable pub source_at : List TableRule → List Token → Option Source
source_at tables [] = None
source_at tables (first ∷ tokens) = if opens first.kind then derived_source first tokens (closing tokens) else declared_source (alias_at first tokens) (declared tables first.kind)

abbrev pub with_source : Token → List Token → Option Source → Option JoinedTable
with_source join tokens None = None
with_source join tokens (Some source) = with_condition join (take source.alias.count tokens) source.alias.name source.columns (condition_at source.alias.name (drop source.alias.count tokens))

-- a table, its alias, and its condition
abbrev pub join_at : List TableRule → Token → List Token → Option JoinedTable
join_at tables join tokens = with_source join tokens (source_at tables tokens)

abbrev pub with_after : List Token → Option JoinedTable → Option (JoinedTable × List Token)
with_after following None = None
with_after following (Some table) = Some (table, following)

-- FROM or JOIN, a table with its condition, and the tokens after it
unfoldable pub table_at : List TableRule → List Token → Option (JoinedTable × List Token)
table_at tables [] = None
table_at tables (join ∷ tokens) = if begins_table join.kind then with_after (drop (reach Table tokens) tokens) (join_at tables join (take (reach Table tokens) tokens)) else None

-- the most tables of a FROM clause (this project's choice)
abbrev pub most_tables : ℕ
most_tables = 32

abbrev pub is_end : List Token → Bool
is_end [] = true
is_end (token ∷ tokens) = false

abbrev pub with_next : (List Token → Option (List JoinedTable)) → JoinedTable → List Token → Option (List JoinedTable)
with_next further table following = if is_end following then Some (table ∷ []) else with_front table (further following)

abbrev pub with_further : (List Token → Option (List JoinedTable)) → Option (JoinedTable × List Token) → Option (List JoinedTable)
with_further further None = None
with_further further (Some found) = with_next further found.0 found.1

-- FROM table {JOIN table}, and nothing else, with at most the given number of tables
unfoldable pub joined_tables : List TableRule → ℕ → List Token → Option (List JoinedTable)
joined_tables tables zero tokens = None
joined_tables tables (suc more) tokens = with_further (joined_tables tables more) (table_at tables tokens)
