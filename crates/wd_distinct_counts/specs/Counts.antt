-- The calls COUNT( DISTINCT c ) among tokens, where no other aggregate is among them.
use Rattle.std.specs.Prelude.{ℕ, codes, ◌&&◌, ◌||◌, not, if◌then◌else◌, Bool, true, false, List, [], ◌∷◌, take, drop, Option, Some, None}
use Rattle.std.specs.Str.{bytes_eq}
use Rattle.wd_lex.specs.declared.token.TokenKind.{TokenKind}
use Rattle.wd_lex.specs.declared.token.TokenKind.TheVariants as t
use Rattle.wd_lex.specs.declared.token.Token.{Token}
use Rattle.wd_clauses.specs.Reach.{closes, opens}
use Rattle.wd_distinct_on.specs.Keys.{strip}
use Rattle.wd_distinct_on.specs.Kinds.{begins, is_distinct, is_dot}
use Rattle.wd_distinct_on.specs.Respelled.{◌>>=◌}
use Rattle.wd_grouping.specs.Keys.{is_column}
use Rattle.wd_grouping.specs.Kinds.{is_over}
use Rattle.wd_grouping.specs.Replaced.{its_table, or_else}

abbrev pub is_count : TokenKind → Bool
is_count (t.Word text) = bytes_eq text (codes "count")
is_count _ = false

abbrev pub names_aggregate : List ℕ → Bool
names_aggregate text = bytes_eq text (codes "count") || bytes_eq text (codes "sum") || bytes_eq text (codes "min") || bytes_eq text (codes "max")

-- a name, quoted or not, which before a bracket is an aggregate: the profile reads no other aggregates
abbrev pub is_aggregate : TokenKind → Bool
is_aggregate (t.Word text) = names_aggregate text
is_aggregate (t.Quoted text) = names_aggregate text
is_aggregate _ = false

-- whether a call continues with OVER or FILTER
abbrev pub goes_on : TokenKind → Bool
goes_on (t.Word text) = bytes_eq text (codes "filter")
goes_on kind = is_over kind

-- whether tokens begin with the bracket that closes a call, and no OVER or FILTER follows it
abbrev pub closes_call : List Token → Bool
closes_call [] = false
closes_call (bracket ∷ tokens) = closes bracket.kind && not (begins goes_on tokens)

abbrev pub if_closed : List Token → List Token → Option (List Token)
if_closed column following = if is_column column && closes_call following then Some column else None

-- the first `count` tokens, if they are a column and the call closes after them
abbrev pub closed_after : ℕ → List Token → Option (List Token)
closed_after count tokens = if_closed (take count tokens) (drop count tokens)

-- x.c or c, with the bracket that closes the call
abbrev pub column_at : List Token → Option (List Token)
column_at tokens = or_else (closed_after 3 tokens) (closed_after 1 tokens)

-- the column of COUNT( DISTINCT c ), by the tokens after its bracket; `before` is the token before the bracket
abbrev pub counted_column : TokenKind → List Token → Option (List Token)
counted_column before [] = None
counted_column before (distinct ∷ tokens) = if is_count before && is_distinct distinct.kind then column_at tokens else None

-- whether a bracket is that of an aggregate, or DISTINCT follows it
abbrev pub begins_call : TokenKind → Token → List Token → Bool
begins_call before bracket tokens = opens bracket.kind && (is_aggregate before || begins is_distinct tokens)

abbrev pub is_all : Option (List Token) → Bool
is_all (Some []) = true
is_all rest = false

-- whether two columns are written alike
abbrev pub is_same_column : List Token → List Token → Bool
is_same_column column other = is_all (strip column other)

-- the one column that is counted, with that of a further call
abbrev pub joined : Option (List Token) → Option (List Token) → Option (List Token)
joined so_far None = None
joined None (Some column) = Some column
joined (Some first) (Some column) = if is_same_column first column then Some first else None

-- the one column, if any, of each COUNT( DISTINCT c ) in the tokens, with the one found so far, if there is no other aggregate; the
-- token before these is given
abbrev pub column_in : Option (List Token) → TokenKind → List Token → Option (Option (List Token))
column_in so_far before [] = Some so_far
column_in so_far before (token ∷ tokens) =
    if begins_call before token tokens then (joined so_far (counted_column before tokens) >>= λ column. column_in (Some column) token.kind tokens)
    else column_in so_far token.kind tokens

-- tokens without DISTINCT in such calls; where one table replaces several, it also replaces their names before columns
abbrev pub counted : Option Token → TokenKind → List Token → List Token
counted table before [] = []
counted table before (token ∷ tokens) = if opens before && is_distinct token.kind then counted table token.kind tokens else its_table table token tokens ∷ counted table token.kind tokens

-- whether a column is one of these
abbrev pub is_among : List Token → List (List Token) → Bool
is_among column [] = false
is_among column (other ∷ others) = if is_same_column other column then true else is_among column others

-- each column that is written with its table is one of these
abbrev pub are_theirs : List (List Token) → List Token → Bool
are_theirs columns [] = true
are_theirs columns (token ∷ tokens) = if begins is_dot tokens && not (is_among (take 3 (token ∷ tokens)) columns) then false else are_theirs columns tokens
