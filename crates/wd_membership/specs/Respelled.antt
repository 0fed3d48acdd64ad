-- A query without memberships among the conjuncts of its WHERE clauses: for each membership a table of the distinct rows is added to the
-- FROM clause, and the conjunct compares with it. The selects are respelled from the last to the first, so that each is respelled before
-- the one around it. A select stays as it is where an item stands for the columns of all tables, and the query stays as it is where it
-- has a name like those that are added.
use Rattle.std.specs.Prelude.{ℕ, if◌then◌else◌, false, List, ◌++◌, take, drop, Option, Some, None, Result}
use Rattle.wd_lex.specs.declared.token.Token.{Token}
use Rattle.wd_clauses.specs.declared.error.RespellError.{RespellError}
use Rattle.wd_distinct_on.specs.Kinds.{begins, is_select}
use Rattle.wd_distinct_on.specs.Respelled.{◌>>=◌}
use Rattle.wd_distinct_on.specs.Selects.{respell_backwards}
use Rattle.wd_using.specs.Kinds.{has}
use Rattle.wd_using.specs.Pieces.{Pieces}
use Rattle.wd_using.specs.Respelled.{most_selects}
use Rattle.wd_membership.specs.Conjuncts.{Conjunct, conjuncts}
use Rattle.wd_membership.specs.Kinds.{has_all, is_ours}
use Rattle.wd_membership.specs.Memberships.{has_membership, members}
use Rattle.wd_membership.specs.Queries.{conditions, select_at}
use Rattle.wd_membership.specs.Written.{written}

-- what replaces a select after these tokens, if one of its conjuncts is a membership
abbrev pub if_any : List Token → Pieces → List Conjunct → Option (List Token)
if_any front select found = if has_membership (members false found) then Some (front ++ written select (members false found)) else None

-- what replaces a select after these tokens
abbrev pub respelled_select : List Token → Pieces → Option (List Token)
respelled_select front select =
    if has_all select.select.kind select.items then None else conjuncts (conditions select) >>= if_any front select

-- a query in which the select that begins at a place is respelled
unfoldable pub respell_at : ℕ → List Token → Option (List Token)
respell_at place tokens = select_at (drop place tokens) >>= respelled_select (take place tokens)

-- the most selects of a query that are looked at: none, where it has a name like those that are added
abbrev pub selects_of : List Token → ℕ
selects_of tokens = if has is_ours tokens then 0 else most_selects

-- a query without memberships
abbrev pub respelled : List Token → Result (List Token) RespellError
respelled tokens = respell_backwards (begins is_select) respell_at (selects_of tokens) tokens
