-- Tests of whether a row is among others: x IN ( SELECT y FROM .. ), and EXISTS ( SELECT .. FROM u a WHERE a.k = t.j AND q ). Such a test
-- is true of a row exactly if one row of the distinct y, or of the distinct a.k for which q is true, equals it, and never more than one
-- does, since NULL equals nothing. A name in the query that is not one of its own tables' needs no care: it means nothing in the derived
-- table where the query is written, so the profile refuses it.
use Rattle.std.specs.Prelude.{◌-◌, ◌||◌, ◌&&◌, not, if◌then◌else◌, Bool, true, false, List, [], ◌∷◌, length, take, drop, Option, Some, None}
use Rattle.wd_lex.specs.declared.token.Token.{Token}
use Rattle.wd_clauses.specs.declared.level.Stop.TheVariants.{Comma}
use Rattle.wd_clauses.specs.Names.{is_name, is_same_name}
use Rattle.wd_clauses.specs.Reach as clauses
use Rattle.wd_operands.specs.Operands.{operand_length}
use Rattle.wd_distinct_on.specs.Items.{after_as}
use Rattle.wd_distinct_on.specs.Kinds.{begins, is_dot}
use Rattle.wd_distinct_on.specs.Respelled.{◌>>=◌}
use Rattle.wd_using.specs.declared.level.Extent.TheVariants as extent
use Rattle.wd_using.specs.Joins.{alias_at, is_end}
use Rattle.wd_using.specs.Kinds.{has, is_star}
use Rattle.wd_using.specs.Pieces.{Pieces}
use Rattle.wd_membership.specs.declared.membership.Test.{Test}
use Rattle.wd_membership.specs.declared.membership.Test.TheVariants as test
use Rattle.wd_membership.specs.Conjuncts.{Conjunct, conjuncts, stands}
use Rattle.wd_membership.specs.Kinds.{is_equals, is_exists, is_in}
use Rattle.wd_membership.specs.Queries.{conditions, later, query_in}

-- a value of the select, and the value of the query that it is to equal
pub record Pair : Type 0 where
  pub outer : List Token
  pub inner : List Token

-- IN or EXISTS: the word, what is compared, and the parts of the query: SELECT, FROM with its tables, its conjuncts, and other clauses
pub record Membership : Type 0 where
  pub test : Test
  pub word : Token
  pub pairs : List Pair
  pub select : Token
  pub tables : List Token
  pub conjuncts : List Conjunct
  pub clauses : List Token

-- ---- x IN ( SELECT y FROM .. )

abbrev pub value_with : List Token → Option Token → List Token
value_with item None = item
value_with item (Some name) = take (length item - 2) item

-- the value of an item, without AS and a name
abbrev pub value_of : List Token → List Token
value_of item = value_with item (after_as (drop (length item - 2) item))

-- one item, which does not end with a star
abbrev pub is_value : List Token → Bool
is_value items = is_end (drop (clauses.reach Comma items) items) && not (begins is_star (drop (length items - 1) items))

-- The query has one item and no ORDER BY, LIMIT, OFFSET or FETCH. It may have GROUP BY, HAVING and WINDOW: DISTINCT takes the rows that
-- are left after all of these, as IN does.
abbrev pub in_query : List Token → Token → Pieces → Option Membership
in_query operand word select =
    if is_value select.items && not (stands extent.Limit select.clauses) then
    Some (record { test = test.In; word = word; pairs = record { outer = operand; inner = value_of select.items } ∷ []; select = select.select; tables = select.tables; conjuncts = []; clauses = select.clauses })
    else None

-- IN and a query after an operand, which is not empty
abbrev pub after_operand : List Token → List Token → Option Membership
after_operand operand [] = None
after_operand operand (word ∷ tokens) = if is_end operand || not (is_in word.kind) then None else query_in tokens >>= in_query operand word

-- x IN ( query ), and nothing else; x binds more tightly than IN
abbrev pub in_at : List Token → Option Membership
in_at tokens = after_operand (take (operand_length tokens) tokens) (drop (operand_length tokens) tokens)

-- ---- EXISTS ( SELECT .. FROM u a WHERE a.k = t.j AND q )

-- FROM u [[AS] a], and nothing else: the name before the columns of u
abbrev pub name_of_table : List Token → Option Token
name_of_table (from ∷ table ∷ tokens) =
    let alias = alias_at table tokens in
    if is_name table.kind && is_end (drop alias.count (table ∷ tokens)) then Some alias.name else None
name_of_table _ = None

-- a.k, and nothing else: the name before the dot
abbrev pub table_of_column : List Token → Option Token
table_of_column (table ∷ dot ∷ column ∷ []) = if is_name table.kind && is_dot dot.kind && is_name column.kind then Some table else None
table_of_column _ = None

-- a column of the query's own table and one of another
abbrev pub paired : Token → List Token → List Token → Token → Token → Option Pair
paired alias left right table other =
    if is_same_name alias.kind table.kind then (if is_same_name alias.kind other.kind then None else Some (record { outer = right; inner = left }))
    else (if is_same_name alias.kind other.kind then Some (record { outer = left; inner = right }) else None)

abbrev pub if_columns : Token → List Token → List Token → Option Pair
if_columns alias left right = table_of_column left >>= λ table. table_of_column right >>= λ other. paired alias left right table other

abbrev pub after_column : Token → List Token → List Token → Option Pair
after_column alias left [] = None
after_column alias left (word ∷ right) = if is_equals word.kind then if_columns alias left right else None

-- a.k = t.j or t.j = a.k, unless it comes after the AND of BETWEEN
abbrev pub pair_in : Token → Bool → List Token → Option Pair
pair_in alias is_after tokens = if is_after then None else after_column alias (take 3 tokens) (drop 3 tokens)

abbrev pub with_pair : Option Pair → List Pair → List Pair
with_pair None pairs = pairs
with_pair (Some pair) pairs = pair ∷ pairs

-- the pairs among conjuncts
abbrev pub pairs_in : Token → Bool → List Conjunct → List Pair
pairs_in alias is_after [] = []
pairs_in alias is_after (conjunct ∷ conjuncts) = with_pair (pair_in alias is_after conjunct.test) (pairs_in alias (stands extent.Between conjunct.test) conjuncts)

abbrev pub unless_pair : Conjunct → Option Pair → List Conjunct → List Conjunct
unless_pair conjunct None conjuncts = conjunct ∷ conjuncts
unless_pair conjunct (Some pair) conjuncts = conjuncts

-- the other conjuncts
abbrev pub others_in : Token → Bool → List Conjunct → List Conjunct
others_in alias is_after [] = []
others_in alias is_after (conjunct ∷ conjuncts) = unless_pair conjunct (pair_in alias is_after conjunct.test) (others_in alias (stands extent.Between conjunct.test) conjuncts)

-- no column of another table
abbrev pub is_own : Token → List Token → Bool
is_own alias [] = true
is_own alias (name ∷ tokens) = if begins is_dot tokens && not (is_same_name alias.kind name.kind) then false else is_own alias tokens

abbrev pub are_own : Token → List Conjunct → Bool
are_own alias [] = true
are_own alias (conjunct ∷ conjuncts) = if is_own alias conjunct.test then are_own alias conjuncts else false

-- there is a pair, and nothing else is compared with another table's column
abbrev pub parted : Token → Pieces → List Pair → List Conjunct → Token → Option Membership
parted word select [] others alias = None
parted word select (pair ∷ pairs) others alias =
    if are_own alias others then
    Some (record { test = test.Exists; word = word; pairs = pair ∷ pairs; select = select.select; tables = select.tables; conjuncts = others; clauses = [] })
    else None

abbrev pub with_conjuncts : Token → Pieces → Token → List Conjunct → Option Membership
with_conjuncts word select alias conjuncts = parted word select (pairs_in alias false conjuncts) (others_in alias false conjuncts) alias

abbrev pub with_conditions : Token → Pieces → List Token → Token → Option Membership
with_conditions word select tokens alias = conjuncts tokens >>= with_conjuncts word select alias

-- The query has one table, and no clause after WHERE. Its items do not matter, but none may be a call: with an aggregate the query always
-- has a row.
abbrev pub exists_query : Token → Pieces → Option Membership
exists_query word select =
    if has clauses.opens select.items || not (is_end (later select)) then None
    else name_of_table select.tables >>= with_conditions word select (conditions select)

-- EXISTS ( query ), and nothing else
abbrev pub exists_at : List Token → Option Membership
exists_at [] = None
exists_at (word ∷ tokens) = if is_exists word.kind then query_in tokens >>= exists_query word else None

-- ---- either

abbrev pub or_else : Option Membership → Option Membership → Option Membership
or_else None other = other
or_else (Some membership) other = Some membership

unfoldable pub membership_at : List Token → Option Membership
membership_at tokens = or_else (exists_at tokens) (in_at tokens)

-- a conjunct, and the membership that it is, if any
pub record Member : Type 0 where
  pub conjunct : Conjunct
  pub membership : Option Membership

-- a conjunct as it is read; the tokens after the AND of BETWEEN are not looked at
abbrev pub member_of : Bool → Conjunct → Member
member_of is_after conjunct = record { conjunct = conjunct; membership = (if is_after then None else membership_at conjunct.test) }

-- the conjuncts as they are read
abbrev pub members : Bool → List Conjunct → List Member
members is_after [] = []
members is_after (conjunct ∷ conjuncts) = member_of is_after conjunct ∷ members (stands extent.Between conjunct.test) conjuncts

abbrev pub is_found : Option Membership → Bool
is_found None = false
is_found (Some membership) = true

abbrev pub has_membership : List Member → Bool
has_membership [] = false
has_membership (member ∷ members) = if is_found member.membership then true else has_membership members
