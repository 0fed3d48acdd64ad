-- Queries as pure data, regardless of memory.
use Rattle.std.specs.Prelude.{◌⊎◌, List, [], ◌∷◌, Bool, Option}
use Rattle.wd_read_cursor.specs.declared.name.Name.{Name}
use Rattle.wd_syntax.specs.declared.frame.Frame.{Frame}
use Rattle.wd_syntax.specs.declared.expression.Operator.{Operator}
use Rattle.wd_syntax.specs.declared.expression.Sign.{Sign}
use Rattle.wd_syntax.specs.declared.expression.Literal.{Literal}
use Rattle.wd_syntax.specs.declared.expression.SortDirection.{SortDirection}
use Rattle.wd_syntax.specs.declared.expression.NullsPlace.{NullsPlace}
use Rattle.wd_syntax.specs.declared.query.Alias.{Alias}
use Rattle.wd_syntax.specs.declared.query.GroupColumn.{GroupColumn}
use Rattle.wd_syntax.specs.declared.query.GroupingWord.{GroupingWord}
use Rattle.wd_syntax.specs.declared.query.Quantifier.{Quantifier}
use Rattle.wd_syntax.specs.declared.query.Limits.{Limits}

mutual
  -- an expression
  pub data Tree : Type 0 where
    Constant : Literal → Tree
    Column : Name → Tree
    Qualified : Name → Name → Tree
    CallAll : Name → OverTree → Tree
    Call : Name → Trees → OverTree → Tree
    Case : Arms → Otherwise → Tree
    Bracket : Tree → Tree
    Signed : Sign → Tree → Tree
    Binary : Operator → Tree → Tree → Tree
    IsNull : Tree → Bool → Tree
    Negated : Tree → Tree

  pub data Trees : Type 0 where
    no_trees : Trees
    more_trees : Tree → Trees → Trees

  -- WHEN .. THEN ..
  pub data Arms : Type 0 where
    no_arms : Arms
    more_arms : (when gives : Tree) → Arms → Arms

  -- ELSE ..
  pub data Otherwise : Type 0 where
    no_else : Otherwise
    or_else : Tree → Otherwise

  -- OVER ..
  pub data OverTree : Type 0 where
    no_over : OverTree
    over_name : Name → OverTree
    over_window : WindowTree → OverTree

  pub data WindowTree : Type 0 where
    window : (base : Option Name) (partition : Trees) (order : Keys) (frame : Option Frame) → WindowTree

  -- the expressions that rows are sorted by
  pub data Keys : Type 0 where
    no_keys : Keys
    more_keys : Tree → Option SortDirection → Option NullsPlace → Keys → Keys

-- a member of a select list
pub data ItemTree : Type 0 where
  all_columns : ItemTree
  all_of : Name → ItemTree
  shown : Tree → Option Alias → ItemTree

-- columns that rows are grouped by together
pub data SetTree : Type 0 where
  one_column : GroupColumn → SetTree
  -- in brackets
  columns : List GroupColumn → SetTree

-- a member of GROUP BY
pub data GroupTree : Type 0 where
  grouped_by : SetTree → GroupTree
  -- ROLLUP, CUBE or GROUPING SETS
  constructed : GroupingWord → List SetTree → GroupTree

-- GROUP BY and HAVING
pub record GroupingTree : Type 0 where
  pub items : List GroupTree
  pub having : Option Tree

-- what follows the FROM of a select
pub record Tail : Type 0 where
  pub filter : Option Tree
  pub grouping : GroupingTree
  pub windows : List (Name × WindowTree)
  pub order : Keys
  pub limits : Option Limits

-- a select without its FROM
pub record Parts : Type 0 where
  pub quantifier : Option Quantifier
  pub items : List ItemTree
  pub tail : Tail

mutual
  pub data TableTree : Type 0 where
    named : Name → Option Alias → TableTree
    derived : SelectTree → Alias → TableTree

  pub data JoinTree : Type 0 where
    comma : TableTree → JoinTree
    cross : TableTree → JoinTree
    inner : Bool → TableTree → Tree → JoinTree

  pub data Joins : Type 0 where
    no_joins : Joins
    more_joins : JoinTree → Joins → Joins

  pub data SelectTree : Type 0 where
    select : Parts → (first : TableTree) (joins : Joins) → SelectTree

-- a select, and whether a semicolon ends it
pub data QueryTree : Type 0 where
  query : SelectTree → Bool → QueryTree

-- lists of one kind
abbrev pub Key : Type 0
Key = Tree × Option SortDirection × Option NullsPlace

abbrev pub trees_of : List Tree → Trees
trees_of [] = no_trees
trees_of (a ∷ xs) = more_trees a (trees_of xs)

abbrev pub arms_of : List (Tree × Tree) → Arms
arms_of [] = no_arms
arms_of (a ∷ xs) = more_arms a.0 a.1 (arms_of xs)

abbrev pub keys_of : List Key → Keys
keys_of [] = no_keys
keys_of (a ∷ xs) = more_keys a.0 a.1 a.2 (keys_of xs)

abbrev pub joins_of : List JoinTree → Joins
joins_of [] = no_joins
joins_of (a ∷ xs) = more_joins a (joins_of xs)

-- a property of each element
abbrev pub Each : {A : Type 0} → (A → Type 0) → List A → Type 0
Each P [] = Unit {0}
Each P (a ∷ xs) = P a × Each P xs

-- a property of at least one element
abbrev pub One : {A : Type 0} → (A → Type 0) → List A → Type 0
One P [] = ⊥
One P (a ∷ xs) = P a ⊎ One P xs
