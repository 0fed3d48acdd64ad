-- Well-levelled trees: each operand binds at least as tightly as its place requires, and no list that needs a member is empty.
use Rattle.std.specs.Prelude.{ℕ, ◌≤◌, ◌<◌, ◌==◌, if◌then◌else◌, List, [], ◌∷◌, Option, Some, None}
use Rattle.wd_syntax.specs.declared.expression.Operator.{Operator}
use Rattle.wd_syntax.specs.declared.expression.Height.{Height}
use Rattle.wd_syntax.specs.declared.expression.Height.TheVariants as h
use Rattle.wd_syntax.specs.declared.query.GroupingWord.{GroupingWord}
use Rattle.wd_syntax.specs.declared.query.GroupingWord.TheVariants.{Rollup, Cube, Sets}
use Rattle.wd_syntax.specs.Tokens.{binding, operator_height, rank}
use Rattle.wd_syntax.specs.Tree.{Tree, Constant, Column, Qualified, CallAll, Call, Case, Bracket, Signed, Binary, IsNull, Negated, Trees, no_trees, more_trees, Arms, no_arms, more_arms, Otherwise, no_else, or_else, OverTree, no_over, over_name, over_window, WindowTree, window, Keys, no_keys, more_keys, ItemTree, all_columns, all_of, shown, SetTree, one_column, columns, GroupTree, grouped_by, constructed, GroupingTree, TableTree, named, derived, JoinTree, comma, cross, inner, Joins, no_joins, more_joins, SelectTree, select, QueryTree, query, Each}

abbrev pub height_of : Tree → Height
height_of (Signed s a) = h.Sign
height_of (Binary o a b) = binding o
height_of (IsNull a not) = h.Test
height_of (Negated a) = h.Negation
height_of _ = h.Primary

abbrev pub height : Tree → ℕ
height a = rank (height_of a)

-- the loosest height of a left operand: a chain may continue its own height, a comparison may not
abbrev pub left_height : Operator → ℕ
left_height o = if operator_height o == rank h.Comparison then rank h.Sum else operator_height o

abbrev pub IsSomeArm : Arms → Type 0
IsSomeArm no_arms = ⊥
IsSomeArm (more_arms when gives arms) = Unit {0}

abbrev mutual
  pub IsLevelled : Tree → Type 0
  IsLevelled (Constant l) = Unit {0}
  IsLevelled (Column a) = Unit {0}
  IsLevelled (Qualified a b) = Unit {0}
  IsLevelled (CallAll f over) = OverLevelled over
  IsLevelled (Call f bs over) = AreLevelled bs × OverLevelled over
  IsLevelled (Case arms other) = IsSomeArm arms × ArmsLevelled arms × ElseLevelled other
  IsLevelled (Bracket a) = IsLevelled a
  IsLevelled (Signed s a) = IsLevelled a × (height a ≤ rank h.Sign)
  IsLevelled (Binary o a b) = IsLevelled a × (height a ≤ left_height o) × IsLevelled b × (height b < operator_height o)
  IsLevelled (IsNull a not) = IsLevelled a × (height a ≤ rank h.Test)
  IsLevelled (Negated a) = IsLevelled a × (height a ≤ rank h.Negation)

  pub AreLevelled : Trees → Type 0
  AreLevelled no_trees = Unit {0}
  AreLevelled (more_trees a bs) = IsLevelled a × AreLevelled bs

  pub ArmsLevelled : Arms → Type 0
  ArmsLevelled no_arms = Unit {0}
  ArmsLevelled (more_arms when gives arms) = IsLevelled when × IsLevelled gives × ArmsLevelled arms

  pub ElseLevelled : Otherwise → Type 0
  ElseLevelled no_else = Unit {0}
  ElseLevelled (or_else a) = IsLevelled a

  pub OverLevelled : OverTree → Type 0
  OverLevelled no_over = Unit {0}
  OverLevelled (over_name n) = Unit {0}
  OverLevelled (over_window w) = WindowLevelled w

  pub WindowLevelled : WindowTree → Type 0
  WindowLevelled (window base partition order frame) = AreLevelled partition × KeysLevelled order

  pub KeysLevelled : Keys → Type 0
  KeysLevelled no_keys = Unit {0}
  KeysLevelled (more_keys a direction nulls keys) = IsLevelled a × KeysLevelled keys

-- ---- selects

abbrev pub ItemLevelled : ItemTree → Type 0
ItemLevelled all_columns = Unit {0}
ItemLevelled (all_of n) = Unit {0}
ItemLevelled (shown a alias) = IsLevelled a

abbrev pub IsSomeItem : List ItemTree → Type 0
IsSomeItem [] = ⊥
IsSomeItem (a ∷ items) = Unit {0}

abbrev pub OptionLevelled : Option Tree → Type 0
OptionLevelled None = Unit {0}
OptionLevelled (Some a) = IsLevelled a

-- a list that has a member
abbrev pub IsSome : {A : Type 0} → List A → Type 0
IsSome [] = ⊥
IsSome (a ∷ xs) = Unit {0}

-- the set has a column
abbrev pub HasColumn : SetTree → Type 0
HasColumn (one_column c) = Unit {0}
HasColumn (columns cs) = IsSome cs

-- what may appear between the brackets of the word: no empty set where sets are made of the sets
abbrev pub MayStandIn : GroupingWord → SetTree → Type 0
MayStandIn Rollup s = HasColumn s
MayStandIn Cube s = HasColumn s
MayStandIn Sets s = Unit {0}

abbrev pub GroupLevelled : GroupTree → Type 0
GroupLevelled (grouped_by s) = Unit {0}
GroupLevelled (constructed word sets) = IsSome sets × Each (MayStandIn word) sets

abbrev pub GroupingLevelled : GroupingTree → Type 0
GroupingLevelled g = Each GroupLevelled g.items × OptionLevelled g.having

abbrev mutual
  pub TableLevelled : TableTree → Type 0
  TableLevelled (named n alias) = Unit {0}
  TableLevelled (derived s alias) = SelectLevelled s

  pub JoinLevelled : JoinTree → Type 0
  JoinLevelled (comma table) = TableLevelled table
  JoinLevelled (cross table) = TableLevelled table
  JoinLevelled (inner with_inner table on) = TableLevelled table × IsLevelled on

  pub JoinsLevelled : Joins → Type 0
  JoinsLevelled no_joins = Unit {0}
  JoinsLevelled (more_joins join joins) = JoinLevelled join × JoinsLevelled joins

  pub SelectLevelled : SelectTree → Type 0
  SelectLevelled (select parts first joins) =
      IsSomeItem parts.items × Each ItemLevelled parts.items × TableLevelled first × JoinsLevelled joins × OptionLevelled parts.tail.filter × GroupingLevelled parts.tail.grouping × Each (λ w. WindowLevelled w.1) parts.tail.windows × KeysLevelled parts.tail.order

abbrev pub IsWellLevelled : QueryTree → Type 0
IsWellLevelled (query s semicolon) = SelectLevelled s
