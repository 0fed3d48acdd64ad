-- How a query is spelled: the tokens of a tree, and those after it.
use Rattle.std.specs.Prelude.{ℕ, Bool, true, false, List, [], ◌∷◌, Option, Some, None}
use Rattle.wd_lex.specs.declared.token.Terminal.TheVariants as m
use Rattle.wd_lex.specs.declared.token.TokenKind.TheVariants as t
use Rattle.wd_read_cursor.specs.declared.words.KeyWord.TheVariants as k
use Rattle.wd_read_cursor.specs.declared.name.Name.{Name}
use Rattle.wd_syntax.specs.declared.frame.Frame.{Frame}
use Rattle.wd_syntax.specs.declared.frame.FrameMode.{FrameMode}
use Rattle.wd_syntax.specs.declared.frame.FrameMode.TheVariants.{Rows, Range, Groups}
use Rattle.wd_syntax.specs.declared.frame.Bound.{Bound}
use Rattle.wd_syntax.specs.declared.frame.Bound.TheVariants.{UnboundedPreceding, Preceding, CurrentRow, Following, UnboundedFollowing}
use Rattle.wd_syntax.specs.declared.frame.Extent.{Extent}
use Rattle.wd_syntax.specs.declared.frame.Extent.TheVariants.{Start, Between}
use Rattle.wd_syntax.specs.declared.frame.Exclusion.{Exclusion}
use Rattle.wd_syntax.specs.declared.frame.Exclusion.TheVariants as x
use Rattle.wd_syntax.specs.declared.expression.SortDirection.{SortDirection}
use Rattle.wd_syntax.specs.declared.expression.SortDirection.TheVariants.{Ascending, Descending}
use Rattle.wd_syntax.specs.declared.expression.NullsPlace.{NullsPlace}
use Rattle.wd_syntax.specs.declared.expression.NullsPlace.TheVariants as p
use Rattle.wd_syntax.specs.declared.query.Alias.{Alias}
use Rattle.wd_syntax.specs.declared.query.GroupColumn.{GroupColumn}
use Rattle.wd_syntax.specs.declared.query.GroupingWord.{GroupingWord}
use Rattle.wd_syntax.specs.declared.query.GroupingWord.TheVariants.{Rollup, Cube, Sets}
use Rattle.wd_syntax.specs.declared.query.Quantifier.{Quantifier}
use Rattle.wd_syntax.specs.declared.query.Quantifier.TheVariants as q
use Rattle.wd_syntax.specs.declared.query.RowWord.{RowWord}
use Rattle.wd_syntax.specs.declared.query.RowWord.TheVariants as r
use Rattle.wd_syntax.specs.declared.query.FetchWord.{FetchWord}
use Rattle.wd_syntax.specs.declared.query.FetchWord.TheVariants as f
use Rattle.wd_syntax.specs.declared.query.Offset.{Offset}
use Rattle.wd_syntax.specs.declared.query.Count.{Count}
use Rattle.wd_syntax.specs.declared.query.Count.TheVariants.{Limit, Fetch}
use Rattle.wd_syntax.specs.declared.query.Limits.{Limits}
use Rattle.wd_syntax.specs.declared.query.Limits.TheVariants.{OffsetFirst, CountFirst}
use Rattle.wd_read_cursor.specs.Tokens.{Kinds, ◌▸◌, ◌▹◌, name_kind}
use Rattle.wd_syntax.specs.Tokens.{literal_kind, operator_terminal, sign_terminal}
use Rattle.wd_syntax.specs.Tree.{Tree, Constant, Column, Qualified, CallAll, Call, Case, Bracket, Signed, Binary, IsNull, Negated, Trees, no_trees, more_trees, Arms, no_arms, more_arms, Otherwise, no_else, or_else, OverTree, no_over, over_name, over_window, WindowTree, window, Keys, no_keys, more_keys, ItemTree, all_columns, all_of, shown, SetTree, one_column, columns, GroupTree, grouped_by, constructed, GroupingTree, Tail, TableTree, named, derived, JoinTree, comma, cross, inner, Joins, no_joins, more_joins, SelectTree, select, QueryTree, query}

-- ---- frames

abbrev pub mode_onto : FrameMode → Kinds → Kinds
mode_onto Rows ts = m.Rows ▸ ts
mode_onto Range ts = m.Range ▸ ts
mode_onto Groups ts = m.Groups ▸ ts

abbrev pub bound_onto : Bound → Kinds → Kinds
bound_onto UnboundedPreceding ts = k.Unbounded ▹ k.Preceding ▹ ts
bound_onto (Preceding n) ts = t.Number n ∷ (k.Preceding ▹ ts)
bound_onto CurrentRow ts = k.Current ▹ k.Row ▹ ts
bound_onto (Following n) ts = t.Number n ∷ (k.Following ▹ ts)
bound_onto UnboundedFollowing ts = k.Unbounded ▹ k.Following ▹ ts

abbrev pub extent_onto : Extent → Kinds → Kinds
extent_onto (Start a) ts = bound_onto a ts
extent_onto (Between a b) ts = k.Between ▹ bound_onto a (m.And ▸ bound_onto b ts)

abbrev pub excluded_onto : Exclusion → Kinds → Kinds
excluded_onto x.CurrentRow ts = k.Current ▹ k.Row ▹ ts
excluded_onto x.Group ts = m.Group ▸ ts
excluded_onto x.Ties ts = k.Ties ▹ ts
excluded_onto x.NoOthers ts = k.No ▹ k.Others ▹ ts

abbrev pub exclusion_onto : Option Exclusion → Kinds → Kinds
exclusion_onto None ts = ts
exclusion_onto (Some e) ts = k.Exclude ▹ excluded_onto e ts

abbrev pub frame_onto : Option Frame → Kinds → Kinds
frame_onto None ts = ts
frame_onto (Some f) ts = mode_onto f.mode (extent_onto f.extent (exclusion_onto f.exclusion ts))

-- ---- sort keys

abbrev pub direction_onto : Option SortDirection → Kinds → Kinds
direction_onto None ts = ts
direction_onto (Some Ascending) ts = m.Asc ▸ ts
direction_onto (Some Descending) ts = m.Desc ▸ ts

abbrev pub nulls_onto : Option NullsPlace → Kinds → Kinds
nulls_onto None ts = ts
nulls_onto (Some p.First) ts = k.Nulls ▹ k.First ▹ ts
nulls_onto (Some p.Last) ts = k.Nulls ▹ k.Last ▹ ts

-- ---- expressions

abbrev pub not_onto : Bool → Kinds → Kinds
not_onto true ts = m.Not ▸ ts
not_onto false ts = ts

abbrev pub base_onto : Option Name → Kinds → Kinds
base_onto None ts = ts
base_onto (Some n) ts = name_kind n ∷ ts

abbrev mutual
  pub onto : Tree → Kinds → Kinds
  onto (Constant l) ts = literal_kind l ∷ ts
  onto (Column a) ts = name_kind a ∷ ts
  onto (Qualified a b) ts = name_kind a ∷ (m.Dot ▸ (name_kind b ∷ ts))
  onto (CallAll f over) ts = name_kind f ∷ (m.LeftBracket ▸ m.Star ▸ m.RightBracket ▸ over_onto over ts)
  onto (Call f bs over) ts = name_kind f ∷ (m.LeftBracket ▸ list_onto bs (m.RightBracket ▸ over_onto over ts))
  onto (Case arms other) ts = m.Case ▸ arms_onto arms (else_onto other (m.End ▸ ts))
  onto (Bracket a) ts = m.LeftBracket ▸ onto a (m.RightBracket ▸ ts)
  onto (Signed s a) ts = sign_terminal s ▸ onto a ts
  onto (Binary o a b) ts = onto a (operator_terminal o ▸ onto b ts)
  onto (IsNull a not) ts = onto a (m.Is ▸ not_onto not (m.Null ▸ ts))
  onto (Negated a) ts = m.Not ▸ onto a ts

  -- expr {, expr}
  pub list_onto : Trees → Kinds → Kinds
  list_onto no_trees ts = ts
  list_onto (more_trees a bs) ts = onto a (more_onto bs ts)

  pub more_onto : Trees → Kinds → Kinds
  more_onto no_trees ts = ts
  more_onto (more_trees a bs) ts = m.Comma ▸ onto a (more_onto bs ts)

  pub arms_onto : Arms → Kinds → Kinds
  arms_onto no_arms ts = ts
  arms_onto (more_arms when gives arms) ts = m.When ▸ onto when (m.Then ▸ onto gives (arms_onto arms ts))

  pub else_onto : Otherwise → Kinds → Kinds
  else_onto no_else ts = ts
  else_onto (or_else a) ts = m.Else ▸ onto a ts

  pub over_onto : OverTree → Kinds → Kinds
  over_onto no_over ts = ts
  over_onto (over_name n) ts = m.Over ▸ (name_kind n ∷ ts)
  over_onto (over_window w) ts = m.Over ▸ m.LeftBracket ▸ window_onto w (m.RightBracket ▸ ts)

  -- [name] [PARTITION BY ..] [ORDER BY ..] [frame]
  pub window_onto : WindowTree → Kinds → Kinds
  window_onto (window base partition order frame) ts = base_onto base (partition_onto partition (order_onto order (frame_onto frame ts)))

  pub partition_onto : Trees → Kinds → Kinds
  partition_onto no_trees ts = ts
  partition_onto (more_trees a bs) ts = m.Partition ▸ m.By ▸ onto a (more_onto bs ts)

  pub order_onto : Keys → Kinds → Kinds
  order_onto no_keys ts = ts
  order_onto (more_keys a direction nulls keys) ts = m.Order ▸ m.By ▸ onto a (direction_onto direction (nulls_onto nulls (more_keys_onto keys ts)))

  pub more_keys_onto : Keys → Kinds → Kinds
  more_keys_onto no_keys ts = ts
  more_keys_onto (more_keys a direction nulls keys) ts = m.Comma ▸ onto a (direction_onto direction (nulls_onto nulls (more_keys_onto keys ts)))

-- ---- selects

abbrev pub quantifier_onto : Option Quantifier → Kinds → Kinds
quantifier_onto None ts = ts
quantifier_onto (Some q.All) ts = m.All ▸ ts
quantifier_onto (Some q.Distinct) ts = m.Distinct ▸ ts

abbrev pub as_onto : Bool → Kinds → Kinds
as_onto true ts = m.As ▸ ts
as_onto false ts = ts

abbrev pub given_onto : Alias → Kinds → Kinds
given_onto alias ts = as_onto alias.with_as (name_kind alias.name ∷ ts)

abbrev pub alias_onto : Option Alias → Kinds → Kinds
alias_onto None ts = ts
alias_onto (Some alias) ts = given_onto alias ts

abbrev pub item_onto : ItemTree → Kinds → Kinds
item_onto all_columns ts = m.Star ▸ ts
item_onto (all_of n) ts = name_kind n ∷ (m.Dot ▸ m.Star ▸ ts)
item_onto (shown a alias) ts = onto a (alias_onto alias ts)

abbrev pub more_items_onto : List ItemTree → Kinds → Kinds
more_items_onto [] ts = ts
more_items_onto (a ∷ items) ts = m.Comma ▸ item_onto a (more_items_onto items ts)

abbrev pub items_onto : List ItemTree → Kinds → Kinds
items_onto [] ts = ts
items_onto (a ∷ items) ts = item_onto a (more_items_onto items ts)

abbrev pub filter_onto : Option Tree → Kinds → Kinds
filter_onto None ts = ts
filter_onto (Some a) ts = m.Where ▸ onto a ts

-- the rest of a list, with a comma before each member
abbrev pub commas_onto : {A : Type 0} → (A → Kinds → Kinds) → List A → Kinds → Kinds
commas_onto one [] ts = ts
commas_onto one (a ∷ xs) ts = m.Comma ▸ one a (commas_onto one xs ts)

-- a list, with commas between its members
abbrev pub members_onto : {A : Type 0} → (A → Kinds → Kinds) → List A → Kinds → Kinds
members_onto one [] ts = ts
members_onto one (a ∷ xs) ts = one a (commas_onto one xs ts)

abbrev pub qualifier_onto : Option Name → Kinds → Kinds
qualifier_onto None ts = ts
qualifier_onto (Some n) ts = name_kind n ∷ (m.Dot ▸ ts)

abbrev pub group_column_onto : GroupColumn → Kinds → Kinds
group_column_onto c ts = qualifier_onto c.table (name_kind c.name ∷ ts)

abbrev pub set_onto : SetTree → Kinds → Kinds
set_onto (one_column c) ts = group_column_onto c ts
set_onto (columns cs) ts = m.LeftBracket ▸ members_onto group_column_onto cs (m.RightBracket ▸ ts)

abbrev pub grouping_word_onto : GroupingWord → Kinds → Kinds
grouping_word_onto Rollup ts = k.Rollup ▹ ts
grouping_word_onto Cube ts = k.Cube ▹ ts
grouping_word_onto Sets ts = k.Grouping ▹ k.Sets ▹ ts

abbrev pub group_item_onto : GroupTree → Kinds → Kinds
group_item_onto (grouped_by s) ts = set_onto s ts
group_item_onto (constructed word sets) ts = grouping_word_onto word (m.LeftBracket ▸ members_onto set_onto sets (m.RightBracket ▸ ts))

abbrev pub group_onto : List GroupTree → Kinds → Kinds
group_onto [] ts = ts
group_onto (a ∷ items) ts = m.Group ▸ m.By ▸ group_item_onto a (commas_onto group_item_onto items ts)

abbrev pub having_onto : Option Tree → Kinds → Kinds
having_onto None ts = ts
having_onto (Some a) ts = m.Having ▸ onto a ts

abbrev pub grouping_onto : GroupingTree → Kinds → Kinds
grouping_onto g ts = group_onto g.items (having_onto g.having ts)

-- name AS ( .. )
abbrev pub named_window_onto : Name × WindowTree → Kinds → Kinds
named_window_onto w ts = name_kind w.0 ∷ (m.As ▸ m.LeftBracket ▸ window_onto w.1 (m.RightBracket ▸ ts))

abbrev pub more_windows_onto : List (Name × WindowTree) → Kinds → Kinds
more_windows_onto [] ts = ts
more_windows_onto (w ∷ windows) ts = m.Comma ▸ named_window_onto w (more_windows_onto windows ts)

abbrev pub windows_onto : List (Name × WindowTree) → Kinds → Kinds
windows_onto [] ts = ts
windows_onto (w ∷ windows) ts = m.Window ▸ named_window_onto w (more_windows_onto windows ts)

abbrev pub row_onto : RowWord → Kinds → Kinds
row_onto r.Row ts = k.Row ▹ ts
row_onto r.Rows ts = m.Rows ▸ ts

abbrev pub row_option_onto : Option RowWord → Kinds → Kinds
row_option_onto None ts = ts
row_option_onto (Some w) ts = row_onto w ts

abbrev pub offset_onto : Offset → Kinds → Kinds
offset_onto o ts = m.Offset ▸ (t.Number o.number ∷ row_option_onto o.word ts)

abbrev pub fetch_onto : FetchWord → Kinds → Kinds
fetch_onto f.First ts = k.First ▹ ts
fetch_onto f.Next ts = k.Next ▹ ts

abbrev pub number_onto : Option ℕ → Kinds → Kinds
number_onto None ts = ts
number_onto (Some n) ts = t.Number n ∷ ts

abbrev pub ties_onto : Bool → Kinds → Kinds
ties_onto true ts = m.With ▸ k.Ties ▹ ts
ties_onto false ts = k.Only ▹ ts

abbrev pub count_onto : Count → Kinds → Kinds
count_onto (Limit n) ts = m.Limit ▸ (t.Number n ∷ ts)
count_onto (Fetch first number row with_ties) ts = m.Fetch ▸ fetch_onto first (number_onto number (row_onto row (ties_onto with_ties ts)))

abbrev pub offset_option_onto : Option Offset → Kinds → Kinds
offset_option_onto None ts = ts
offset_option_onto (Some o) ts = offset_onto o ts

abbrev pub count_option_onto : Option Count → Kinds → Kinds
count_option_onto None ts = ts
count_option_onto (Some c) ts = count_onto c ts

abbrev pub limits_onto : Option Limits → Kinds → Kinds
limits_onto None ts = ts
limits_onto (Some (OffsetFirst o c)) ts = offset_onto o (count_option_onto c ts)
limits_onto (Some (CountFirst c o)) ts = count_onto c (offset_option_onto o ts)

-- what follows FROM
abbrev pub tail_onto : Tail → Kinds → Kinds
tail_onto tail ts = filter_onto tail.filter (grouping_onto tail.grouping (windows_onto tail.windows (order_onto tail.order (limits_onto tail.limits ts))))

abbrev mutual
  pub table_onto : TableTree → Kinds → Kinds
  table_onto (named n alias) ts = name_kind n ∷ alias_onto alias ts
  table_onto (derived s alias) ts = m.LeftBracket ▸ select_onto s (m.RightBracket ▸ given_onto alias ts)

  pub join_onto : JoinTree → Kinds → Kinds
  join_onto (comma table) ts = m.Comma ▸ table_onto table ts
  join_onto (cross table) ts = m.Cross ▸ m.Join ▸ table_onto table ts
  join_onto (inner true table on) ts = m.Inner ▸ m.Join ▸ table_onto table (m.On ▸ onto on ts)
  join_onto (inner false table on) ts = m.Join ▸ table_onto table (m.On ▸ onto on ts)

  pub joins_onto : Joins → Kinds → Kinds
  joins_onto no_joins ts = ts
  joins_onto (more_joins join joins) ts = join_onto join (joins_onto joins ts)

  pub select_onto : SelectTree → Kinds → Kinds
  select_onto (select parts first joins) ts = m.Select ▸ quantifier_onto parts.quantifier (items_onto parts.items (m.From ▸ table_onto first (joins_onto joins (tail_onto parts.tail ts))))

abbrev pub end_onto : Bool → Kinds
end_onto true = m.Semicolon ▸ []
end_onto false = []

-- the tokens of a query
abbrev pub spell : QueryTree → Kinds
spell (query s semicolon) = select_onto s (end_onto semicolon)
