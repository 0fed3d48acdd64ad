-- What the trees of the code show.
use Rattle.std.specs.Prelude.{List, Bool, [], ◌∷◌, Option, Some, None, map}
use Rattle.std.specs.Global.{Box}
use Rattle.wd_syntax.specs.declared.expression.Expr.{Expr, Row_of-Expr, end_of-Expr, more_of-Expr, Row_of-Arm, end_of-Arm, more_of-Arm, Row_of-Link, end_of-Link, more_of-Link, Held-Expr-Case-1, Held-Expr-CallAll-1, Expr-Case-1-Some', Expr-Case-1-None', Expr-CallAll-1-Some', Expr-CallAll-1-None'}
use Rattle.wd_syntax.specs.declared.expression.Expr.TheVariants as e
use Rattle.wd_syntax.specs.declared.expression.Over.{Over}
use Rattle.wd_syntax.specs.declared.expression.Over.TheVariants as v
use Rattle.wd_syntax.specs.declared.expression.Arm.{Arm}
use Rattle.wd_syntax.specs.declared.expression.Link.{Link}
use Rattle.wd_syntax.specs.declared.expression.Operator.{Operator}
use Rattle.wd_syntax.specs.declared.expression.Window.{Window, Window', Row_of-SortKey, end_of-SortKey, more_of-SortKey}
use Rattle.wd_syntax.specs.declared.expression.SortKey.{SortKey}
use Rattle.wd_syntax.specs.Tree.{Tree, Constant, Column, Qualified, CallAll, Call, Case, Bracket, Signed, Binary, IsNull, Negated, Trees, no_trees, more_trees, Arms, no_arms, more_arms, Otherwise, no_else, or_else, OverTree, no_over, over_name, over_window, WindowTree, window, Keys, no_keys, more_keys, Key, keys_of, joins_of, ItemTree, all_columns, all_of, shown, SetTree, one_column, columns, GroupTree, grouped_by, constructed, GroupingTree, Parts, TableTree, named, derived, JoinTree, comma, cross, inner, Joins, no_joins, more_joins, SelectTree, select, QueryTree, query}
use Rattle.wd_read_cursor.specs.declared.name.Name.{Name}
use Rattle.wd_syntax.specs.declared.query.Item.{Item}
use Rattle.wd_syntax.specs.declared.query.Item.TheVariants as i
use Rattle.wd_syntax.specs.declared.query.GroupingSet.{GroupingSet}
use Rattle.wd_syntax.specs.declared.query.GroupingSet.TheVariants as g
use Rattle.wd_syntax.specs.declared.query.GroupItem.{GroupItem}
use Rattle.wd_syntax.specs.declared.query.GroupItem.TheVariants as u
use Rattle.wd_syntax.specs.declared.query.Grouping.{Grouping}
use Rattle.wd_syntax.specs.declared.query.NamedWindow.{NamedWindow}
use Rattle.wd_syntax.specs.declared.query.Table.{Table, Row_of-Joined, end_of-Joined, more_of-Joined}
use Rattle.wd_syntax.specs.declared.query.Table.TheVariants as b
use Rattle.wd_syntax.specs.declared.query.Joined.{Joined}
use Rattle.wd_syntax.specs.declared.query.Joined.TheVariants as j
use Rattle.wd_syntax.specs.declared.query.Limits.{Limits}
use Rattle.wd_syntax.specs.declared.query.Quantifier.{Quantifier}
use Rattle.wd_syntax.specs.declared.query.Select.{Select}
use Rattle.wd_syntax.specs.declared.query.Query.{Query}

-- tests for NULL, one after another
abbrev pub tested : Tree → List Bool → Tree
tested a [] = a
tested a (not ∷ nots) = tested (IsNull a not) nots

-- operators and their right operands, one after another
abbrev pub chained : Tree → List (Operator × Tree) → Tree
chained a [] = a
chained a (x ∷ xs) = chained (Binary x.0 a x.1) xs

abbrev mutual
  pub view : Expr → Tree
  view (e.Literal x) = Constant x
  view (e.Column a) = Column a
  view (e.Qualified a b) = Qualified a b
  view (e.CallAll' f over) = CallAll f (view_held over)
  view (e.Call' f shape row over) = Call f (view_row row) (view_held over)
  view (e.Case' shape row other) = Case (view_arm_row row) (view_else other)
  view (e.Bracket' p a) = Bracket (view a)
  view (e.Signed' s p a) = Signed s (view a)
  view (e.Compare' o p a q b) = Binary o (view a) (view b)
  view (e.Chain' p a shape row q o b) = Binary o (view_links (view a) row) (view b)
  view (e.Tests' p a nots not) = IsNull (tested (view a) nots.items) not
  view (e.Not' p a) = Negated (view a)

  -- operators and their right operands, over what is to their left
  pub view_links : {m : _} → Tree → Row_of-Link m → Tree
  view_links a end_of-Link = a
  view_links a (more_of-Link o b row) = view_links (Binary o a (view b)) row

  pub view_row : {m : _} → Row_of-Expr m → Trees
  view_row end_of-Expr = no_trees
  view_row (more_of-Expr a row) = more_trees (view a) (view_row row)

  pub view_arm_row : {m : _} → Row_of-Arm m → Arms
  view_arm_row end_of-Arm = no_arms
  view_arm_row (more_of-Arm when gives row) = more_arms (view when) (view gives) (view_arm_row row)

  pub view_else : Held-Expr-Case-1 → Otherwise
  view_else Expr-Case-1-None' = no_else
  view_else (Expr-Case-1-Some' p a) = or_else (view a)

  pub view_held : Held-Expr-CallAll-1 → OverTree
  view_held Expr-CallAll-1-None' = no_over
  view_held (Expr-CallAll-1-Some' p w) = view_over w

  pub view_over : Over → OverTree
  view_over (v.Name n) = over_name n
  view_over (v.Window (Window' base shape partition shape' order frame)) = over_window (window base (view_row partition) (view_key_row order) frame)

  pub view_key_row : {m : _} → Row_of-SortKey m → Keys
  view_key_row end_of-SortKey = no_keys
  view_key_row (more_of-SortKey a direction nulls row) = more_keys (view a) direction nulls (view_key_row row)

abbrev pub view_window : Window → WindowTree
view_window (Window' base shape partition shape' order frame) = window base (view_row partition) (view_key_row order) frame

abbrev pub view_over_option : Option (Box Over) → OverTree
view_over_option None = no_over
view_over_option (Some b) = view_over b.value

abbrev pub view_else_option : Option (Box Expr) → Otherwise
view_else_option None = no_else
view_else_option (Some b) = or_else (view b.value)

abbrev pub view_link : Link → Operator × Tree
view_link link = (link.operator, view link.operand)

abbrev pub view_arm : Arm → Tree × Tree
view_arm arm = (view arm.when, view arm.gives)

abbrev pub view_key : SortKey → Key
view_key key = (view key.expr, key.direction, key.nulls)

abbrev pub view_option : Option Expr → Option Tree
view_option None = None
view_option (Some a) = Some (view a)

abbrev pub view_item : Item → ItemTree
view_item i.All = all_columns
view_item (i.AllOf n) = all_of n
view_item (i.Expr a alias) = shown (view a) alias

abbrev pub view_set : GroupingSet → SetTree
view_set (g.Column c) = one_column c
view_set (g.Columns cs) = columns cs.items

abbrev pub view_group_item : GroupItem → GroupTree
view_group_item (u.Set s) = grouped_by (view_set s)
view_group_item (u.Sets word sets) = constructed word (map view_set sets.items)

abbrev pub view_grouping : Grouping → GroupingTree
view_grouping g = record { items = map view_group_item g.items.items; having = view_option g.having }

abbrev pub view_named_window : NamedWindow → Name × WindowTree
view_named_window w = (w.name, view_window w.window)

-- what the parts of a select show, without its FROM
abbrev pub parts_of : Option Quantifier → List Item → Option Expr → Grouping → List NamedWindow → List SortKey → Option Limits → Parts
parts_of quantifier items filter grouping windows order limits =
    record { quantifier = quantifier; items = map view_item items; tail = record { filter = view_option filter; grouping = view_grouping grouping; windows = map view_named_window windows; order = keys_of (map view_key order); limits = limits } }

abbrev mutual
  pub view_table : Table → TableTree
  view_table (b.Named n alias) = named n alias
  view_table (b.Derived' p quantifier items first shape row filter grouping windows order limits alias) =
      derived (select (parts_of quantifier items.items filter grouping windows.items order.items limits) (view_table first) (view_join_row row)) alias

  pub view_joined : Joined → JoinTree
  view_joined (j.Comma table) = comma (view_table table)
  view_joined (j.Cross table) = cross (view_table table)
  view_joined (j.Inner with_inner table on) = inner with_inner (view_table table) (view on)

  pub view_join_row : {m : _} → Row_of-Joined m → Joins
  view_join_row end_of-Joined = no_joins
  view_join_row (more_of-Joined join row) = more_joins (view_joined join) (view_join_row row)

abbrev pub view_parts : Select → Parts
view_parts s = parts_of s.quantifier s.items.items s.filter s.grouping s.windows.items s.order.items s.limits

abbrev pub view_select : Select → SelectTree
view_select s = select (view_parts s) (view_table s.from.first) (joins_of (map view_joined s.from.joined.items))

abbrev pub view_query : Query → QueryTree
view_query q = query (view_select q.select) q.semicolon
