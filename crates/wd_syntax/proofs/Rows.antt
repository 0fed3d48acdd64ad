-- What the trees of the code show of their vectors.
use Rattle.std.proofs.Common.{◌≡◌, List, map, Option, Some, None, refl, ap, ◌∙◌, Vec, Global}
use Rattle.std.specs.Global.{Box}
use mathlib.Core.Former.{Count}
use Rattle.wd_read_cursor.specs.declared.name.Name.{Name}
use Rattle.wd_syntax.specs.declared.frame.Frame.{Frame}
use Rattle.wd_syntax.specs.declared.expression.Expr.{Expr, Row_of-Expr, end_of-Expr, more_of-Expr, Row_of-Arm, end_of-Arm, more_of-Arm, items-the_row-Expr, items-the_row-Arm, Row_of-Link, end_of-Link, more_of-Link, items-the_row-Link, items_hidden-the_row-Link-2, items_hidden-the_row-Expr-0, items_hidden-the_row-Arm-1}
use Rattle.wd_syntax.specs.declared.expression.Expr.TheVariants as e
use Rattle.wd_syntax.specs.declared.expression.Over.{Over}
use Rattle.wd_syntax.specs.declared.expression.Arm.{Arm}
use Rattle.wd_syntax.specs.declared.expression.Link.{Link}
use Rattle.wd_syntax.specs.declared.expression.SortKey.{SortKey}
use Rattle.wd_syntax.specs.declared.expression.Window.{Window, Window', Row_of-SortKey, end_of-SortKey, more_of-SortKey, items-the_row-SortKey, items_hidden-the_row-SortKey-3, roll-Window}
use Rattle.wd_syntax.specs.Tree.{Tree, Binary, CallAll, Call, Case, Trees, more_trees, Arms, more_arms, Keys, more_keys, window, trees_of, arms_of, keys_of}
use Rattle.wd_syntax.specs.declared.query.Alias.{Alias}
use Rattle.wd_syntax.specs.declared.query.Select.{Select}
use Rattle.wd_syntax.specs.declared.query.Joined.{Joined}
use Rattle.wd_syntax.specs.declared.query.Table.{Table, Row_of-Joined, end_of-Joined, more_of-Joined, items-the_row-Joined, items_hidden-the_row-Joined-0}
use Rattle.wd_syntax.specs.declared.query.Table.TheVariants as b
use Rattle.wd_syntax.specs.Tree.{Joins, more_joins, joins_of, derived, select}
use Rattle.wd_syntax.specs.View.{view_parts, view_table, view_joined, view_join_row, view_select}
use Rattle.wd_syntax.specs.View.{view_links, view_link, chained, view, view_row, view_arm_row, view_key_row, view_arm, view_key, view_window, view_over_option, view_else_option}

row_trees : (n : _) (row : Row_of-Expr n) → view_row row ≡ trees_of (map view (items-the_row-Expr n row))
row_trees _ end_of-Expr = refl
row_trees _ (more_of-Expr a row) = ap (λ (z : Trees). more_trees (view a) z) (row_trees _ row)

row_arms : (n : _) (row : Row_of-Arm n) → view_arm_row row ≡ arms_of (map view_arm (items-the_row-Arm n row))
row_arms _ end_of-Arm = refl
row_arms _ (more_of-Arm when gives row) = ap (λ (z : Arms). more_arms (view when) (view gives) z) (row_arms _ row)

row_links : (n : _) (a : Tree) (row : Row_of-Link n) → view_links a row ≡ chained a (map view_link (items-the_row-Link n row))
row_links _ a end_of-Link = refl
row_links _ a (more_of-Link o b row) = row_links _ (Binary o a (view b)) row

row_keys : (n : _) (row : Row_of-SortKey n) → view_key_row row ≡ keys_of (map view_key (items-the_row-SortKey n row))
row_keys _ end_of-SortKey = refl
row_keys _ (more_of-SortKey a direction nulls row) = ap (λ (z : Keys). more_keys (view a) direction nulls z) (row_keys _ row)

abbrev arguments_of : Expr → (n : Count) × Row_of-Expr n
arguments_of (e.Call' f shape row over) = (_, row)
arguments_of _ = (_, end_of-Expr)

abbrev arms_in : Expr → (n : Count) × Row_of-Arm n
arms_in (e.Case' shape row other) = (_, row)
arms_in _ = (_, end_of-Arm)

abbrev links_in : Expr → (n : Count) × Row_of-Link n
links_in (e.Chain' p a shape row q o b) = (_, row)
links_in _ = (_, end_of-Link)

pub view_chain : (first : Box Expr) (xs : Vec Link Global) (last : Box Link) → view (e.Chain first xs last) ≡ Binary last.value.operator (chained (view first.value) (map view_link xs.items)) (view last.value.operand)
view_chain first xs last =
    let row = links_in (e.Chain first xs last) in
    ap (λ (z : Tree). Binary last.value.operator z (view last.value.operand))
    (row_links row.0 (view first.value) row.1 ∙ ap (λ (z : List Link). chained (view first.value) (map view_link z)) (items_hidden-the_row-Link-2 xs))

abbrev partition_of : Window → (n : Count) × Row_of-Expr n
partition_of (Window' base shape partition shape' order frame) = (_, partition)

abbrev order_of : Window → (n : Count) × Row_of-SortKey n
order_of (Window' base shape partition shape' order frame) = (_, order)

pub view_call_all : (f : Name) (over : Option (Box Over)) → view (e.CallAll f over) ≡ CallAll f (view_over_option over)
view_call_all f None = refl
view_call_all f (Some b) = refl

pub view_call : (f : Name) (xs : Vec Expr Global) (over : Option (Box Over)) → view (e.Call f xs over) ≡ Call f (trees_of (map view xs.items)) (view_over_option over)
view_call f xs None =
    let row = arguments_of (e.Call f xs None) in
    ap (λ (z : Trees). Call f z (view_over_option None)) (row_trees row.0 row.1 ∙ ap (λ (z : List Expr). trees_of (map view z)) (items_hidden-the_row-Expr-0 xs))
view_call f xs (Some b) =
    let row = arguments_of (e.Call f xs (Some b)) in
    ap (λ (z : Trees). Call f z (view_over_option (Some b))) (row_trees row.0 row.1 ∙ ap (λ (z : List Expr). trees_of (map view z)) (items_hidden-the_row-Expr-0 xs))

pub view_case : (xs : Vec Arm Global) (other : Option (Box Expr)) → view (e.Case xs other) ≡ Case (arms_of (map view_arm xs.items)) (view_else_option other)
view_case xs None =
    let row = arms_in (e.Case xs None) in
    ap (λ (z : Arms). Case z (view_else_option None)) (row_arms row.0 row.1 ∙ ap (λ (z : List Arm). arms_of (map view_arm z)) (items_hidden-the_row-Arm-1 xs))
view_case xs (Some b) =
    let row = arms_in (e.Case xs (Some b)) in
    ap (λ (z : Arms). Case z (view_else_option (Some b))) (row_arms row.0 row.1 ∙ ap (λ (z : List Arm). arms_of (map view_arm z)) (items_hidden-the_row-Arm-1 xs))

pub view_window_is : (base : Option Name) (partition : Vec Expr Global) (order : Vec SortKey Global) (frame : Option Frame) → view_window (roll-Window (record { base = base; partition = partition; order = order; frame = frame })) ≡ window base (trees_of (map view partition.items)) (keys_of (map view_key order.items)) frame
unfolding Rattle.wd_syntax.specs.declared.expression.Expr.TheBlock.hidden-the_row-Expr-0 roll-Window denote.Hole.Carrier.roll
view_window_is base partition order frame =
    let w = roll-Window (record { base = base; partition = partition; order = order; frame = frame }) in
    let first = partition_of w in
    let second = order_of w in
    ap (λ (z : Trees). window base z (view_key_row second.1) frame) (row_trees first.0 first.1 ∙ ap (λ (z : List Expr). trees_of (map view z)) (items_hidden-the_row-Expr-0 partition))
    ∙ ap (λ (z : Keys). window base (trees_of (map view partition.items)) z frame) (row_keys second.0 second.1 ∙ ap (λ (z : List SortKey). keys_of (map view_key z)) (items_hidden-the_row-SortKey-3 order))

row_joins : (n : _) (row : Row_of-Joined n) → view_join_row row ≡ joins_of (map view_joined (items-the_row-Joined n row))
row_joins _ end_of-Joined = refl
row_joins _ (more_of-Joined join row) = ap (λ (z : Joins). more_joins (view_joined join) z) (row_joins _ row)

abbrev joins_in : Table → (n : Count) × Row_of-Joined n
joins_in (b.Derived' p quantifier items first shape row filter grouping windows order limits alias) = (_, row)
joins_in _ = (_, end_of-Joined)

pub view_derived : (s : Box Select) (alias : Alias) → view_table (b.Derived s alias) ≡ derived (view_select s.value) alias
view_derived s alias =
    let row = joins_in (b.Derived s alias) in
    let v = s.value in
    ap (λ (z : Joins). derived (select (view_parts v) (view_table v.from.first) z) alias)
    (row_joins row.0 row.1 ∙ ap (λ (z : List Joined). joins_of (map view_joined z)) (items_hidden-the_row-Joined-0 v.from.joined))
