-- Whether an aggregate or GROUPING stands in a tree of the code.
use Rattle.std.proofs.Common.{◌≡◌, ◌∙◌, ap, refl, sym, Bool, true, false, ◌||◌, List, [], ◌∷◌, map, Option, Vec, Global}
use Rattle.std.specs.Global.{Box}
use Rattle.std.specs.List.{list_any}
use Rattle.std.proofs.Math.Bool.{or_assoc}
use Rattle.wd_read_cursor.specs.declared.name.Name.{Name}
use Rattle.wd_syntax.specs.declared.expression.Arm.{Arm}
use Rattle.wd_syntax.specs.declared.expression.Expr.{Expr}
use Rattle.wd_syntax.specs.declared.expression.Expr.TheVariants as e
use Rattle.wd_syntax.specs.declared.expression.Link.{Link}
use Rattle.wd_syntax.specs.declared.expression.Operator.{Operator}
use Rattle.wd_syntax.specs.declared.expression.Over.{Over}
use Rattle.wd_syntax.specs.declared.expression.Over.TheVariants as v
use Rattle.wd_syntax.specs.declared.expression.Expr.TheViews.{out-Window}
use Rattle.wd_syntax.specs.declared.expression.Window.{Window, Window'}
use Rattle.wd_syntax.specs.Tree.{Tree, Binary, Call, Case, IsNull, arms_of, keys_of, trees_of}
use Rattle.wd_syntax.specs.View.{chained, tested, view, view_arm, view_else_option, view_key, view_link, view_over, view_over_option, view_window}
use Rattle.wd_syntax.proofs.Rows.{view_call, view_case, view_chain}
use Rattle.wd_resolve_scope.specs.Grouped.{arms_have, else_has, has_group_call, is_group_call, keys_have, over_has, some_has, window_has}
use Rattle.wd_resolve_scope.proofs.Rolled.{view_window_out}

or_false : (a : Bool) → a ≡ (a || false)
or_false true = refl
or_false false = refl

pub tests_have : (a : Tree) (nots : List Bool) → has_group_call (tested a nots) ≡ has_group_call a
tests_have a [] = refl
tests_have a (not ∷ nots) = tests_have (IsNull a not) nots

chain_has : (a : Tree) (links : List (Operator × Tree)) → has_group_call (chained a links) ≡ (has_group_call a || list_any (λ (l : Operator × Tree). has_group_call l.1) links)
chain_has a [] = or_false (has_group_call a)
chain_has a (l ∷ links) = chain_has (Binary l.0 a l.1) links ∙ or_assoc (has_group_call a) (has_group_call l.1) (list_any (λ (m : Operator × Tree). has_group_call m.1) links)

links_are : (links : List Link) → list_any (λ (l : Operator × Tree). has_group_call l.1) (map view_link links) ≡ list_any (λ (link : Link). has_group_call (view link.operand)) links
links_are [] = refl
links_are (l ∷ links) = ap (λ b. has_group_call (view l.operand) || b) (links_are links)

pub call_has : (f : Name) (xs : Vec Expr Global) (over : Option (Box Over)) → has_group_call (view (e.Call f xs over)) ≡ (is_group_call f (view_over_option over) || (some_has (trees_of (map view xs.items)) || over_has (view_over_option over)))
call_has f xs over = ap has_group_call (view_call f xs over)

pub case_has : (xs : Vec Arm Global) (other : Option (Box Expr)) → has_group_call (view (e.Case xs other)) ≡ (arms_have (arms_of (map view_arm xs.items)) || else_has (view_else_option other))
case_has xs other = ap has_group_call (view_case xs other)

pub chain_ends_have : (first : Box Expr) (xs : Vec Link Global) (last : Box Link) → has_group_call (view (e.Chain first xs last)) ≡ (has_group_call (view first.value) || (list_any (λ (link : Link). has_group_call (view link.operand)) xs.items || has_group_call (view last.value.operand)))
chain_ends_have first xs last =
    ap has_group_call (view_chain first xs last)
    ∙ ap (λ b. b || has_group_call (view last.value.operand)) (chain_has (view first.value) (map view_link xs.items) ∙ ap (λ b. has_group_call (view first.value) || b) (links_are xs.items))
    ∙ or_assoc (has_group_call (view first.value)) (list_any (λ (link : Link). has_group_call (view link.operand)) xs.items) (has_group_call (view last.value.operand))

pub window_is : (w : Window) → window_has (view_window w) ≡ (some_has (trees_of (map view (out-Window w).partition.items)) || keys_have (keys_of (map view_key (out-Window w).order.items)))
window_is w = ap window_has (view_window_out w)

pub no_group_call : (f : Name) (over : Over) → is_group_call f (view_over over) ≡ false
no_group_call f (v.Name n) = refl
no_group_call f (v.Window (Window' base shape partition shape' order frame)) = refl
