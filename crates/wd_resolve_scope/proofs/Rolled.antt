-- What a window of the code shows of its lists.
use Rattle.std.proofs.Common.{◌≡◌, ◌∙◌, sym, map, ap}
use Rattle.wd_syntax.specs.declared.expression.Expr.TheViews.{out-Window, roll-out-Window}
use Rattle.wd_syntax.specs.declared.expression.Window.{Window}
use Rattle.wd_syntax.specs.Tree.{window, trees_of, keys_of}
use Rattle.wd_syntax.specs.View.{view, view_key, view_window}
use Rattle.wd_syntax.proofs.Rows.{view_window_is}

pub view_window_out : (w : Window) → view_window w ≡ window (out-Window w).base (trees_of (map view (out-Window w).partition.items)) (keys_of (map view_key (out-Window w).order.items)) (out-Window w).frame
view_window_out w = ap view_window (sym (roll-out-Window w)) ∙ view_window_is (out-Window w).base (out-Window w).partition (out-Window w).order (out-Window w).frame
