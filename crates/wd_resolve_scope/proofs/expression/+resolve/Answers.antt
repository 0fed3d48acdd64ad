use Rattle.std.proofs.Common.{◌≡◌, ◌∙◌, sym, ap, map, refl, Ok, Err}
use Rattle.std.proofs.lemmas.Result.{err_from_is_err_and}
use Rattle.wd_syntax.specs.declared.expression.Expr.TheViews.{out-Window}
use Rattle.wd_syntax.specs.Tree.{Binary, Call, Case, window, trees_of, arms_of, keys_of}
use Rattle.wd_syntax.specs.View.{view, view_link, view_arm, view_key, view_window, view_over_option, view_else_option, chained}
use Rattle.wd_syntax.proofs.Rows.{view_call, view_case, view_chain}
use Rattle.wd_resolve_scope.specs.declared.context.Place.TheVariants as Place
use Rattle.wd_resolve_call.specs.References.{operand_of}
use Rattle.wd_resolve_scope.specs.Resolving.{context_of, resolved, all_resolved, all_settled, arguments_in, arms_resolved, keys_resolved, window_resolved, moved_to}
use Rattle.wd_resolve_operand.specs.Causes.{◌>>=◌}
use Rattle.wd_resolve_scope.specs.Parts.{chain_meant, link_meant}
use Rattle.wd_resolve_operand.proofs.Cases.{fails_too}
use Rattle.wd_resolve_scope.proofs.Chains.{chain_ends}
use Rattle.wd_resolve_scope.proofs.Rolled.{view_window_out}
use Rattle.wd_resolve_scope.proofs.expression.+resolve.Goals as goal

pub resolve_expression-returns-in_err-arguments-in-Call : goal.resolve_expression-returns-in_err-arguments-in-Call
resolve_expression-returns-in_err-arguments-in-Call t c =
    let context = context_of c.args.context.now in
    let name = c.in-Call.name in
    let over = c.in-Call.over in
    let trees = trees_of (map view c.deref.result.now) in
    let shown : view c.args.tree.now ≡ Call name trees (view_over_option over) = ap view c.in-Call.is ∙ view_call name c.in-Call.arguments over ∙ ap (λ xs. Call name (trees_of (map view xs)) (view_over_option over)) (sym c.deref.ensures.value) in
    let p = err_from_is_err_and c.from_residual.result c.from_residual.ensures.1 in
    rw (p.1, p.2) (rw shown (fails_too c.in_err-arguments-in-Call.field-0.0 (all_resolved (context_of c.arguments_in.result) trees) (resolved context (Call name trees (view_over_option over))) c.in_err-arguments-in-Call.ensures (λ cause h. (let g : all_resolved (arguments_in context name (view_over_option over)) trees ≡ Err cause = ap (λ d. all_resolved d trees) (sym c.arguments_in.ensures) ∙ h in rw g refl))))

pub resolve_expression-returns-in_ok-arguments-in-Call : goal.resolve_expression-returns-in_ok-arguments-in-Call
resolve_expression-returns-in_ok-arguments-in-Call t c =
    let name = c.in-Call.name in
    let over = c.in-Call.over in
    let trees = trees_of (map view c.deref.result.now) in
    let shown : view c.args.tree.now ≡ Call name trees (view_over_option over) = ap view c.in-Call.is ∙ view_call name c.in-Call.arguments over ∙ ap (λ xs. Call name (trees_of (map view xs)) (view_over_option over)) (sym c.deref.ensures.value) in
    let g = ap (λ d. all_resolved d trees) (sym c.arguments_in.ensures) ∙ c.in_ok-arguments-in-Call.ensures in
    rw shown (rw g c.call_over-in-Call.ensures)

pub resolve_expression-returns-in_err-arms-in-Case : goal.resolve_expression-returns-in_err-arms-in-Case
resolve_expression-returns-in_err-arms-in-Case t c =
    let context = context_of c.args.context.now in
    let other = c.in-Case.other in
    let shown : view c.args.tree.now ≡ Case (arms_of (map view_arm c.deref-in-Case.result.now)) (view_else_option other) = ap view c.in-Case.is ∙ view_case c.in-Case.arms other ∙ ap (λ xs. Case (arms_of (map view_arm xs)) (view_else_option other)) (sym c.deref-in-Case.ensures.value) in
    let p = err_from_is_err_and c.from_residual-in_err-arms-in-Case.result c.from_residual-in_err-arms-in-Case.ensures.1 in
    rw (p.1, p.2) (rw shown (fails_too c.in_err-arms-in-Case.field-0.0 (arms_resolved context (arms_of (map view_arm c.deref-in-Case.result.now))) (resolved context (Case (arms_of (map view_arm c.deref-in-Case.result.now)) (view_else_option other))) c.in_err-arms-in-Case.ensures (λ cause h. rw h refl)))

pub resolve_expression-returns-in_ok-arms-in-Case : goal.resolve_expression-returns-in_ok-arms-in-Case
resolve_expression-returns-in_ok-arms-in-Case t c =
    let other = c.in-Case.other in
    let shown : view c.args.tree.now ≡ Case (arms_of (map view_arm c.deref-in-Case.result.now)) (view_else_option other) = ap view c.in-Case.is ∙ view_case c.in-Case.arms other ∙ ap (λ xs. Case (arms_of (map view_arm xs)) (view_else_option other)) (sym c.deref-in-Case.ensures.value) in
    rw shown (rw c.in_ok-arms-in-Case.ensures c.end_case.ensures)

pub resolve_expression-returns-in_err-first-in-Chain : goal.resolve_expression-returns-in_err-first-in-Chain
resolve_expression-returns-in_err-first-in-Chain t c =
    let context = context_of c.args.context.now in
    let first = view c.deref-in-Chain.result.now in
    let before = map view_link c.in-Chain.before.items in
    let last = view_link c.in-Chain.last.value in
    let shown : view c.args.tree.now ≡ Binary last.0 (chained first before) last.1 = ap view c.in-Chain.is ∙ view_chain c.in-Chain.first c.in-Chain.before c.in-Chain.last ∙ ap (λ a. Binary last.0 (chained (view a) before) last.1) (sym c.deref-in-Chain.ensures) in
    let whole = ap (resolved context) shown ∙ chain_ends context first before last in
    let p = err_from_is_err_and c.from_residual-in_err-first-in-Chain.result c.from_residual-in_err-first-in-Chain.ensures.1 in
    rw (p.1, p.2) (rw whole (fails_too c.in_err-first-in-Chain.field-0.0 (resolved context first) (resolved context first >>= λ x. chain_meant context before x >>= λ y. link_meant context last y) c.in_err-first-in-Chain.ensures (λ cause h. rw h refl)))

pub resolve_expression-returns-in_err-left-in-Chain : goal.resolve_expression-returns-in_err-left-in-Chain
resolve_expression-returns-in_err-left-in-Chain t c =
    let context = context_of c.args.context.now in
    let first = view c.deref-in-Chain.result.now in
    let before = map view_link c.deref-in-Chain-2.result.now in
    let last = view_link c.in-Chain.last.value in
    let shown : view c.args.tree.now ≡ Binary last.0 (chained first before) last.1 = ap view c.in-Chain.is ∙ view_chain c.in-Chain.first c.in-Chain.before c.in-Chain.last ∙ ap (λ a. Binary last.0 (chained (view a) (map view_link c.in-Chain.before.items)) last.1) (sym c.deref-in-Chain.ensures) ∙ ap (λ xs. Binary last.0 (chained first (map view_link xs)) last.1) (sym c.deref-in-Chain-2.ensures.value) in
    let whole = ap (resolved context) shown ∙ chain_ends context first before last in
    let p = err_from_is_err_and c.from_residual-in_err-left-in-Chain.result c.from_residual-in_err-left-in-Chain.ensures.1 in
    rw (p.1, p.2) (rw whole (fails_too c.in_err-left-in-Chain.field-0.0 (chain_meant context before (operand_of c.in_ok-first-in-Chain.first)) (resolved context first >>= λ x. chain_meant context before x >>= λ y. link_meant context last y) c.in_err-left-in-Chain.ensures (λ cause h. rw c.in_ok-first-in-Chain.ensures (rw h refl))))

pub resolve_expression-returns-in_ok-left-in-Chain : goal.resolve_expression-returns-in_ok-left-in-Chain
resolve_expression-returns-in_ok-left-in-Chain t c =
    let context = context_of c.args.context.now in
    let first = view c.deref-in-Chain.result.now in
    let before = map view_link c.deref-in-Chain-2.result.now in
    let last = view_link c.deref-in-Chain-3.result.now in
    let shown : view c.args.tree.now ≡ Binary last.0 (chained first before) last.1 = ap view c.in-Chain.is ∙ view_chain c.in-Chain.first c.in-Chain.before c.in-Chain.last ∙ ap (λ a. Binary c.in-Chain.last.value.operator (chained (view a) (map view_link c.in-Chain.before.items)) (view c.in-Chain.last.value.operand)) (sym c.deref-in-Chain.ensures) ∙ ap (λ xs. Binary c.in-Chain.last.value.operator (chained first (map view_link xs)) (view c.in-Chain.last.value.operand)) (sym c.deref-in-Chain-2.ensures.value) ∙ ap (λ l. Binary (view_link l).0 (chained first before) (view_link l).1) (sym c.deref-in-Chain-3.ensures) in
    let whole = ap (resolved context) shown ∙ chain_ends context first before last in
    rw whole (rw c.in_ok-first-in-Chain.ensures (rw c.in_ok-left-in-Chain.ensures c.resolve_last.ensures))

pub resolve_written_window-returns-in_err-operands : goal.resolve_written_window-returns-in_err-operands
resolve_written_window-returns-in_err-operands t c =
    let context = context_of c.args.context.now in
    let w = out-Window c.args.window.now in
    let trees = trees_of (map view c.deref.result.now) in
    let keys = keys_of (map view_key w.order.items) in
    let shown : view_window c.args.window.now ≡ window w.base trees keys w.frame = view_window_out c.args.window.now ∙ ap (λ xs. window w.base (trees_of (map view xs)) keys w.frame) (sym c.deref.ensures.value) in
    let p = err_from_is_err_and c.from_residual-in_err-operands.result c.from_residual-in_err-operands.ensures.1 in
    rw (p.1, p.2) (rw shown (fails_too c.in_err-operands.field-0.0 (all_resolved (context_of c.moved_to-inside.result) trees) (window_resolved context (window w.base trees keys w.frame)) c.in_err-operands.ensures (λ cause h. (let g : all_resolved (moved_to Place.Window context) trees ≡ Err cause = ap (λ d. all_resolved d trees) (sym c.moved_to-inside.ensures) ∙ h in rw c.in_ok-base.ensures (rw g refl)))))

pub resolve_written_window-returns-in_err-partition : goal.resolve_written_window-returns-in_err-partition
resolve_written_window-returns-in_err-partition t c =
    let context = context_of c.args.context.now in
    let w = out-Window c.args.window.now in
    let trees = trees_of (map view c.deref.result.now) in
    let keys = keys_of (map view_key w.order.items) in
    let xs = map operand_of c.deref-2.result.now in
    let shown : view_window c.args.window.now ≡ window w.base trees keys w.frame = view_window_out c.args.window.now ∙ ap (λ ts. window w.base (trees_of (map view ts)) keys w.frame) (sym c.deref.ensures.value) in
    let g : all_resolved (moved_to Place.Window context) trees ≡ Ok xs = ap (λ d. all_resolved d trees) (sym c.moved_to-inside.ensures) ∙ c.in_ok-operands.ensures ∙ ap (λ ys. Ok (map operand_of ys)) (sym c.deref-2.ensures.value) in
    let p = err_from_is_err_and c.from_residual-in_err-partition.result c.from_residual-in_err-partition.ensures.1 in
    rw (p.1, p.2) (rw shown (fails_too c.in_err-partition.field-0.0 (all_settled xs) (window_resolved context (window w.base trees keys w.frame)) c.in_err-partition.ensures (λ cause h. rw c.in_ok-base.ensures (rw g (rw h refl)))))

pub resolve_written_window-returns-in_err-order : goal.resolve_written_window-returns-in_err-order
resolve_written_window-returns-in_err-order t c =
    let context = context_of c.args.context.now in
    let w = out-Window c.args.window.now in
    let trees = trees_of (map view c.deref.result.now) in
    let keys = keys_of (map view_key c.deref-3.result.now) in
    let xs = map operand_of c.deref-2.result.now in
    let shown : view_window c.args.window.now ≡ window w.base trees keys w.frame = view_window_out c.args.window.now ∙ ap (λ ts. window w.base (trees_of (map view ts)) (keys_of (map view_key w.order.items)) w.frame) (sym c.deref.ensures.value) ∙ ap (λ ks. window w.base trees (keys_of (map view_key ks)) w.frame) (sym c.deref-3.ensures.value) in
    let g : all_resolved (moved_to Place.Window context) trees ≡ Ok xs = ap (λ d. all_resolved d trees) (sym c.moved_to-inside.ensures) ∙ c.in_ok-operands.ensures ∙ ap (λ ys. Ok (map operand_of ys)) (sym c.deref-2.ensures.value) in
    let p = err_from_is_err_and c.from_residual-in_err-order.result c.from_residual-in_err-order.ensures.1 in
    rw (p.1, p.2) (rw shown (fails_too c.in_err-order.field-0.0 (keys_resolved (context_of c.moved_to-inside.result) keys) (window_resolved context (window w.base trees keys w.frame)) c.in_err-order.ensures (λ cause h. (let k = ap (λ d. keys_resolved d keys) (sym c.moved_to-inside.ensures) ∙ h in rw c.in_ok-base.ensures (rw g (rw c.in_ok-partition.ensures (rw k refl)))))))

pub resolve_written_window-returns : goal.resolve_written_window-returns
resolve_written_window-returns t c =
    let context = context_of c.args.context.now in
    let w = out-Window c.args.window.now in
    let trees = trees_of (map view c.deref.result.now) in
    let keys = keys_of (map view_key c.deref-3.result.now) in
    let xs = map operand_of c.deref-2.result.now in
    let shown : view_window c.args.window.now ≡ window w.base trees keys w.frame = view_window_out c.args.window.now ∙ ap (λ ts. window w.base (trees_of (map view ts)) (keys_of (map view_key w.order.items)) w.frame) (sym c.deref.ensures.value) ∙ ap (λ ks. window w.base trees (keys_of (map view_key ks)) w.frame) (sym c.deref-3.ensures.value) in
    let g : all_resolved (moved_to Place.Window context) trees ≡ Ok xs = ap (λ d. all_resolved d trees) (sym c.moved_to-inside.ensures) ∙ c.in_ok-operands.ensures ∙ ap (λ ys. Ok (map operand_of ys)) (sym c.deref-2.ensures.value) in
    let k = ap (λ d. keys_resolved d keys) (sym c.moved_to-inside.ensures) ∙ c.in_ok-order.ensures in
    rw shown (rw c.in_ok-base.ensures (rw g (rw c.in_ok-partition.ensures (rw k c.resolve_window.ensures))))
