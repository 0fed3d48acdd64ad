use Rattle.std.proofs.Common.{◌≡◌, ◌∙◌, ap, map, sym, ◌||◌, List}
use Rattle.std.specs.List.{list_any}
use Rattle.wd_syntax.specs.declared.expression.Expr.{Expr}
use Rattle.wd_syntax.specs.declared.expression.Link.{Link}
use Rattle.wd_syntax.specs.Tree.{trees_of}
use Rattle.wd_syntax.specs.View.{view}
use Rattle.wd_resolve_scope.specs.Grouped.{has_group_call, some_has}
use Rattle.wd_resolve_scope.proofs.GroupCalls.{call_has, chain_ends_have}
use Rattle.wd_resolve_scope.proofs.grouped.+has.Goals as goal

pub has_group_call-returns-in-Call : goal.has_group_call-returns-in-Call
has_group_call-returns-in-Call t c =
    let whole = ap (λ (e : Expr). has_group_call (view e)) c.in-Call.is ∙ call_has c.in-Call.name c.in-Call.arguments c.in-Call.over in
    let inside = c.some_has.ensures ∙ ap (λ (xs : List Expr). some_has (trees_of (map view xs))) c.deref.ensures.value in
    c.any_of.ensures ∙ (λ i. c.is_group_call-in-Call.ensures i || (inside i || c.over_has-in-Call.ensures i)) ∙ sym whole

pub has_group_call-returns-in-Chain : goal.has_group_call-returns-in-Chain
has_group_call-returns-in-Chain t c =
    let whole = ap (λ (e : Expr). has_group_call (view e)) c.in-Chain.is ∙ chain_ends_have c.in-Chain.first c.in-Chain.before c.in-Chain.last in
    let first = c.has_group_call-in-Chain.ensures ∙ ap (λ (e : Expr). has_group_call (view e)) c.deref-in-Chain.ensures in
    let between = c.links_have.ensures ∙ ap (λ (xs : List Link). list_any (λ (link : Link). has_group_call (view link.operand)) xs) c.deref-in-Chain-2.ensures.value in
    let last = c.has_group_call-in-Chain-2.ensures ∙ ap (λ (link : Link). has_group_call (view link.operand)) c.deref-in-Chain-3.ensures in
    c.any_of-in-Chain.ensures ∙ (λ i. first i || (between i || last i)) ∙ sym whole
