use Rattle.std.proofs.Common.{◌≡◌, ◌∙◌, List, ap, subst, sym, rules}
use Rattle.std.proofs.lemmas.Result.{IfOk-weaker}
use Rattle.wd_value.specs.Rows.{Row}
use Rattle.wd_plan.specs.Expressions.{expression_of}
use Rattle.wd_plan.specs.Outcomes.{pairs}
use Rattle.wd_join.specs.Joins.{AreEnough}
use Rattle.wd_joined.specs.Pairs.{rows_paired}
use Rattle.wd_nodes.specs.Relation.{relation_of, stored_rows_of}
use Rattle.wd_nodes.proofs.Enough.{AreEnough-pairs}
use Rattle.wd_nodes.proofs.relation.+narrow.Goals as goal

pub returns-in_ok-pairs-in-Pairs : goal.returns-in_ok-pairs-in-Pairs
returns-in_ok-pairs-in-Pairs t c =
    let e = expression_of c.args.condition.now in
    let tables = c.args.tables.now in
    let all : List Row = relation_of tables c.in-Pairs.left.value in
    let some : List Row = stored_rows_of tables c.in_ok-left-in-Pairs.left in
    let right : List Row = stored_rows_of tables c.in-Pairs.right in
    let second : List Row = c.source-in-Pairs.result in
    let found = c.in_ok-pairs-in-Pairs.pairs.items in
    let inner : c.into_inner.result ≡ c.in-Pairs.left.value = search rules in
    let below = subst (λ p. AreEnough e (relation_of tables p) some) inner c.in_ok-left-in-Pairs.ensures in
    let on_left = subst (λ (ls : List Row). AreEnough e (pairs ls second) (rows_paired ls second found)) c.source.ensures c.in_ok-pairs-in-Pairs.ensures in
    let paired = subst (λ (rs : List Row). AreEnough e (pairs some rs) (rows_paired some rs found)) c.source-in-Pairs.ensures on_left in
    let enough = AreEnough-pairs e all some right (rows_paired some right found) below paired in
    rw c.in-Pairs.is (IfOk-weaker c.store_pairs.result _ (λ s. AreEnough e (pairs all right) (stored_rows_of tables s))
    (λ s is. subst (AreEnough e (pairs all right)) (sym (is ∙ ap (rows_paired some right) c.deref.ensures.value)) enough) c.store_pairs.ensures)
