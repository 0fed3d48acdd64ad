use Rattle.std.proofs.Common.{◌≡◌, ◌∙◌, List, ap, rules, subst, sym}
use Rattle.std.proofs.lemmas.Result.{IfOk-weaker}
use Rattle.wd_joined.specs.Alike.{AreAlikeIn}
use Rattle.wd_joined.specs.Pairs.{rows_paired}
use Rattle.wd_plan.specs.Outcomes.{pairs}
use Rattle.wd_value.specs.Rows.{Row}
use Rattle.wd_nodes.specs.Relation.{relation_of, stored_rows_of}
use Rattle.wd_nodes.proofs.Reading.{alike_again, alike_paired, alike_pairs}
use Rattle.wd_nodes.proofs.marked.+store_marked.Goals as goal

pub returns-in_ok-pairs-in-Pairs : goal.returns-in_ok-pairs-in-Pairs
returns-in_ok-pairs-in-Pairs t c =
    let marks = c.args.marks.now in
    let tables = c.args.tables.now in
    let all : List Row = relation_of tables c.in-Pairs.left.value in
    let some : List Row = stored_rows_of tables c.in_ok-left-in-Pairs.left in
    let right : List Row = stored_rows_of tables c.in-Pairs.right in
    let found = c.in_ok-pairs-in-Pairs.pairs.items in
    let inner : c.into_inner.result ≡ c.in-Pairs.left.value = search rules in
    let below = subst (λ p. AreAlikeIn marks some (relation_of tables p)) inner c.in_ok-left-in-Pairs.ensures in
    let made : rows_paired some right found ≡ pairs some right =
    (λ i. rows_paired (sym c.source.ensures i) (sym c.source-in-Pairs.ensures i) found) ∙ c.in_ok-pairs-in-Pairs.ensures ∙ (λ i. pairs (c.source.ensures i) (c.source-in-Pairs.ensures i)) in
    let paired : rows_paired some right c.deref.result.now ≡ pairs some right = ap (rows_paired some right) c.deref.ensures.value ∙ made in
    rw c.in-Pairs.is (IfOk-weaker c.marked_pairs.result _ (λ s. AreAlikeIn marks (stored_rows_of tables s) (pairs all right))
    (λ s alike. alike_again marks (stored_rows_of tables s) (pairs some right) (pairs all right) (subst (AreAlikeIn marks (stored_rows_of tables s)) paired alike) (alike_pairs marks some all right below))
    c.marked_pairs.ensures)

pub returns-in_ok-left-in-Joined : goal.returns-in_ok-left-in-Joined
returns-in_ok-left-in-Joined t c =
    let marks = c.args.marks.now in
    let tables = c.args.tables.now in
    let all : List Row = stored_rows_of tables c.in-Joined.left in
    let some : List Row = stored_rows_of tables c.in_ok-left-in-Joined.left in
    let right : List Row = stored_rows_of tables c.in-Joined.right in
    let found = c.in-Joined.pairs.items in
    rw c.in-Joined.is (IfOk-weaker c.marked_pairs-in-Joined.result _ (λ s. AreAlikeIn marks (stored_rows_of tables s) (rows_paired all right found))
    (λ s alike. alike_again marks (stored_rows_of tables s) (rows_paired some right found) (rows_paired all right found)
    (subst (λ ps. AreAlikeIn marks (stored_rows_of tables s) (rows_paired some right ps)) c.deref-in-Joined.ensures.value alike)
    (alike_paired marks some all right (c.in_ok-left-in-Joined.ensures tables) found))
    c.marked_pairs-in-Joined.ensures)
