use Rattle.std.proofs.Common.{◌≡◌, ◌∙◌, List, ap, map, rules, subst, sym}
use Rattle.std.proofs.lemmas.Result.{IfOk-weaker}
use Rattle.wd_joined.specs.Alike.{AreAlikeIn}
use Rattle.wd_joined.specs.Pairs.{rows_paired}
use Rattle.wd_plan.specs.Expressions.{expression_of}
use Rattle.wd_plan.specs.Outcomes.{map_outcome, pairs}
use Rattle.wd_value.specs.Rows.{Row}
use Rattle.wd_nodes.specs.Relation.{relation_of, relation_or_fault_of, stored_rows_of}
use Rattle.wd_nodes.proofs.Reading.{alike_paired, alike_pairs, same_read}
use Rattle.wd_nodes.proofs.step.map_input.Goals as goal

pub returns-in_ok-pairs-in-Pairs : goal.returns-in_ok-pairs-in-Pairs
returns-in_ok-pairs-in-Pairs c =
    let marks = c.in_ok-marks-in-Pairs.marks.items in
    let tables = c.args.tables.now in
    let outputs = map expression_of c.args.outputs.now in
    let all : List Row = relation_of tables c.in-Pairs.left.value in
    let some : List Row = stored_rows_of tables c.in_ok-left-in-Pairs.left in
    let right : List Row = stored_rows_of tables c.in-Pairs.right in
    let found = c.in_ok-pairs-in-Pairs.pairs.items in
    let inner : c.into_inner.result ≡ c.in-Pairs.left.value = search rules in
    let below = subst (λ there. there) (λ i. AreAlikeIn (c.deref.ensures.value i) some (relation_of tables (inner i))) c.in_ok-left-in-Pairs.ensures in
    let made : rows_paired some right found ≡ pairs some right =
    (λ i. rows_paired (sym c.source.ensures i) (sym c.source-in-Pairs.ensures i) found) ∙ c.in_ok-pairs-in-Pairs.ensures ∙ (λ i. pairs (c.source.ensures i) (c.source-in-Pairs.ensures i)) in
    let same : map_outcome outputs (rows_paired some right c.deref-in-Pairs.result.now) ≡ map_outcome outputs (pairs all right) =
    ap (λ ps. map_outcome outputs (rows_paired some right ps)) c.deref-in-Pairs.ensures.value
    ∙ ap (map_outcome outputs) made
    ∙ same_read marks outputs c.in_ok-marks-in-Pairs.ensures (pairs some right) (pairs all right) (alike_pairs marks some all right below) in
    rw c.in-Pairs.is (IfOk-weaker c.map_pairs.result _ (λ r. relation_or_fault_of tables r ≡ map_outcome outputs (pairs all right)) (λ r is. is ∙ same) c.map_pairs.ensures)

pub returns-in_ok-left-in-Joined : goal.returns-in_ok-left-in-Joined
returns-in_ok-left-in-Joined c =
    let marks = c.in_ok-marks-in-Joined.marks.items in
    let tables = c.args.tables.now in
    let outputs = map expression_of c.args.outputs.now in
    let all : List Row = stored_rows_of tables c.in-Joined.left in
    let some : List Row = stored_rows_of tables c.in_ok-left-in-Joined.left in
    let right : List Row = stored_rows_of tables c.in-Joined.right in
    let found = c.in-Joined.pairs.items in
    let below = subst (λ ms. AreAlikeIn ms some all) c.deref-in-Joined.ensures.value (c.in_ok-left-in-Joined.ensures tables) in
    let same : map_outcome outputs (rows_paired some right c.deref-in-Joined-2.result.now) ≡ map_outcome outputs (rows_paired all right found) =
    ap (λ ps. map_outcome outputs (rows_paired some right ps)) c.deref-in-Joined-2.ensures.value
    ∙ same_read marks outputs c.in_ok-marks-in-Joined.ensures (rows_paired some right found) (rows_paired all right found) (alike_paired marks some all right below found) in
    rw c.in-Joined.is (IfOk-weaker c.map_pairs-in-Joined.result _ (λ r. relation_or_fault_of tables r ≡ map_outcome outputs (rows_paired all right found)) (λ r is. is ∙ same) c.map_pairs-in-Joined.ensures)
