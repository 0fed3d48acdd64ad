use Rattle.std.proofs.Common.{◌≡◌, ◌/◌, ◌<◌, ◌∙◌, length, nat_lt, rules}
use Rattle.wd_nodes.specs.Relation.{relation_of, stored_rows_of}
use Rattle.wd_nodes.proofs.Enough.{more_pairs, no_more_pairs}
use Rattle.wd_nodes.proofs.relation.+has_more.Goals as goal

pub returns-then-count-eq0 : goal.returns-then-count-eq0
returns-then-count-eq0 t c =
    let tables = c.args.tables.now in
    let left = relation_of tables c.in-Pairs.left.value in
    let right = stored_rows_of tables c.in-Pairs.right in
    let none : length right ≡ 0 = search rules in
    rw c.in-Pairs.is (no_more_pairs c.args.most left right none)

pub returns-else-count-eq0 : goal.returns-else-count-eq0
returns-else-count-eq0 t c =
    let tables = c.args.tables.now in
    let left = relation_of tables c.in-Pairs.left.value in
    let right = stored_rows_of tables c.in-Pairs.right in
    let some : 0 < length right = search rules in
    let below : c.has_more.result ≡ nat_lt (c.args.most / length right) (length left) = search rules in
    rw c.in-Pairs.is (below ∙ more_pairs c.args.most left right some)
