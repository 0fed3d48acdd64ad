use Rattle.std.proofs.Common.{◌≡◌, ◌∙◌, List, ap}
use Rattle.std.proofs.lemmas.Result.{IfOk-weaker}
use Rattle.wd_value.specs.Rows.{Instance}
use Rattle.wd_joined.specs.declared.pairs.Pair.{Pair}
use Rattle.wd_joined.specs.Pairs.{rows_paired}
use Rattle.wd_nodes.specs.Relation.{stored_rows_of}
use Rattle.wd_nodes.specs.Sides.{AreSides}
use Rattle.wd_nodes.specs.declared.sides.Sides.{Sides}
use Rattle.wd_nodes.specs.declared.sides.Sides.TheVariants.{Joined, Apart}
use Rattle.wd_nodes.specs.declared.stored.StoredRows.{StoredRows}
use Rattle.wd_nodes.specs.declared.stored.StoredRows.TheVariants.{Own}
use Rattle.wd_nodes.proofs.sides.join_to.Goals as goal

-- the right side may be stored otherwise
other_right : (instance : Instance) (left right other : StoredRows) (pairs : List Pair) → stored_rows_of instance right ≡ stored_rows_of instance other → (s : Sides) → AreSides instance left right pairs s → AreSides instance left other pairs s
other_right instance left right other pairs same (Joined rows) are = are ∙ ap (λ rs. rows_paired (stored_rows_of instance left) rs pairs) same
other_right instance left right other pairs same (Apart first second) are = (are.0, are.1 ∙ same)

pub returns-in-Ok : goal.returns-in-Ok
returns-in-Ok c =
    let instance = c.args.tables.now in
    let pairs = c.args.pairs.now in
    let left = Own c.args.left in
    let second = Own c.in-Ok.second in
    let same : stored_rows_of instance second ≡ stored_rows_of instance c.args.right = rw c.in-Ok.is at c.in_ok-second.ensures in
    IfOk-weaker c.join_own.result _ (λ s. AreSides instance left c.args.right pairs s)
    (λ s are. other_right instance left second c.args.right pairs same s (are instance)) c.join_own.ensures
