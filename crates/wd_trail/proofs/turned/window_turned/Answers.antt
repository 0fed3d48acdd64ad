use Rattle.std.proofs.Common.{◌≡◌, ◌∙◌, false, nat_lt, Some, Ok, ap, arith, length, subst}
use Rattle.std.proofs.lemmas.Bool.{le-ltb}
use Rattle.wd_plan.specs.Plans as tree
use Rattle.wd_plan.specs.Plans.{window_of}
use Rattle.wd_nodes.specs.Relation.{most_rows}
use Rattle.wd_eval.specs.Tied.{turned_at}
use Rattle.wd_eval.specs.Turning.{IsStepUnder, rows_turned}
use Rattle.wd_trail.proofs.ByPeers.{by_peers_step}
use Rattle.wd_trail.proofs.Windows.{window_told}
use Rattle.wd_trail.proofs.turned.window_turned.Goals as goal

pub returns-in-Ok-Some : goal.returns-in-Ok-Some
returns-in-Ok-Some c = λ given. (
    let w = window_of c.args.window.now in
    let rows = c.args.input.now in
    let shown = c.args.given.now in
    let long = c.len-2.ensures ∙ ap length c.source.ensures in
    let small : nat_lt most_rows (length rows) ≡ false = le-ltb most_rows (length rows) (let few = c.if-len-gt-MOST_ROWS.false in omega arith) in
    let told = window_told w rows shown c.source-2.result c.source-3.result c.args.class c.args.turn c.in_ok-turned.turned c.source-2.ensures c.source-3.ensures small c.requires c.in_ok-turned.ensures given in
    subst (λ r. IsStepUnder (tree.Window w) rows (Some (turned_at c.args.turn c.args.class)) (rows_turned shown (Ok r))) c.in-Ok-Some.field-0-is (subst (λ r. IsStepUnder (tree.Window w) rows (Some (turned_at c.args.turn c.args.class)) (rows_turned shown r)) c.in-Ok-Some.is told))

pub returns-in-Ok-None : goal.returns-in-Ok-None
returns-in-Ok-None c = λ given. (
    let w = window_of c.args.window.now in
    let rows = c.args.input.now in
    let shown = c.args.given.now in
    let long = c.len-2.ensures ∙ ap length c.source.ensures in
    let small : nat_lt most_rows (length rows) ≡ false = le-ltb most_rows (length rows) (let few = c.if-len-gt-MOST_ROWS.false in omega arith) in
    let told = window_told w rows shown c.source-2.result c.source-3.result c.args.class c.args.turn c.in_ok-turned.turned c.source-2.ensures c.source-3.ensures small c.requires c.in_ok-turned.ensures given in
    subst (λ r. IsStepUnder (tree.Window w) rows (Some (turned_at c.args.turn c.args.class)) (rows_turned shown (Ok r))) c.in-Ok-None.field-0-is (subst (λ r. IsStepUnder (tree.Window w) rows (Some (turned_at c.args.turn c.args.class)) (rows_turned shown r)) c.in-Ok-None.is told))

pub returns-then-goes_by_peers : goal.returns-then-goes_by_peers
returns-then-goes_by_peers c = by_peers_step (window_of c.args.window.now) c.args.input.now c.args.class c.args.turn c.args.given.now c.requires (c.goes_by_peers.ensures c.if-goes_by_peers.true)
