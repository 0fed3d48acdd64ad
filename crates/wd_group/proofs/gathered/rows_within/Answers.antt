use Rattle.std.proofs.Common.{◌≡◌, ◌∙◌, ◌≤◌, ◌<◌, Ok, ap, arith, length}
use Rattle.std.proofs.lemmas.Bool.{le-ltb}
use Rattle.wd_column_store.proofs.RowsAlong.{count as rows_count}
use Rattle.wd_value.specs.Rows.{rows_of}
use Rattle.wd_group.proofs.First.{AreFirst-all, AreFirst-more}
use Rattle.wd_group.proofs.gathered.rows_within.Goals as goal

pub returns-then-count-most-clause-too_many : goal.returns-then-count-most-clause-too_many
returns-then-count-most-clause-too_many c = λ _ width results first. (
    let full : c.args.most < c.args.gathered.count = omega (arith, c.if-count-most.true) in
    AreFirst-more width c.args.most results c.args.gathered first full c.in-None.is)

pub returns-else-count-most-clause-outcome : goal.returns-else-count-most-clause-outcome
returns-else-count-most-clause-outcome c = λ width results first. (
    let few : c.args.gathered.count ≤ c.args.most = omega (arith, c.if-count-most.false) in
    ap Ok c.new.ensures ∙ AreFirst-all width c.args.most results c.args.gathered first few c.in-None.is)

pub returns-else-count-most-clause-within : goal.returns-else-count-most-clause-within
returns-else-count-most-clause-within c =
    let few : c.args.gathered.count ≤ c.args.most = omega (arith, c.if-count-most.false) in
    let long : length c.new.result ≡ c.args.gathered.count = ap length c.new.ensures ∙ rows_count (rows_of c.args.gathered.columns.items) c.args.gathered.count in
    le-ltb c.args.most (length c.new.result) (omega arith)
