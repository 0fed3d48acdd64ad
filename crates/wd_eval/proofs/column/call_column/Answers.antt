use Rattle.std.proofs.Common.{◌<◌, sym, subst, length, arith}
use Rattle.wd_plan.specs.Outcomes.{class_at, ordering_at}
use Rattle.wd_eval.specs.ClassIndexes.{IsClassIndexIn, asks_keys}
use Rattle.wd_eval.specs.declared.class_index.ClassIndex.{ClassIndex}
use Rattle.wd_eval.proofs.Filled.{first_below}
use Rattle.wd_eval.proofs.column.call_column.Goals as goal

pub returns : goal.returns
returns c = λ w needs orderings listed. (
    let k = c.args.call.now.class in
    let rows = c.args.rows.now in
    let class_index = c.index-indexes-call.result in
    let long = listed.long in
    let there : k < length w.classes = omega arith in
    let is : IsClassIndexIn w k rows (ordering_at orderings k) class_index = subst (λ (l : ClassIndex). IsClassIndexIn w k rows (ordering_at orderings k) l) (sym c.index-indexes-call.is) (listed.each k class_index there) in
    let filled = c.in_ok-column.ensures (class_at w k) (asks_keys w k) (ordering_at orderings k) needs is in
    record {
      long = filled.long;
      each = λ p within all. filled.each p within (first_below (class_at w k) rows (ordering_at orderings k) is.lawful p within);
      said = λ h. (let found = filled.said h in (found.0, found.1, tt, found.3));
    })
