use Rattle.std.proofs.Common.{◌≡◌, ◌++◌, [], ◌∷◌, ◌∙◌, ap, length, rules, arith, Ok}
use Rattle.std.proofs.lemmas.List.{length-map, map_push}
use Rattle.wd_value.specs.Rows.{rows_at}
use Rattle.wd_plan.specs.Outcomes.{limited_rows}
use Rattle.wd_plan.specs.Plans.{limit_of}
use Rattle.wd_plan.specs.Sorting.{IsOrdering, limit_class}
use Rattle.wd_nodes.specs.Relation.{stored_rows_of}
use Rattle.wd_eval.specs.Tied.{IsSortedOver}
use Rattle.wd_eval.specs.Windows.{orderings_of}
use Rattle.wd_eval.proofs.Putting.{limit_tied_from}
use Rattle.wd_eval.proofs.limit.sorted_limit.Goals as goal

pub limit_stored-requires : goal.limit_stored-requires
limit_stored-requires c = let lawful : IsOrdering (limit_class (limit_of c.args.limit.now)) (stored_rows_of c.args.tables.now c.args.input) c.deref-2.result.now = search rules in lawful.once

pub returns : goal.returns
returns c =
    let limit = limit_of c.args.limit.now in
    let rows = stored_rows_of c.args.tables.now c.args.input in
    let made = c.args.made.now.items in
    let old = orderings_of made in
    let new = orderings_of c.push.new.self.items in
    let own = c.in_ok-ordering.ordering.items in
    let kept = stored_rows_of c.args.tables.now c.in_ok-kept.kept in
    let number = c.len.result in
    let at : number ≡ length old = (let long = length-map made (λ v. v.items) in omega arith) in
    let grown : new ≡ old ++ own ∷ [] = ap orderings_of c.in_ok-push.ensures.items ∙ map_push (λ v. v.items) made c.in_ok-ordering.ordering in
    let sorted : IsSortedOver (limit_class limit) c.turn_of-turn.result (Ok rows) own = search rules in
    let is : kept ≡ limited_rows limit (rows_at rows own) = search rules in
    limit_tied_from limit (Ok rows) c.args.turned old new own number c.turn_of-turn.result (Ok kept) at c.turn_of-turn.ensures sorted grown (ap Ok is)
