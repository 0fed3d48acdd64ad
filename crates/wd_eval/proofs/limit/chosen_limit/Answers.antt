use Rattle.std.proofs.Common.{rules}
use Rattle.wd_plan.specs.Plans.{limit_of}
use Rattle.wd_plan.specs.Sorting.{IsOrdering, limit_class}
use Rattle.wd_nodes.specs.Relation.{stored_rows_of}
use Rattle.wd_eval.proofs.limit.chosen_limit.Goals as goal

pub limit_stored-requires : goal.limit_stored-requires
limit_stored-requires c = let lawful : IsOrdering (limit_class (limit_of c.args.limit.now)) (stored_rows_of c.args.tables.now c.args.input) c.deref-3.result.now = search rules in lawful.once
