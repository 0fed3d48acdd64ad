use Rattle.std.proofs.Common.{length}
use Rattle.wd_nodes.specs.Relation.{stored_rows_of}
use Rattle.wd_eval.proofs.Taking.{different, within}
use Rattle.wd_eval.proofs.limit.limit_stored.Goals as goal

pub pick_rows-requires-clause-different : goal.pick_rows-requires-clause-different
pick_rows-requires-clause-different c = different (length (stored_rows_of c.args.tables.now c.args.input)) c.args.ordering.now c.kept_positions-kept.result.now c.requires c.kept_positions-kept.ensures.part

pub pick_rows-requires-clause-within : goal.pick_rows-requires-clause-within
pick_rows-requires-clause-within c = within (length (stored_rows_of c.args.tables.now c.args.input)) c.args.ordering.now c.kept_positions-kept.result.now c.requires c.kept_positions-kept.ensures.part
