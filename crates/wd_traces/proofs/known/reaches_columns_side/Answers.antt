use Rattle.std.proofs.Common.{◌+◌, map, refl}
use Rattle.wd_step_facts.specs.Facts.{columns_named, moved}
use Rattle.wd_sets.specs.Sets.{has}
use Rattle.wd_node_facts.specs.Seen.{seen_of}
use Rattle.wd_traces.proofs.Wide.{all_covered}
use Rattle.wd_traces.proofs.known.reaches_columns_side.Goals as goal

pub returns-in-Some : goal.returns-in-Some
returns-in-Some c = all_covered (seen_of c.args.known.now.facts) (has c.args.set.now) c.in-Some.wide.now (map (moved (λ k. c.args.by + k) c.args.row) (columns_named c.args.columns.now)) (rw c.in-Some.is at c.requires.wide) (c.if-is_covered.ensures refl)
