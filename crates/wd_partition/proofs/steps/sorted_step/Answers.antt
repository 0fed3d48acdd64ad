use Rattle.std.proofs.Common.{◌∙◌, sym}
use Rattle.wd_partition.proofs.Stepping.{none_from_sorted}
use Rattle.wd_partition.proofs.steps.sorted_step.Goals as goal

pub returns-in-None : goal.returns-in-None
returns-in-None c = absurd (none_from_sorted c.args.by_partition.now c.args.by_keys.now c.args.rows.now c.args.positions.now c.args.i c.requires.within (sym c.step_to.ensures ∙ c.in-None.is) c.requires.sorted)
