-- A list of one byte repeated has it at each place.
use Rattle.std.proofs.lemmas.List.{get_or-replicate}
use Rattle.wdcheck.proofs.stack_taken.Goals as goal

pub returns : goal.returns
returns c = get_or-replicate 1572864 c.args.place c.args.byte 0 c.requires
