use Rattle.std.proofs.Common.{rules}
use Rattle.wd_source.proofs.place.position_at.Goals as goal

pub returns : goal.returns
returns c = record { start = c.line_start-start.result; is_start = c.line_start-start.ensures; line = search rules; column = search rules }
