use Rattle.std.proofs.Common.{take}
use Rattle.wd_joined.proofs.Needing.{ArePlaced}
use Rattle.wd_joined.proofs.joined.JoinedRows.of_needed.Given as goal

abbrev pub invariant-loop-origin : goal.invariant-loop-origin
invariant-loop-origin l = ArePlaced l.tables l.positions l.needed (take l.origin-index l.origins) l.placed.items
