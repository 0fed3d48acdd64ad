use Rattle.std.proofs.Common.{take, flat_map}
use Rattle.std.specs.Io.KnownBytes.{Appends}
use Rattle.wd_command.specs.Streams.{piece_text}
use Rattle.wd_command.proofs.streams.write_pieces.Given as goal

abbrev pub invariant-loop-piece : goal.invariant-loop-piece
invariant-loop-piece g l = Appends (g.O.Write.contents l.initial.out) (g.O.Write.contents l.out) (flat_map piece_text (take l.piece-index l.pieces))
