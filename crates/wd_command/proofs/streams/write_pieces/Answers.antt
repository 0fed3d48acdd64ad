use Rattle.std.proofs.Common.{flat_map, sym, subst}
use Rattle.std.proofs.lemmas.List.{take_all}
use Rattle.std.specs.Io.KnownBytes.{Appends}
use Rattle.wd_command.specs.Streams.{AppendsPart, piece_text}
use Rattle.wd_command.proofs.StreamLemmas.{AppendsPart-after, AppendsPart-whole, flat_map_at}
use Rattle.wd_command.proofs.streams.write_pieces.Goals as goal

pub returns-in_err-write_piece-clause-part : goal.returns-in_err-write_piece-clause-part
returns-in_err-write_piece-clause-part g c =
    subst (AppendsPart _ _) (sym (flat_map_at piece_text c.args.pieces.now c.loop-piece.piece-index _ c.loop-piece-test.true))
    (AppendsPart-after _ _ _ _ _ _ c.loop-piece.invariant c.write_piece.ensures.part)

pub returns-clause-part : goal.returns-clause-part
returns-clause-part g c =
    AppendsPart-whole _ _ _ (subst (λ pieces. Appends (g.O.Write.contents c.args.out.now) (g.O.Write.contents c.loop-piece.out) (flat_map piece_text pieces)) (take_all _ _ c.loop-piece-test.false) c.loop-piece.invariant)
