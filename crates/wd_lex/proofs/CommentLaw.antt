-- Where `--` or `/*` begins a piece, the piece is a comment.
use Rattle.std.proofs.Common.{◌≡◌, ℕ, List, refl, sym, ap, ◌∙◌}
use Rattle.wd_lex.specs.declared.pieces.Kind.TheVariants as kind
use Rattle.wd_lex.specs.Pieces.{Piece, LineComment, BlockComment}
use Rattle.wd_lex.specs.Laws.{CommentsComeFirst}
use Rattle.wd_lex.specs.Reading.{kind_at}
use Rattle.wd_lex.proofs.KindFacts.{piece_kind, kind_line, kind_block}
use Rattle.wd_lex.proofs.CompleteReading.{kind_at-piece}

line_of : (piece : Piece) → piece_kind piece ≡ kind.LineComment → (line : List ℕ) × (piece ≡ LineComment line)
line_of (LineComment line) told = (line, refl)
line_of _ told = absurd cc

block_of : (piece : Piece) → piece_kind piece ≡ kind.BlockComment → (inside : List ℕ) × (piece ≡ BlockComment inside)
block_of (BlockComment inside) told = (inside, refl)
block_of _ told = absurd cc

pub comments_come_first : CommentsComeFirst
comments_come_first piece rest more stands = (
  (λ same. line_of piece (sym (kind_at-piece piece rest stands) ∙ ap kind_at same ∙ kind_line more)),
  (λ same. block_of piece (sym (kind_at-piece piece rest stands) ∙ ap kind_at same ∙ kind_block more)),
)
