-- What is on a stream after a write that may have failed.
use Rattle.std.specs.Prelude.{ℕ, List, take, Option}
use Rattle.std.specs.Fmt.{decimal}
use Rattle.std.specs.Io.KnownBytes.{Appends}
use Rattle.wd_command.specs.declared.streams.Piece.{Piece}
use Rattle.wd_command.specs.declared.streams.Piece.TheVariants.{Text, Number}

-- the stream has grown by a beginning of the text
abbrev pub AppendsPart : Option (List ℕ) → Option (List ℕ) → List ℕ → Type 0
AppendsPart before after text = (count : ℕ) × Appends before after (take count text)

-- the text of a piece of a line
abbrev pub piece_text : Piece → List ℕ
piece_text (Text text) = text.now
piece_text (Number number) = decimal number
