-- A text with mended statements in place of those that it had.
use Rattle.std.specs.Prelude.{◌≡◌, ℕ, List, [], ◌∷◌, ◌++◌, drop, length, map, slice_range}
use Rattle.wd_lex.specs.declared.token.Span.{Span}
use Rattle.wd_source.specs.Statements.{StandInOrder}
use Rattle.wd_fix.specs.declared.fix.Fix.{Fix}

abbrev pub span_of : Fix → Span
span_of fix = fix.span

-- the text from a byte on, where each mended statement takes the place of the bytes of its span
abbrev pub fixed_from : List ℕ → ℕ → List Fix → List ℕ
fixed_from text start [] = drop start text
fixed_from text start (fix ∷ fixes) = slice_range text start fix.span.start ++ fix.text.items ++ fixed_from text fix.span.end fixes

-- this is the text with the mended statements, whose spans come one after the other
pub record IsFixed (text : List ℕ) (fixes : List Fix) (after : List ℕ) : Type 0 where
  pub ordered : StandInOrder 0 (map span_of fixes) (length text)
  pub is : after ≡ fixed_from text 0 fixes
