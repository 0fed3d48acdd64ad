use Rattle.std.proofs.Common.{◌≡◌, length, string_bytes}
use denote.Shadow.{shadow}
use denote.Text.{Utf8}
use Rattle.wd_lex.specs.Reading as spec
use Rattle.wd_lex.proofs.pieces.unquote.Given as goal

abbrev pub invariant-loop-before : goal.invariant-loop-before
invariant-loop-before l = shadow (Utf8 l.rest) × (spec.following (string_bytes l.inside) (spec.unquote l.quote l.rest) ≡ spec.unquote l.quote l.text)

abbrev pub decreases-loop-before : goal.decreases-loop-before
decreases-loop-before l = length l.rest
