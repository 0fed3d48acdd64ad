use Rattle.std.proofs.Common.{◌≡◌, ◌++◌, length, string_bytes}
use denote.Shadow.{shadow}
use denote.Text.{Utf8}
use Rattle.wd_lex.specs.Pieces.{doubled}
use Rattle.wd_print.proofs.print.push_doubled.Given as goal

abbrev pub invariant-loop-before : goal.invariant-loop-before
invariant-loop-before l = shadow (Utf8 l.rest) × (string_bytes l.text ++ doubled l.quote l.rest ≡ string_bytes l.fn.text ++ doubled l.quote l.fn.inside)

abbrev pub decreases-loop-before : goal.decreases-loop-before
decreases-loop-before l = length l.rest
