-- Putting mended statements into a text, one after the other.
use Rattle.std.proofs.Common.{◌≡◌, ◌∙◌, ℕ, ◌+◌, ◌<◌, ◌≤◌, List, ◌∷◌, ◌++◌, length, map, drop, get_or, suc, add-one, drop-cons, append_assoc, sym, ap, arith, slice_range}
use Rattle.wd_lex.specs.declared.token.Span.{Span}
use Rattle.wd_source.specs.Statements.{StandInOrder}
use Rattle.wd_fix.specs.declared.fix.Fix.{Fix}
use Rattle.wd_fix.specs.Fixes.{fixed_from, span_of}
use Rattle.wd_fix.proofs.Choosing.{after}

-- What is put in up to the rest: with the rest it makes up the whole, and the rest stands in order after it.
pub record IsPutUpTo (text : List ℕ) (fixes rest : List Fix) (start : ℕ) (out : List ℕ) : Type 0 where
  pub stand : StandInOrder start (map span_of rest) (length text)
  pub all : out ++ fixed_from text start rest ≡ fixed_from text 0 fixes

-- past one more statement
pub past_fix : (text : List ℕ) (fixes rest : List Fix) (start : ℕ) (out next : List ℕ) (fix : Fix)
    → IsPutUpTo text fixes (fix ∷ rest) start out
    → next ≡ (out ++ slice_range text start fix.span.start) ++ fix.text.items → IsPutUpTo text fixes rest fix.span.end next
past_fix text fixes rest start out next fix is e = record {
  stand = is.stand.2;
  all = ap (λ (front : List ℕ). front ++ fixed_from text fix.span.end rest) e
      ∙ (append_assoc (out ++ slice_range text start fix.span.start) fix.text.items (fixed_from text fix.span.end rest)
      ∙ (append_assoc out (slice_range text start fix.span.start) (fix.text.items ++ fixed_from text fix.span.end rest)
      ∙ (ap (λ (tail : List ℕ). out ++ tail) (sym (append_assoc (slice_range text start fix.span.start) fix.text.items (fixed_from text fix.span.end rest))) ∙ is.all)));
}

-- the statement at a place, and those after it
pub at_fix : (fixes : List Fix) (i : ℕ) (fix : Fix) → i < length fixes → fix ≡ get_or fixes i fix → drop i fixes ≡ fix ∷ drop (i + 1) fixes
at_fix fixes i fix h is = rw add-one (drop-cons fixes i fix h ∙ ap (λ (f : Fix). f ∷ drop (suc i) fixes) (sym is))

-- the statement at a place stands after what was put in, within the text
pub stands_next : (text : List ℕ) (fixes rest : List Fix) (start : ℕ) (out : List ℕ) (fix : Fix)
    → IsPutUpTo text fixes (fix ∷ rest) start out → (start ≤ fix.span.start) × (fix.span.start ≤ length text)
stands_next text fixes rest start out fix is =
    let later = after fix.span.end (map span_of rest) (length text) is.stand.2 in
    (is.stand.0, omega (arith, is.stand.1, later))
