-- Choosing statements of a text, one after the other: those that are chosen and those that are left stand in order all the while.
use Rattle.std.proofs.Common.{◌≡◌, ◌∙◌, ℕ, ◌+◌, ◌<◌, ◌≤◌, List, [], ◌∷◌, ◌++◌, length, map, drop, get_or, add-one, drop-cons, append_assoc, sym, ap, subst, arith}
use Rattle.std.proofs.lemmas.List.{map-append, append-nil}
use Rattle.wd_lex.specs.declared.token.Span.{Span}
use Rattle.wd_source.specs.Statements.{StandInOrder}
use Rattle.wd_fix.specs.declared.fix.Fix.{Fix}
use Rattle.wd_fix.specs.Fixes.{span_of}

-- what stands in order after a place does so after an earlier one
pub stand_before : (earlier start : ℕ) (spans : List Span) (end : ℕ) → earlier ≤ start → StandInOrder start spans end → StandInOrder earlier spans end
stand_before earlier start [] end h s = omega (arith, h, s)
stand_before earlier start (span ∷ spans) end h s = (omega (arith, h, s.0), s.1, s.2)

-- without one of them the others stand in order
pub leave_out : (start : ℕ) (front : List Span) (span : Span) (rest : List Span) (end : ℕ)
    → StandInOrder start (front ++ span ∷ rest) end → StandInOrder start (front ++ rest) end
leave_out start [] span rest end s = stand_before start span.end rest end (omega (arith, s.0, s.1)) s.2
leave_out start (first ∷ front) span rest end s = (s.0, s.1, leave_out first.end front span rest end s.2)

-- what stands in order ends no earlier than it begins
pub after : (start : ℕ) (spans : List Span) (end : ℕ) → StandInOrder start spans end → start ≤ end
after start [] end s = s
after start (span ∷ spans) end s = let rest = after span.end spans end s.2 in omega (arith, s.0, s.1, rest)

-- each of them ends no earlier than it begins, and within the text
pub stands_within : (start : ℕ) (front : List Span) (span : Span) (rest : List Span) (end : ℕ)
    → StandInOrder start (front ++ span ∷ rest) end → (span.start ≤ span.end) × (span.end ≤ end)
stands_within start [] span rest end s = (s.1, after span.end rest end s.2)
stands_within start (first ∷ front) span rest end s = stands_within first.end front span rest end s.2

-- those that are chosen, and those that are left
abbrev pub StandWith : List Fix → List Span → ℕ → Type 0
StandWith fixes rest end = StandInOrder 0 (map span_of fixes ++ rest) end

-- the next one is chosen
pub choose : (fixes : List Fix) (fix : Fix) (span : Span) (rest : List Span) (end : ℕ)
    → fix.span ≡ span → StandWith fixes (span ∷ rest) end → StandWith (fixes ++ fix ∷ []) rest end
choose fixes fix span rest end e s =
    let whole : map span_of (fixes ++ fix ∷ []) ++ rest ≡ map span_of fixes ++ span ∷ rest =
    ap (λ (spans : List Span). spans ++ rest) (map-append span_of fixes (fix ∷ []))
    ∙ (append_assoc (map span_of fixes) (fix.span ∷ []) rest ∙ ap (λ (s : Span). map span_of fixes ++ s ∷ rest) e) in
    subst (λ (spans : List Span). StandInOrder 0 spans end) (sym whole) s

-- none is left
pub all_chosen : (fixes : List Fix) (end : ℕ) → StandWith fixes [] end → StandInOrder 0 (map span_of fixes) end
all_chosen fixes end s = subst (λ (spans : List Span). StandInOrder 0 spans end) (append-nil (map span_of fixes)) s

-- the one at a place is the next of those that are left
pub next_of : (fixes : List Fix) (spans : List Span) (i : ℕ) (other : Span) (end : ℕ) → i < length spans → StandWith fixes (drop i spans) end
    → StandWith fixes (get_or spans i other ∷ drop (i + 1) spans) end
next_of fixes spans i other end h s =
    let at : drop i spans ≡ get_or spans i other ∷ drop (i + 1) spans = rw add-one (drop-cons spans i other h) in
    subst (λ (rest : List Span). StandWith fixes rest end) at s

-- the next one ends no earlier than it begins, and within the text
pub next_within : (fixes : List Fix) (span : Span) (rest : List Span) (end : ℕ) → StandWith fixes (span ∷ rest) end → (span.start ≤ span.end) × (span.end ≤ end)
next_within fixes span rest end s = stands_within 0 (map span_of fixes) span rest end s

-- the next one is not chosen
pub pass : (fixes : List Fix) (span : Span) (rest : List Span) (end : ℕ) → StandWith fixes (span ∷ rest) end → StandWith fixes rest end
pass fixes span rest end s = leave_out 0 (map span_of fixes) span rest end s
