-- Putting changes into a text, one after the other.
use Rattle.std.proofs.Common.{◌≡◌, ◌∙◌, ℕ, ◌+◌, ◌<◌, ◌≤◌, List, [], ◌∷◌, ◌++◌, length, drop, get_or, suc, add-one, drop-cons, subst, append_assoc, sym, ap, arith, slice_range, string_bytes}
use Rattle.wd_keys.specs.declared.change.Change.{Change}
use Rattle.wd_keys.specs.Changes.{ComeInOrder, changed_from}

-- What is put in up to the rest: with the rest it makes up the whole, and the places come in order where those of the rest do.
pub record IsPutUpTo (text : List ℕ) (changes rest : List Change) (start : ℕ) (out : List ℕ) : Type 0 where
  pub within : start ≤ length text
  pub ordered : ComeInOrder text start rest → ComeInOrder text 0 changes
  pub all : out ++ changed_from text start rest ≡ changed_from text 0 changes
  pub rest_ordered : ComeInOrder text 0 changes → ComeInOrder text start rest

-- spans that come in order end within the text
pub end_within : (text : List ℕ) (changes : List Change) (start : ℕ) → ComeInOrder text start changes → start ≤ length text
end_within text [] start is = is
end_within text (change ∷ changes) start (after, long, later) = omega (arith, after, long, end_within text changes change.end later)

-- past one more change
pub past_change : (text : List ℕ) (changes rest : List Change) (start : ℕ) (out next : List ℕ) (change : Change)
    → IsPutUpTo text changes (change ∷ rest) start out → start ≤ change.at → change.at ≤ change.end → change.end ≤ length text
    → next ≡ (out ++ slice_range text start change.at) ++ string_bytes change.text → IsPutUpTo text changes rest change.end next
past_change text changes rest start out next change is after long within e = record {
  within = within;
  ordered = λ later. is.ordered (after, long, later);
  rest_ordered = λ ordered. (is.rest_ordered ordered).2;
  all = ap (λ (front : List ℕ). front ++ changed_from text change.end rest) e
      ∙ (append_assoc (out ++ slice_range text start change.at) (string_bytes change.text) (changed_from text change.end rest)
      ∙ (append_assoc out (slice_range text start change.at) (string_bytes change.text ++ changed_from text change.end rest)
      ∙ (ap (λ (tail : List ℕ). out ++ tail) (sym (append_assoc (slice_range text start change.at) (string_bytes change.text) (changed_from text change.end rest))) ∙ is.all)));
}

-- the change at a place, and those after it
pub at_change : (changes : List Change) (i : ℕ) (change : Change) → i < length changes → change ≡ get_or changes i change → drop i changes ≡ change ∷ drop (i + 1) changes
at_change changes i change h is = rw add-one (drop-cons changes i change h ∙ ap (λ (c : Change). c ∷ drop (suc i) changes) (sym is))

-- where the change at a place stands, if it and those after it come in order
pub placed : (text : List ℕ) (changes : List Change) (start i : ℕ) (change : Change) → i < length changes → change ≡ get_or changes i change
    → ComeInOrder text start (drop i changes) → (start ≤ change.at) × (change.at ≤ change.end) × (change.end ≤ length text)
placed text changes start i change h is ordered =
    let here = subst (ComeInOrder text start) (at_change changes i change h is) ordered in
    (here.0, here.1, end_within text (drop (i + 1) changes) change.end here.2)
