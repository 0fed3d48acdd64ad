-- Reading lines, one after another.
use Rattle.std.proofs.Common.{◌≡◌, ◌≢◌, ◌∙◌, ℕ, ◌+◌, ◌<◌, ◌≤◌, List, [], ◌∷◌, ◌++◌, length, map, refl, sym, ap, ap₂, subst, arith, append_assoc, append-nil, length-drop}
use Rattle.serde_json.specs.Data.{Data}
use Rattle.wd_json.proofs.Inverse.{some_same}
use Rattle.wd_json.specs.Json.{IsJsonOf}
use Rattle.wd_json.specs.declared.misread.Misread.{Misread}
use Rattle.wd_json.specs.declared.misread.Misread.TheVariants as misread
use Rattle.wd_json_lines.specs.declared.error.LineError.{LineError}
use Rattle.wd_json_lines.specs.declared.error.LineError.TheVariants as error
use Rattle.wd_json_lines.specs.Lines.{line_len, first_line, after_line, AreLines, FailAfter}
use Rattle.wd_json_lines.specs.Refusals.{refusal_at, HasCause, IsWithin}

-- after a line there is less
pub shorter : (bytes : List ℕ) → (length bytes ≡ 0 → ⊥) → length (after_line bytes) < length bytes
shorter bytes some = omega (arith, some, length-drop (line_len bytes + 1) bytes)

some_bytes : (bytes : List ℕ) → (length bytes ≡ 0 → ⊥) → bytes ≢ []
some_bytes bytes some e = some (ap length e)

-- bytes are JSON of one value
pub same_json : (d e : Data) (bytes : List ℕ) → IsJsonOf d bytes → IsJsonOf e bytes → d ≡ e
same_json d e bytes h k = some_same d e (sym h.1 ∙ k.1)

module _ {A : Type 0} (json : A → Data) where
  -- so far each line is that of a value
  pub record AreReadUpTo (bytes rest : List ℕ) (read : List A) : Type 0 where
    pub lines : (more : List A) → AreLines json more rest → AreLines json (read ++ more) bytes
    pub fail : (more : List A) → FailAfter json more rest → FailAfter json (read ++ more) bytes

  pub none_read : (bytes : List ℕ) (read : List A) → read ≡ [] → AreReadUpTo bytes bytes read
  none_read bytes read none = rw none (record { lines = λ more h. h; fail = λ more h. h })

  pub one_more : (bytes rest after : List ℕ) (read later : List A) (x : A) → AreReadUpTo bytes rest read → (length rest ≡ 0 → ⊥) → IsJsonOf (json x) (first_line rest)
      → later ≡ read ++ x ∷ [] → after ≡ after_line rest → AreReadUpTo bytes after later
  one_more bytes rest after read later x h some is e following = rw (following, e) (record {
    lines = λ more k. subst (λ xs. AreLines json xs bytes) (sym (append_assoc read (x ∷ []) more)) (h.lines (x ∷ more) (some_bytes rest some, is, k));
    fail = λ more k. subst (λ xs. FailAfter json xs bytes) (sym (append_assoc read (x ∷ []) more)) (h.fail (x ∷ more) (some_bytes rest some, is, k));
  })

  pub no_more : (bytes rest : List ℕ) (read : List A) → AreReadUpTo bytes rest read → length rest ≡ 0 → AreLines json read bytes
  no_more bytes [] read h none = subst (λ xs. AreLines json xs bytes) (append-nil read) (h.lines [] refl)
  no_more bytes (b ∷ rest) read h none = absurd (omega arith)

  pub refused : (bytes rest : List ℕ) (read : List A) (m : Misread) (number : ℕ) → AreReadUpTo bytes rest read → (length rest ≡ 0 → ⊥)
      → (m ≡ misread.Shape → (x : A) → ¬ IsJsonOf (json x) (first_line rest)) → number ≡ length read + 1 → HasCause json (refusal_at m number) bytes
  refused bytes rest read misread.OutOfMemory number h some none e = tt
  refused bytes rest read misread.Shape number h some none e =
      (read, subst (λ xs. FailAfter json xs bytes) (append-nil read) (h.fail [] (some_bytes rest some, none refl)), e)

  -- ---- one list

  pub one_list : (bytes : List ℕ) (xs ys : List A) → AreLines json xs bytes → AreLines json ys bytes → map json xs ≡ map json ys
  one_list bytes [] [] h k = refl
  one_list bytes [] (y ∷ ys) h k = absurd (k.0 h)
  one_list bytes (x ∷ xs) [] h k = absurd (h.0 k)
  one_list bytes (x ∷ xs) (y ∷ ys) h k =
      ap₂ (λ d ds. d ∷ ds) (same_json (json x) (json y) (first_line bytes) h.1 k.1) (one_list (after_line bytes) xs ys h.2 k.2)

  -- where a line is of one value at most, lines are of one list
  pub one_list_by : ((x y : A) (line : List ℕ) → IsJsonOf (json x) line → IsJsonOf (json y) line → x ≡ y)
      → (bytes : List ℕ) (xs ys : List A) → AreLines json xs bytes → AreLines json ys bytes → xs ≡ ys
  one_list_by one bytes [] [] h k = refl
  one_list_by one bytes [] (y ∷ ys) h k = absurd (k.0 h)
  one_list_by one bytes (x ∷ xs) [] h k = absurd (h.0 k)
  one_list_by one bytes (x ∷ xs) (y ∷ ys) h k = ap₂ (λ z zs. z ∷ zs) (one x y (first_line bytes) h.1 k.1) (one_list_by one (after_line bytes) xs ys h.2 k.2)

  -- what is of values does not fail
  pub no_failure : (bytes : List ℕ) (xs ys : List A) → AreLines json xs bytes → FailAfter json ys bytes → ⊥
  no_failure bytes [] [] h k = k.0 h
  no_failure bytes [] (y ∷ ys) h k = k.0 h
  no_failure bytes (x ∷ xs) [] h k = k.1 x h.1
  no_failure bytes (x ∷ xs) (y ∷ ys) h k = no_failure (after_line bytes) xs ys h.2 k.2

-- a number is within the bytes
pub within : (m : Misread) (number bytes : ℕ) → number ≤ bytes → IsWithin (refusal_at m number) bytes
within misread.Shape number bytes h = h
within misread.OutOfMemory number bytes h = tt

-- what reads as values is refused only for want of memory
pub not_refused : {A : Type 0} (json : A → Data) (bytes : List ℕ) (xs : List A) (e : LineError) → AreLines json xs bytes → HasCause json e bytes → e ≡ error.OutOfMemory
not_refused json bytes xs (error.Unread number) h k = absurd (no_failure json bytes xs k.0 h k.1)
not_refused json bytes xs error.OutOfMemory h k = refl
