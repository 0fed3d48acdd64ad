-- Lines, and the JSON values that they spell.
use Rattle.std.specs.Prelude.{◌≢◌, ◌≡◌, ℕ, ◌+◌, ◌==◌, not, List, [], ◌∷◌, ◌++◌, take, drop, flat_map}
use Rattle.std.specs.List.{prefix_len}
use Rattle.serde_json.specs.Data.{Data}
use Rattle.serde_json.specs.Written.{compact_text}
use Rattle.wd_json.specs.Json.{IsJsonOf}

-- how many bytes come before the first line feed, or the end
abbrev pub line_len : List ℕ → ℕ
line_len bytes = prefix_len (λ b. not (b == 10)) bytes

abbrev pub first_line : List ℕ → List ℕ
first_line bytes = take (line_len bytes) bytes

-- what follows the first line feed
abbrev pub after_line : List ℕ → List ℕ
after_line bytes = drop (line_len bytes + 1) bytes

-- the lines of bytes are those of values, one each; after the last line feed there need not be anything
abbrev pub AreLines : {A : Type 0} → (A → Data) → List A → List ℕ → Type 0
AreLines json [] bytes = bytes ≡ []
AreLines json (x ∷ xs) bytes = (bytes ≢ []) × IsJsonOf (json x) (first_line bytes) × AreLines json xs (after_line bytes)

-- after lines of these values comes a line that is of no value
abbrev pub FailAfter : {A : Type 0} → (A → Data) → List A → List ℕ → Type 0
FailAfter {A} json [] bytes = (bytes ≢ []) × ((x : A) → ¬ IsJsonOf (json x) (first_line bytes))
FailAfter json (x ∷ xs) bytes = (bytes ≢ []) × IsJsonOf (json x) (first_line bytes) × FailAfter json xs (after_line bytes)

-- the line of a JSON value: its text without white space, and a line feed
abbrev pub line_text : Data → List ℕ
line_text d = compact_text d ++ 10 ∷ []

-- the lines of values
abbrev pub lines_text : {A : Type 0} → (A → Data) → List A → List ℕ
lines_text json xs = flat_map (λ x. line_text (json x)) xs
