-- Why lines are not read.
use Rattle.std.specs.Prelude.{◌≡◌, ℕ, ◌+◌, ◌≤◌, List, length, ⊤}
use Rattle.serde_json.specs.Data.{Data}
use Rattle.wd_json.specs.declared.misread.Misread.{Misread}
use Rattle.wd_json.specs.declared.misread.Misread.TheVariants as misread
use Rattle.wd_json_lines.specs.declared.error.LineError.{LineError}
use Rattle.wd_json_lines.specs.declared.error.LineError.TheVariants as error
use Rattle.wd_json_lines.specs.Lines.{FailAfter}

-- a line with that number is misread
abbrev pub refusal_at : Misread → ℕ → LineError
refusal_at misread.Shape number = error.Unread number
refusal_at misread.OutOfMemory number = error.OutOfMemory

-- the line with this number is the first that is of no value
abbrev pub HasCause : {A : Type 0} → (A → Data) → LineError → List ℕ → Type 0
HasCause {A} json (error.Unread number) bytes = (xs : List A) × FailAfter json xs bytes × (number ≡ length xs + 1)
HasCause json error.OutOfMemory bytes = ⊤

-- no line has a greater number than there are bytes
abbrev pub IsWithin : LineError → ℕ → Type 0
IsWithin (error.Unread number) bytes = number ≤ bytes
IsWithin error.OutOfMemory bytes = ⊤
