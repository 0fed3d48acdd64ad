-- Why a file is no baseline.
use Rattle.std.specs.Prelude.{◌≡◌, ℕ, ◌+◌, List, length, ⊤}
use Rattle.wd_json.specs.declared.misread.Misread.{Misread}
use Rattle.wd_json.specs.declared.misread.Misread.TheVariants as misread
use Rattle.wd_json.specs.Json.{IsJsonOf}
use Rattle.wd_baseline.specs.declared.error.BaselineError.{BaselineError}
use Rattle.wd_baseline.specs.declared.error.BaselineError.TheVariants as error
use Rattle.wd_baseline.specs.Findings.{FindingRecord, version_json}
use Rattle.wd_json_lines.specs.Lines.{first_line, after_line}
use Rattle.wd_baseline.specs.Lines.{FailAfter}

-- a line with that number is misread
abbrev pub refusal_at : Misread → ℕ → BaselineError
refusal_at misread.Shape number = error.Line number
refusal_at misread.OutOfMemory number = error.OutOfMemory

-- the first line of the findings, which is the second of the file, is no finding, or a later line is the first that is none
abbrev pub HasLineCause : BaselineError → List ℕ → Type 0
HasLineCause error.Version bytes = ⊥
HasLineCause (error.Line number) bytes = (fs : List FindingRecord) × FailAfter fs bytes × (number ≡ length fs + 2)
HasLineCause error.OutOfMemory bytes = ⊤

-- the first line is another than that of the version, or it is that line and the lines after it have the cause
abbrev pub HasCause : BaselineError → List ℕ → Type 0
HasCause error.Version bytes = ¬ IsJsonOf version_json (first_line bytes)
HasCause (error.Line number) bytes = IsJsonOf version_json (first_line bytes) × HasLineCause (error.Line number) (after_line bytes)
HasCause error.OutOfMemory bytes = ⊤
