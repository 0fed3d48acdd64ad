-- What a baseline holds, and its text.
use Rattle.std.specs.Prelude.{◌≡◌, ℕ, List, ◌∷◌, [], ◌++◌, length, codes, flat_map, String, string_bytes, ⊤}
use Rattle.std.specs.List.Sorted.{IsPermutation, IsSorted}
use Rattle.std.specs.String.{string_cmp}
use Rattle.std.specs.declared.alloc.Global.{Global}
use Rattle.std.specs.List.{count_by}
use Rattle.std.specs.Str.{bytes_eq}
use Rattle.wd_json.specs.Json.{IsJsonOf}
use Rattle.wd_baseline.specs.declared.baseline.Baseline.{Baseline}
use Rattle.wd_baseline.specs.declared.error.BaselineError.{BaselineError}
use Rattle.wd_baseline.specs.declared.error.BaselineError.TheVariants as error
use Rattle.wd_baseline.specs.Counts.{count_in}
use Rattle.wd_baseline.specs.Findings.{FindingRecord, finding_text, version_json}
use Rattle.wd_json_lines.specs.Lines.{first_line, after_line}
use Rattle.wd_baseline.specs.Lines.{AreFindings}

-- how often a baseline has the finding of a line
abbrev pub count_of : Baseline → List ℕ → ℕ
count_of baseline line = count_in baseline.counts line

-- how many findings are left
abbrev pub left_of : Baseline → ℕ
left_of baseline = baseline.left

abbrev pub IsVersionLine : List ℕ → Type 0
IsVersionLine line = IsJsonOf version_json line

abbrev pub HasVersionCause : BaselineError → List ℕ → Type 0
HasVersionCause error.Version line = ¬ IsVersionLine line
HasVersionCause (error.Line number) line = ⊥
HasVersionCause error.OutOfMemory line = ⊤

-- the text of a baseline: the line of the version, and a line for each finding
abbrev pub with_feed : String Global → List ℕ
with_feed line = string_bytes line ++ 10 ∷ []

abbrev pub baseline_text : List (String Global) → List ℕ
baseline_text lines = (codes "{\"version\":1}" ++ 10 ∷ []) ++ flat_map with_feed lines

-- the text that is written of lines: they are in the order of their bytes, each as often as it is given
abbrev pub IsWritten : List (String Global) → List ℕ → Type 0
IsWritten lines bytes = (sorted : List (String Global)) × IsPermutation lines sorted × IsSorted string_cmp sorted × (bytes ≡ baseline_text sorted)

-- bytes spell findings: the first line is that of the version, and each line after it is one finding
pub record Spells (bytes : List ℕ) (fs : List FindingRecord) : Type 0 where
  pub version : IsVersionLine (first_line bytes)
  pub findings : AreFindings fs (after_line bytes)

-- a baseline has each finding as often as bytes spell it, and all of them are left
pub record IsBaselineOf (bytes : List ℕ) (baseline : Baseline) : Type 0 where
  pub findings : List FindingRecord
  pub spelled : Spells bytes findings
  pub counted : (line : List ℕ) → count_of baseline line ≡ count_by (λ f. bytes_eq (finding_text f) line) findings
  pub left : left_of baseline ≡ length findings
