-- What the definitions of baselines imply.
use Rattle.std.specs.Prelude.{◌≡◌, List, [], ◌∷◌, ℕ, String, string_bytes, Some}
use Rattle.std.specs.declared.alloc.Global.{Global}
use Rattle.serde_json.specs.Read.{read}
use Rattle.wd_baseline.specs.Baselines.{Spells, baseline_text}
use Rattle.wd_baseline.specs.Findings.{FindingRecord, finding_json, finding_text}

-- bytes spell at most one list of findings
abbrev pub HasOneList : Type 0
HasOneList = (bytes : List ℕ) (fs gs : List FindingRecord) → Spells bytes fs → Spells bytes gs → fs ≡ gs

-- a line as `Known::line` gives it: the text of a finding, which is read as that finding
pub record IsLineOf (line : String Global) (f : FindingRecord) : Type 0 where
  pub text : string_bytes line ≡ finding_text f
  pub spells : read (string_bytes line) ≡ Some (finding_json f)

-- a line of some finding
abbrev pub IsFindingLine : String Global → Type 0
IsFindingLine line = (f : FindingRecord) × IsLineOf line f

-- lines of findings, one each
abbrev pub AreLinesOf : List (String Global) → List FindingRecord → Type 0
AreLinesOf [] [] = Unit {0}
AreLinesOf [] (f ∷ fs) = ⊥
AreLinesOf (line ∷ lines) [] = ⊥
AreLinesOf (line ∷ lines) (f ∷ fs) = IsLineOf line f × AreLinesOf lines fs

-- the text that is written of lines of findings spells these findings, in the order of the lines
abbrev pub IsReadBack : Type 0
IsReadBack = (lines : List (String Global)) (fs : List FindingRecord) → AreLinesOf lines fs → Spells (baseline_text lines) fs
