-- The findings that lines spell.
use Rattle.std.specs.Prelude.{ℕ, List}
use Rattle.wd_json_lines.specs.Lines.{AreLines}
use Rattle.wd_json_lines.specs.Lines as lines
use Rattle.wd_baseline.specs.Findings.{FindingRecord, finding_json}

-- the lines of bytes spell these findings, one each; after the last line feed there need not be anything
abbrev pub AreFindings : List FindingRecord → List ℕ → Type 0
AreFindings fs bytes = AreLines finding_json fs bytes

-- after lines that spell these findings comes a line that spells none
abbrev pub FailAfter : List FindingRecord → List ℕ → Type 0
FailAfter fs bytes = lines.FailAfter finding_json fs bytes
