-- A baseline that is written and read again.
use Rattle.std.proofs.Common.{◌≡◌, ◌∙◌, ℕ, cond, List, [], ◌∷◌, map, String, string_bytes, refl, sym, ap, ap₂, subst}
use Rattle.std.proofs.lemmas.List.Elements.{All-head, All-tail}
use Rattle.std.proofs.lemmas.List.Sorted.{All-permutation, sum_by-IsPermutation}
use Rattle.std.specs.List.{All, count_by}
use Rattle.std.specs.Str.{bytes_eq}
use Rattle.std.specs.declared.alloc.Global.{Global}
use Rattle.wd_baseline.specs.declared.baseline.Baseline.{Baseline}
use Rattle.wd_baseline.specs.declared.error.BaselineError.{BaselineError}
use Rattle.wd_baseline.specs.declared.error.BaselineError.TheVariants as error
use Rattle.wd_baseline.specs.Baselines.{IsBaselineOf, IsWritten, Spells, count_of}
use Rattle.wd_baseline.specs.Findings.{FindingRecord, finding_json, finding_text}
use Rattle.wd_baseline.specs.Laws.{AreLinesOf, IsFindingLine}
use Rattle.wd_json_lines.specs.Lines.{after_line}
use Rattle.wd_json_lines.proofs.Reading.{no_failure}
use Rattle.wd_baseline.specs.Refusals.{HasCause}
use Rattle.wd_baseline.proofs.Counting.{same_counts}
use Rattle.wd_baseline.proofs.OneList.{one_list}
use Rattle.wd_baseline.proofs.WrittenBack.{read_back}

-- the findings of lines
record HasFindings (lines : List (String Global)) : Type 0 where
  findings : List FindingRecord
  are : AreLinesOf lines findings
  texts : map string_bytes lines ≡ map finding_text findings

findings_of : (lines : List (String Global)) → All IsFindingLine lines → HasFindings lines
findings_of [] all = record { findings = []; are = tt; texts = refl }
findings_of (line ∷ lines) all =
    let here = All-head IsFindingLine line lines all in
    let more = findings_of lines (All-tail IsFindingLine line lines all) in
    record { findings = here.0 ∷ more.findings; are = (here.1, more.are); texts = ap₂ (λ x xs. x ∷ xs) here.1.text more.texts }

-- what is written of lines of findings spells the findings of the sorted lines
record IsSpelled (lines : List (String Global)) (bytes : List ℕ) : Type 0 where
  findings : List FindingRecord
  spelled : Spells bytes findings
  counted : (line : List ℕ) → count_by (λ f. bytes_eq (finding_text f) line) findings ≡ count_by (λ s. bytes_eq (string_bytes s) line) lines

is_spelled : (lines : List (String Global)) (bytes : List ℕ) → All IsFindingLine lines → IsWritten lines bytes → IsSpelled lines bytes
is_spelled lines bytes all (sorted, same, ordered, text) =
    let has = findings_of sorted (All-permutation IsFindingLine lines sorted same all) in
    record {
      findings = has.findings;
      spelled = subst (λ b. Spells b has.findings) (sym text) (read_back sorted has.findings has.are);
      counted = λ line. sym (same_counts string_bytes finding_text line sorted has.findings has.texts) ∙ sum_by-IsPermutation (λ s. cond (bytes_eq (string_bytes s) line) 1 0) lines sorted same;
    }

pub same_counted : (lines : List (String Global)) (bytes : List ℕ) (b : Baseline) → All IsFindingLine lines → IsWritten lines bytes → IsBaselineOf bytes b
    → (line : List ℕ) → count_of b line ≡ count_by (λ s. bytes_eq (string_bytes s) line) lines
same_counted lines bytes b all is h line =
    let spells = is_spelled lines bytes all is in
    h.counted line ∙ ap (count_by (λ f. bytes_eq (finding_text f) line)) (one_list bytes h.findings spells.findings h.spelled spells.spelled) ∙ spells.counted line

no_cause : (bytes : List ℕ) (fs : List FindingRecord) (e : BaselineError) → Spells bytes fs → HasCause e bytes → e ≡ error.OutOfMemory
no_cause bytes fs error.Version h cause = absurd (cause h.version)
no_cause bytes fs (error.Line number) h cause = absurd (no_failure finding_json (after_line bytes) fs cause.1.0 h.findings cause.1.1)
no_cause bytes fs error.OutOfMemory h cause = refl

pub not_refused : (lines : List (String Global)) (bytes : List ℕ) (e : BaselineError) → All IsFindingLine lines → IsWritten lines bytes → HasCause e bytes → e ≡ error.OutOfMemory
not_refused lines bytes e all is cause = let spells = is_spelled lines bytes all is in no_cause bytes spells.findings e spells.spelled cause
