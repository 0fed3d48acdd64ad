-- Reading the lines of findings, one after another.
use Rattle.std.proofs.Common.{◌≡◌, ◌∙◌, ℕ, ◌+◌, List, [], ◌∷◌, ◌++◌, length, map, String, refl, sym, ap, ap₂, arith}
use Rattle.std.proofs.lemmas.List.{length-map, map_push}
use Rattle.std.specs.String.{string_bytes}
use Rattle.std.specs.declared.alloc.Global.{Global}
use Rattle.wd_json.specs.Json.{IsJsonOf}
use Rattle.wd_json.specs.declared.misread.Misread.{Misread}
use Rattle.wd_json.specs.declared.misread.Misread.TheVariants as misread
use Rattle.wd_baseline.specs.declared.error.BaselineError.{BaselineError}
use Rattle.wd_baseline.specs.Findings.{FindingRecord, finding_json, finding_text}
use Rattle.wd_json_lines.specs.Lines.{first_line, after_line}
use Rattle.wd_json_lines.proofs.Reading as generic
use Rattle.wd_baseline.specs.Lines.{AreFindings}
use Rattle.wd_baseline.specs.Refusals.{refusal_at, HasCause, HasLineCause}
use Rattle.std.specs.List.{count_by}
use Rattle.std.specs.Str.{bytes_eq}
use Rattle.wd_baseline.specs.declared.baseline.Baseline.{Baseline}
use Rattle.wd_baseline.specs.declared.error.BaselineError.TheVariants as error
use Rattle.wd_baseline.specs.Baselines.{IsBaselineOf, IsVersionLine, HasVersionCause, count_of, left_of}
use Rattle.wd_baseline.proofs.Counting.{same_counts}

-- so far each line is a finding, and these are their lines
pub record AreReadUpTo (bytes rest : List ℕ) (found : List (String Global)) : Type 0 where
  pub read : List FindingRecord
  pub lines : generic.AreReadUpTo finding_json bytes rest read
  pub texts : map string_bytes found ≡ map finding_text read

pub none_read : (bytes : List ℕ) (found : List (String Global)) → found ≡ [] → AreReadUpTo bytes bytes found
none_read bytes found none = record { read = []; lines = generic.none_read finding_json bytes [] refl; texts = ap (map string_bytes) none }

-- how many they are
pub as_many : (bytes rest : List ℕ) (found : List (String Global)) → (h : AreReadUpTo bytes rest found) → length found ≡ length h.read
as_many bytes rest found h = sym (length-map found string_bytes) ∙ ap length h.texts ∙ length-map h.read finding_text

-- a line spells a finding, and that is its text
abbrev pub IsLineOf : List ℕ → String Global → Type 0
IsLineOf line text = (f : FindingRecord) × IsJsonOf (finding_json f) line × (string_bytes text ≡ finding_text f)

pub one_more : (bytes rest after : List ℕ) (found later : List (String Global)) (text : String Global) → AreReadUpTo bytes rest found → (length rest ≡ 0 → ⊥) → IsLineOf (first_line rest) text
    → later ≡ found ++ text ∷ [] → after ≡ after_line rest → AreReadUpTo bytes after later
one_more bytes rest after found later text h some (f, json, is) e following = record {
  read = h.read ++ f ∷ [];
  lines = generic.one_more finding_json bytes rest after h.read (h.read ++ f ∷ []) f h.lines some json refl following;
  texts = ap (map string_bytes) e ∙ map_push string_bytes found text ∙ ap₂ (λ l x. l ++ x ∷ []) h.texts is ∙ sym (map_push finding_text h.read f);
}

pub no_more : (bytes rest : List ℕ) (found : List (String Global)) → (h : AreReadUpTo bytes rest found) → length rest ≡ 0 → AreFindings h.read bytes
no_more bytes rest found h none = generic.no_more finding_json bytes rest h.read h.lines none

pub refused : (bytes rest : List ℕ) (found : List (String Global)) (m : Misread) (number : ℕ) → AreReadUpTo bytes rest found → (length rest ≡ 0 → ⊥)
    → (m ≡ misread.Shape → (f : FindingRecord) → ¬ IsJsonOf (finding_json f) (first_line rest)) → number ≡ length found + 2 → HasLineCause (refusal_at m number) bytes
refused bytes rest found misread.OutOfMemory number h some none e = tt
refused bytes rest found misread.Shape number h some none e =
    let cause = generic.refused finding_json bytes rest h.read misread.Shape (length h.read + 1) h.lines some none refl in
    (cause.0, cause.1, omega (arith, e, as_many bytes rest found h, cause.2))

-- ---- the whole file

pub line_cause : (e : BaselineError) (bytes : List ℕ) → IsVersionLine (first_line bytes) → HasLineCause e (after_line bytes) → HasCause e bytes
line_cause error.Version bytes v h = absurd h
line_cause (error.Line number) bytes v h = (v, h)
line_cause error.OutOfMemory bytes v h = tt

pub version_cause : (e : BaselineError) (bytes : List ℕ) → HasVersionCause e (first_line bytes) → HasCause e bytes
version_cause error.Version bytes h = h
version_cause (error.Line number) bytes h = absurd h
version_cause error.OutOfMemory bytes h = tt

-- a baseline that counts the lines of the findings which bytes spell
pub is_of : (bytes : List ℕ) (baseline : Baseline) (lines : List (String Global)) → IsVersionLine (first_line bytes) → (fs : List FindingRecord) × AreFindings fs (after_line bytes) × (map string_bytes lines ≡ map finding_text fs)
    → ((line : List ℕ) → count_of baseline line ≡ count_by (λ s. bytes_eq (string_bytes s) line) lines) → left_of baseline ≡ length lines → IsBaselineOf bytes baseline
is_of bytes baseline lines version (fs, are, texts) counted left = record {
  findings = fs;
  spelled = record { version = version; findings = are };
  counted = λ line. counted line ∙ same_counts string_bytes finding_text line lines fs texts;
  left = left ∙ sym (length-map lines string_bytes) ∙ ap length texts ∙ length-map fs finding_text;
}
