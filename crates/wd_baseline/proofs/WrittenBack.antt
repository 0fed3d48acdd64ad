-- What is written is read as what it was written of.
use Rattle.std.proofs.Common.{◌≡◌, ℕ, zero, suc, true, nat_lt, List, [], ◌∷◌, ◌++◌, codes, String, Some, string_bytes, refl, sym, ap₂, subst, arith, append_assoc}
use Rattle.std.proofs.lemmas.Bool.{and_parts, ltb-true}
use Rattle.std.proofs.lemmas.Str.{IsUtf8-from_ascii, IsUtf8-string_bytes}
use Rattle.std.specs.List.{flat_map, list_all}
use Rattle.std.specs.Str.{IsAscii, IsUtf8}
use Rattle.std.specs.declared.alloc.Global.{Global}
use Rattle.serde_json.proofs.OnLiterals.{serde_json_on_literals}
use Rattle.serde_json.specs.Read.{read}
use Rattle.wd_json.specs.Json.{IsJsonOf}
use Rattle.wd_baseline.specs.Baselines.{Spells, baseline_text, with_feed}
use Rattle.wd_baseline.specs.Findings.{FindingRecord, finding_json, version_json}
use Rattle.wd_baseline.specs.Laws.{AreLinesOf, IsReadBack}
use Rattle.wd_json_lines.specs.Lines.{lines_text}
use Rattle.wd_json_lines.proofs.Texts.{AreSpelled, are_lines, after_text, first_of_text}
use Rattle.wd_baseline.specs.Lines.{AreFindings}

-- ---- all lines

-- the lines of findings are their texts
texts : (lines : List (String Global)) (fs : List FindingRecord) → AreLinesOf lines fs → flat_map with_feed lines ≡ lines_text finding_json fs
texts [] [] h = refl
texts [] (f ∷ fs) h = absurd h
texts (line ∷ lines) [] h = absurd h
texts (line ∷ lines) (f ∷ fs) h = ap₂ (λ l rest. (l ++ 10 ∷ []) ++ rest) h.0.text (texts lines fs h.1)

spelled : (lines : List (String Global)) (fs : List FindingRecord) → AreLinesOf lines fs → AreSpelled finding_json fs
spelled [] [] h = tt
spelled [] (f ∷ fs) h = absurd h
spelled (line ∷ lines) [] h = absurd h
spelled (line ∷ lines) (f ∷ fs) h =
    let json : IsJsonOf (finding_json f) (string_bytes line) = (IsUtf8-string_bytes line, h.0.spells) in
    (subst (IsJsonOf (finding_json f)) h.0.text json, spelled lines fs h.1)

are_findings : (lines : List (String Global)) (fs : List FindingRecord) → AreLinesOf lines fs → AreFindings fs (flat_map with_feed lines)
are_findings lines fs h = subst (AreFindings fs) (sym (texts lines fs h)) (are_lines finding_json fs (spelled lines fs h))

-- ---- the line of the version

ascii : (bytes : List ℕ) → list_all (λ b. nat_lt b 128) bytes ≡ true → IsAscii bytes
ascii [] h i = omega arith
ascii (b ∷ bytes) h zero = ltb-true b 128 (and_parts (nat_lt b 128) (list_all (λ b. nat_lt b 128) bytes) h).0
ascii (b ∷ bytes) h (suc i) = ascii bytes (and_parts (nat_lt b 128) (list_all (λ b. nat_lt b 128) bytes) h).1 i

version_utf8 : IsUtf8 (codes "{\"version\":1}")
version_utf8 = IsUtf8-from_ascii (codes "{\"version\":1}") (ascii (codes "{\"version\":1}") refl)

version_json_read : read (codes "{\"version\":1}") ≡ Some version_json
unfolding serde_json_on_literals
version_json_read = refl

version_read : IsJsonOf version_json (codes "{\"version\":1}")
version_read = (version_utf8, version_json_read)

pub read_back : IsReadBack
read_back lines fs h =
    let rest = flat_map with_feed lines in
    let whole : codes "{\"version\":1}" ++ 10 ∷ rest ≡ baseline_text lines = sym (append_assoc (codes "{\"version\":1}") (10 ∷ []) rest) in
    subst (λ bytes. Spells bytes fs) whole (record {
      version = subst (IsJsonOf version_json) (sym (first_of_text (codes "{\"version\":1}") rest refl)) version_read;
      findings = subst (AreFindings fs) (sym (after_text (codes "{\"version\":1}") rest refl)) (are_findings lines fs h);
    })
