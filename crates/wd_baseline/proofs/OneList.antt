-- Bytes spell one list of findings.
use Rattle.std.proofs.Common.{◌≡◌, ℕ, List, codes, get_or, refl, ap, ap₂, arith}
use Rattle.wd_baseline.specs.declared.known.Finding.{Finding}
use Rattle.wd_baseline.specs.declared.known.Finding.TheVariants.{Depends, MayTie, NotRead}
use Rattle.wd_baseline.specs.Findings.{FindingRecord, finding_json, word}
use Rattle.wd_baseline.specs.Laws.{HasOneList}
use Rattle.wd_json.specs.Json.{IsJsonOf}
use Rattle.wd_json_lines.specs.Lines.{after_line}
use Rattle.wd_json_lines.proofs.Reading.{one_list_by, same_json}

first : (a b : List ℕ) → a ≡ b → get_or a 0 0 ≡ get_or b 0 0
first a b e = ap (λ l. get_or l 0 0) e

one_word : (a b : Finding) → word a ≡ word b → a ≡ b
one_word Depends Depends e = refl
one_word Depends MayTie e = absurd (let h : 100 ≡ 109 = first (codes "depends") (codes "may tie") e in omega (arith, h))
one_word Depends NotRead e = absurd (let h : 100 ≡ 110 = first (codes "depends") (codes "not read") e in omega (arith, h))
one_word MayTie Depends e = absurd (let h : 109 ≡ 100 = first (codes "may tie") (codes "depends") e in omega (arith, h))
one_word MayTie MayTie e = refl
one_word MayTie NotRead e = absurd (let h : 109 ≡ 110 = first (codes "may tie") (codes "not read") e in omega (arith, h))
one_word NotRead Depends e = absurd (let h : 110 ≡ 100 = first (codes "not read") (codes "depends") e in omega (arith, h))
one_word NotRead MayTie e = absurd (let h : 110 ≡ 109 = first (codes "not read") (codes "may tie") e in omega (arith, h))
one_word NotRead NotRead e = refl

-- a JSON value is that of one finding
one_finding : (f g : FindingRecord) → finding_json f ≡ finding_json g → f ≡ g
one_finding f g e =
    let words : word f.finding ≡ word g.finding = cc in
    let paths : f.path ≡ g.path = cc in
    let places : f.place ≡ g.place = cc in
    ap₂ (λ (w : Finding) (p : List ℕ × List ℕ). record { finding = w; path = p.0; place = p.1 }) (one_word f.finding g.finding words) (ap₂ (λ x y. (x, y)) paths places)

one_line : (f g : FindingRecord) (line : List ℕ) → IsJsonOf (finding_json f) line → IsJsonOf (finding_json g) line → f ≡ g
one_line f g line h k = one_finding f g (same_json (finding_json f) (finding_json g) line h k)

pub one_list : HasOneList
one_list bytes fs gs h k = one_list_by finding_json one_line (after_line bytes) fs gs h.findings k.findings
