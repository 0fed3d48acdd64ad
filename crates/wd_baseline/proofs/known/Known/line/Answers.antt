use Rattle.std.proofs.Common.{◌≡◌, ◌≤◌, ◌∙◌, false, Some, ap, sym, subst, arith}
use Rattle.serde_json.specs.Data.{depth}
use Rattle.serde_json.specs.Read.{max_depth}
use Rattle.serde_json.specs.View.{view}
use Rattle.serde_json.specs.Written.{has_float, compact_text}
use Rattle.wd_baseline.specs.Findings.{FindingRecord, finding_json, said}
use Rattle.wd_baseline.proofs.known.Known.line.Goals as goal

deep : (f : FindingRecord) → depth (finding_json f) ≤ max_depth
deep f = omega arith

pub returns-clause-text : goal.returns-clause-text
returns-clause-text c =
    let plain : has_float (view c.in_ok-value.value) ≡ false = ap has_float c.in_ok-value.ensures in
    c.in_ok-to_string.ensures.text plain ∙ ap compact_text c.in_ok-value.ensures

pub returns-clause-spells : goal.returns-clause-spells
returns-clause-spells c =
    let shallow : depth (view c.in_ok-value.value) ≤ max_depth = subst (λ d. depth d ≤ max_depth) (sym c.in_ok-value.ensures) (deep (said c.args.self.now)) in
    c.in_ok-to_string.ensures.reads_back shallow ∙ ap (λ d. Some d) c.in_ok-value.ensures
