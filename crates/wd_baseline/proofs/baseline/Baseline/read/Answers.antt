use Rattle.std.proofs.Common.{◌≡◌, ◌∙◌, List, ap, map, subst, arith, string_bytes}
use Rattle.std.specs.List.{count_by}
use Rattle.std.specs.Str.{bytes_eq}
use Rattle.wd_baseline.specs.Baselines.{IsVersionLine}
use Rattle.wd_baseline.specs.Findings.{FindingRecord, finding_text}
use Rattle.wd_baseline.specs.Lines.{AreFindings}
use Rattle.wd_baseline.proofs.Reading.{is_of}
use Rattle.wd_baseline.proofs.baseline.Baseline.read.Goals as goal

pub returns-clause-ok : goal.returns-clause-ok
returns-clause-ok c =
    let lines = c.in_ok-lines.lines.items in
    is_of c.args.bytes.now (record { counts = c.in_ok-counts.counts; left = c.len.result }) lines
    (subst IsVersionLine c.split_line.ensures.line c.in_ok-read_first.ensures.ok)
    (subst (λ rest. (fs : List FindingRecord) × AreFindings fs rest × (map string_bytes lines ≡ map finding_text fs)) c.split_line.ensures.rest c.in_ok-lines.ensures.ok)
    (λ line. c.in_ok-counts.ensures line ∙ ap (count_by (λ s. bytes_eq (string_bytes s) line)) c.deref.ensures.value)
    (omega (arith, c.len.ensures, c.in_ok-lines.lines.ok.0))
