use Rattle.std.proofs.Common.{◌≡◌, drop, map}
use Rattle.wd_certificate.specs.Certificates.{kept_of}
use Rattle.wd_rules.specs.Rules.{keep_refusal}
use Rattle.wd_verify.specs.Lean.{lean_kept}
use Rattle.wd_verify.specs.Shown.{evidence_with}
use Rattle.wd_verify.proofs.kept.check_keep.Given as goal

abbrev pub invariant-loop-kept : goal.invariant-loop-kept
invariant-loop-kept l =
    keep_refusal (evidence_with l.evidence l.traces) l.columns (map lean_kept (map kept_of (drop l.kept-index l.keep)))
    ≡ keep_refusal (evidence_with l.evidence l.traces) l.columns (map lean_kept (map kept_of l.keep))
