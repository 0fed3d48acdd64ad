use Rattle.std.proofs.Common.{◌≡◌, ℕ, ◌||◌, drop, map}
use Rattle.wd_certificate.specs.Certificates.{kept_of}
use Rattle.wd_verify.specs.Named.{is_marked, is_of_kept}
use Rattle.wd_verify.proofs.named.mark_kept.Given as goal

abbrev pub invariant-loop-kept : goal.invariant-loop-kept
invariant-loop-kept l = (n : ℕ) → (is_marked l.marks n || is_of_kept (map kept_of (drop l.kept-index l.keep)) n) ≡ (is_marked l.fn.marks n || is_of_kept (map kept_of l.keep) n)
