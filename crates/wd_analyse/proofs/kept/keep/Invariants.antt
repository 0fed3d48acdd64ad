use Rattle.std.proofs.Common.{◌≡◌, ◌++◌, drop, length, map}
use Rattle.wd_certificate.specs.Certificates.{kept_of}
use Rattle.wd_analyse.specs.Evidence.{closing_of}
use Rattle.wd_analyse.specs.Kept.{keep_by}
use Rattle.wd_analyse.proofs.kept.keep.Given as goal

abbrev pub invariant-loop-claim : goal.invariant-loop-claim
invariant-loop-claim l = record {
  long : length l.list.items ≡ l.claim-index;
  keep : map kept_of l.list.items ++ keep_by l.width l.claim-index (map closing_of (drop l.claim-index l.claims)) ≡ keep_by l.width 0 (map closing_of l.claims);
}
