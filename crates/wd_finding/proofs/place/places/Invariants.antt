use Rattle.std.proofs.Common.{◌≡◌, map, take}
use Rattle.wd_finding.specs.Findings.{reason_of}
use Rattle.wd_finding.proofs.place.places.Given as goal

abbrev pub invariant-loop-reason : goal.invariant-loop-reason
invariant-loop-reason l = map reason_of l.found.items ≡ take l.reason-index l.reasons
