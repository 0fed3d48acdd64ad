use Rattle.std.proofs.Common.{◌≡◌, ◌≤◌}
use Rattle.wd_frame.specs.Kept.{trimmed}
use Rattle.wd_frame.specs.Slides.{seen}
use Rattle.wd_frame.proofs.candidate.trim.Given as goal

abbrev pub invariant-loop-last : goal.invariant-loop-last
invariant-loop-last l = (trimmed l.key (seen l.candidates.items) l.value ≡ trimmed l.key (seen l.initial.candidates.items) l.value) × ((l.candidates.len ≤ l.initial.candidates.len) × (l.candidates.cap ≡ l.initial.candidates.cap))

abbrev pub decreases-loop-last : goal.decreases-loop-last
decreases-loop-last l = l.candidates.len
