use Rattle.std.proofs.Common.{◌≡◌, map, take}
use Rattle.wd_frame.specs.Slides.{seen}
use Rattle.wd_calls.specs.Answers.{addend}
use Rattle.wd_calls.proofs.aggregate.addends.Given as goal

abbrev pub invariant-loop-value : goal.invariant-loop-value
invariant-loop-value l = seen l.addends.items ≡ map addend (seen (take l.value-index l.values))
