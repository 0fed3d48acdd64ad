use Rattle.std.proofs.Common.{filter, map}
use Rattle.wd_candidates.specs.Candidates.{candidate, shapes}
use Rattle.wd_partition.specs.declared.turn.Turn.TheVariants.{Reversed}
use Rattle.wd_seek.specs.Sought.{is_meeting}
use Rattle.wd_seek.proofs.Kept.{gone_through}
use Rattle.wd_seek.proofs.passed.end_after.Goals as goal

pub returns-clause-nothing : goal.returns-clause-nothing
returns-clause-nothing c = λ tables plan h o tied.
    gone_through Reversed plan (filter (is_meeting tables) (map (candidate tables plan o) shapes)) c.args.spent c.in_ok-evaluations.evaluations (c.in_ok-evaluations.ensures tables plan h o tied)
