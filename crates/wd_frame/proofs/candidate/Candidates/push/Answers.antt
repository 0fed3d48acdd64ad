use Rattle.std.proofs.Common.{◌≡◌, subst}
use Rattle.wd_frame.specs.Kept.{pushed}
use Rattle.wd_frame.specs.Slides.{seen}
use Rattle.wd_frame.proofs.Held.{held_push}
use Rattle.wd_frame.proofs.candidate.Candidates.push.Goals as goal

pub returns-clause-are : goal.returns-clause-are
returns-clause-are c =
    held_push c.args.key c.args.self.now.first.items c.args.self.now.values.items c.push_back.new.self.items c.args.value _ c.requires.nulls_last c.requires.were c.in_ok-push_back.ensures.items
    (subst (λ xs. seen c.push_candidate.new.candidates.items ≡ pushed c.args.key (seen xs) c.args.value.now) c.reserve.ensures.items c.push_candidate.ensures)
