use Rattle.wd_frame.specs.Slides.{seen}
use Rattle.wd_frame.proofs.Held.{front_answers, none_answers}
use Rattle.wd_frame.proofs.candidate.Candidates.answer.Goals as goal

pub returns-in-Some-clause-first : goal.returns-in-Some-clause-first
returns-in-Some-clause-first c = λ k last are. front_answers k c.args.self.now.first.items (seen c.args.self.now.values.items) c.in-Some.value.now last are c.in-Some.ensures.item.3.0 c.in-Some.ensures.lookup

pub returns-in-None-clause-first : goal.returns-in-None-clause-first
returns-in-None-clause-first c = λ k last are. none_answers k c.args.self.now.first.items (seen c.args.self.now.values.items) last are c.in-None.ensures.item.3
