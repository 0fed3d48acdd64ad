use Rattle.wd_frame.proofs.Held.{held_pop}
use Rattle.wd_frame.proofs.candidate.Candidates.pop.Goals as goal

pub returns-in-Some-clause-are : goal.returns-in-Some-clause-are
returns-in-Some-clause-are c = held_pop c.args.key c.args.self.now.first.items c.args.self.now.values.items c.pop_front.new.self.items c.in-Some.value _ c.requires c.in-Some.ensures.items c.pop_candidate.ensures
