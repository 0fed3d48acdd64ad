use Rattle.wd_query_front.proofs.front.refusal.Goals as goal
use Rattle.wd_query_front.proofs.front.refusal.Goals.{in-Ok, in-Err}

pub returns-clause-read : goal.returns-clause-read
returns-clause-read c =
    elim c.match-read_texts.branch [
      | in-Ok w ↦ rw w.result-is (record { read = _; reads = w.in-Ok.ensures.read.reads; limits = w.in-Ok.ensures.read.limits })
      | in-Err w ↦ rw w.result-is tt
    ]
