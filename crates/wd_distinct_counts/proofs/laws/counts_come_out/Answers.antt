use Rattle.wd_distinct_counts.proofs.Worked.{counts_come_out as law}
use Rattle.wd_distinct_counts.proofs.laws.counts_come_out.Goals as goal

pub returns : goal.returns
returns c = law
