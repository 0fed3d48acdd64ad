use Rattle.wd_joined.proofs.Needing.{none_more, placed_in}
use Rattle.wd_joined.proofs.needed.Needed.origin_of.Goals as goal

pub returns-in-None-clause-more : goal.returns-in-None-clause-more
returns-in-None-clause-more c = none_more c.args.self.now

pub returns-in_ok-table-in-Some-clause-within : goal.returns-in_ok-table-in-Some-clause-within
returns-in_ok-table-in-Some-clause-within c = placed_in c.args.tables.now c.args.positions.now c.number_of.new.self c.in-Some.field-0.table c.in_ok-table-in-Some.table c.in-Some.field-0.column c.in_ok-table-in-Some.ensures.needed c.in_ok-table-in-Some.ensures.number
