use Rattle.wd_column_store.proofs.Places.{others}
use Rattle.wd_column_store.proofs.moved.take_row.Goals as goal

pub returns-clause-others : goal.returns-clause-others
returns-clause-others c = λ p no. others c.args.rows.now.items c.args.position p c.replace.new.dest no
