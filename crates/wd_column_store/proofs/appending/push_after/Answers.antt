use Rattle.wd_column_store.proofs.Places.{others}
use Rattle.wd_column_store.proofs.Beside.{pushed}
use Rattle.wd_column_store.proofs.appending.push_after.Goals as goal

pub returns-clause-pushed : goal.returns-clause-pushed
returns-clause-pushed c = pushed c.args.rows.now.items c.args.position c.index_mut.result.now c.push.new.self c.args.value c.requires c.index_mut.ensures.value c.in_ok-push.ensures.items

pub returns-clause-others : goal.returns-clause-others
returns-clause-others c = λ p apart. others c.args.rows.now.items c.args.position p c.push.new.self apart
