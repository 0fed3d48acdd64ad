use Rattle.std.proofs.Common.{rules, vec_items}
use Rattle.wd_close.proofs.Watching.{watched_is}
use Rattle.wd_close.proofs.watchers.watch.Goals as goal

pub returns-in_ok-push : goal.returns-in_ok-push
returns-in_ok-push c = watched_is vec_items c.args.watchers.now.items c.place-at.result c.index_mut.result.now c.push.new.self c.args.fact _ (search rules) c.index_mut.ensures.value c.in_ok-push.ensures.items c.place-at.ensures
