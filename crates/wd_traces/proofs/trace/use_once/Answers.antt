use Rattle.wd_node_facts.specs.Seen.{seen_of}
use Rattle.wd_sets.specs.Sets.{has}
use Rattle.wd_traces.proofs.Used.{marked}
use Rattle.wd_traces.proofs.trace.use_once.Goals as goal

pub returns-clause-after : goal.returns-clause-after
returns-clause-after c =
    marked c.args.node (seen_of c.args.known.now.facts) (has c.args.set.now) (has c.use_number.new.set) c.args.used.now c.remember.new.used c.args.number c.in_ok-use_number.ensures.used c.requires.before c.remember.ensures
