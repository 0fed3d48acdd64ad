use Rattle.std.proofs.Common.{◌≡◌, ◌++◌, drop, map, vec_items}
use Rattle.wd_step_facts.specs.Facts.{fact_of}
use Rattle.wd_analyse.specs.Sources.{unions}
use Rattle.wd_analyse.proofs.sources.add_unions.Given as goal

abbrev pub invariant-loop-fact : goal.invariant-loop-fact
invariant-loop-fact l = map vec_items l.list.items ++ unions (map fact_of (drop l.fact-index l.left)) l.by (map fact_of l.right) ≡ map vec_items l.fn.list.items ++ unions (map fact_of l.left) l.by (map fact_of l.right)
