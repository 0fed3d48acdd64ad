use Rattle.std.proofs.Common.{◌≡◌, ◌++◌, drop, map, vec_items}
use Rattle.wd_step_facts.specs.Facts.{fact_of}
use Rattle.wd_analyse.specs.Steps.{copy_in, left_sides_by}
use Rattle.wd_analyse.proofs.sources.add_left_sides_by.Given as goal

abbrev pub invariant-loop-fact : goal.invariant-loop-fact
invariant-loop-fact l =
    map vec_items l.list.items ++ left_sides_by (copy_in l.copies) l.width (map fact_of (drop l.fact-index l.facts))
    ≡ map vec_items l.fn.list.items ++ left_sides_by (copy_in l.copies) l.width (map fact_of l.facts)
