use Rattle.std.proofs.Common.{◌≡◌, ◌++◌, drop, nat_lt}
use Rattle.std.specs.List.{list_all}
use Rattle.wd_step_facts.specs.declared.facts.Member.{Member}
use Rattle.wd_step_facts.specs.declared.facts.Member.TheVariants as member
use Rattle.wd_step_facts.specs.Facts.{columns_named}
use Rattle.wd_sets.specs.Sets.{has, stands_in}
use Rattle.wd_sets.specs.Reaches.{also}
use Rattle.wd_traces.specs.Once.{columns_once, once_after}
use Rattle.wd_traces.proofs.trace.start.Given as goal

abbrev pub invariant-loop-column : goal.invariant-loop-column
invariant-loop-column l =
    (list_all (λ c. nat_lt c l.facts.columns) (drop l.column-index l.trace.from.items) ≡ list_all (λ c. nat_lt c l.facts.columns) l.trace.from.items)
    × (l.followed.from.items ++ once_after (λ c. member.Column c) (has l.followed.set) (drop l.column-index l.trace.from.items) ≡ columns_once l.trace.from.items)
    × ((m : Member) → also (has l.followed.set) (columns_named (drop l.column-index l.trace.from.items)) m ≡ stands_in (columns_named l.trace.from.items) m)
