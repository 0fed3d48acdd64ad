use Rattle.std.proofs.Common.{◌∙◌, Some, ap, rules}
use Rattle.std.proofs.lemmas.Map.Text.{hash_map_updates_text}
use Rattle.wd_baseline.specs.Counts.{count_in}
use Rattle.wd_baseline.proofs.Counting.{none_taken, taken}
use Rattle.wd_baseline.proofs.counts.take_one.Goals as goal

pub returns-in-Some-clause-taken : goal.returns-in-Some-clause-taken
returns-in-Some-clause-taken c =
    let left = c.saturating_sub-left.result in
    let new = c.get_mut.follows.lender left in
    taken c.args.counts.now new c.args.line.now c.in-Some.count.now left c.in-Some.ensures.value c.saturating_sub-left.ensures
    (hash_map_updates_text c.args.line.now c.args.counts.now new (Some left) ((c.get_mut.follows.holds left).3 (search rules)))

pub returns-in-None-clause-taken : goal.returns-in-None-clause-taken
returns-in-None-clause-taken c = λ other. ap (λ m. count_in m other) c.get_mut.follows.holds-at-none ∙ none_taken c.args.counts.now c.args.line.now other c.in-None.ensures.value
