use Rattle.std.proofs.lemmas.Grind.{common_steps}
use Rattle.std.proofs.Common.{◌≡◌, ap, rules, arith, length}
use Rattle.std.proofs.lemmas.Fn.{always_returns_same}
use Rattle.std.specs.Ordering.{is_lt}
use Rattle.std.proofs.lemmas.List.Sorted.{ranks_by}
use Rattle.wd_value.proofs.OrderLaws.{compare_total}
use Rattle.wd_sort.specs.declared.ranks.Entry.{Entry}
use Rattle.wd_sort.specs.Ranks.{compare_entries}
use Rattle.wd_sort.proofs.Ranking.{sorted_entries}
use Rattle.wd_sort.proofs.ranks.sorted_entries.Goals as goal

pub returns : goal.returns
returns c =
    let key = c.args.key in
    let entries = c.loop-place.entries.items in
    let compares = always_returns_same _ _ _ (λ a r f h. let e : r ≡ compare_entries key a.0.now a.1.0.now = search rules in (ap is_lt e, search rules)) in
    let i = c.loop-place.invariant in
    let long : length entries ≡ length c.args.values.now = (let l = i.long in omega arith) in
    sorted_entries key c.args.values.now entries c.sort_by.new.self.items long
    (λ k d low. i.each k d (let l = i.long in omega arith)) (λ k d low. i.is k d (let l = i.long in omega arith))
    c.in_ok-sort_by.ensures.permutation
    (c.in_ok-sort_by.ensures.sorted (λ a b. is_lt (compare_entries key a b)) (ranks_by (compare_total key) (λ (e : Entry). e.value.now)) compares)

pub loop-place-preserved : goal.loop-place-preserved
loop-place-preserved c = grind (arith, common_steps)
