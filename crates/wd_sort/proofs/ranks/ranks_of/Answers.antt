use Rattle.std.proofs.Common.{◌≡◌, ◌∙◌, suc, ◌+◌, ◌<◌, map, set, get_or, length, ap, arith, rules, sym, subst}
use Rattle.std.proofs.lemmas.List.{get_or_read}
use Rattle.wd_sort.specs.declared.ranks.Entry.{Entry}
use Rattle.wd_sort.specs.Ranks.{AreSortedEntries, step_to, steps_before}
use Rattle.wd_sort.proofs.Ranking.{AreRanks-from_written, AreWritten, AreWritten-more, none}
use Rattle.wd_sort.proofs.ranks.ranks_of.Goals as goal

pub overflow_add-rank : goal.overflow_add-rank
overflow_add-rank c =
    let small = c.step_to-rank.ensures.small in
    let low = c.loop-i.invariant.small in
    let ok = c.in_ok-entries.entries.ok.0 in
    omega arith

pub loop-i-preserved : goal.loop-i-preserved
loop-i-preserved c =
    let key = c.args.key in
    let entries = c.in_ok-entries.entries.items in
    let i = c.loop-i.i in
    let v = c.loop-i.rank + c.step_to-rank.result in
    let are : AreSortedEntries key c.args.values.now entries = search rules in
    let low : i < length entries = omega arith in
    let here : c.index.result.now ≡ get_or entries i none = get_or_read entries i c.index.result.now low c.index.ensures none in
    let step : c.step_to-rank.result ≡ step_to key (map (λ (e : Entry). e.value.now) entries) i = c.step_to-rank.ensures.is ∙ (λ t. step_to key (map (λ (e : Entry). e.value.now) (c.deref.ensures.value t)) i) in
    let next : suc i ≡ i + 1 = omega arith in
    let rank : v ≡ steps_before key (map (λ (e : Entry). e.value.now) entries) (i + 1) =
    (λ t. c.loop-i.invariant.rank t + step t) ∙ ap (steps_before key (map (λ (e : Entry). e.value.now) entries)) next in
    record {
      rank = rank;
      small = (let small = c.step_to-rank.ensures.small in let before = c.loop-i.invariant.small in omega arith);
      written = subst (λ p. AreWritten key c.args.values.now entries (i + 1) (set c.loop-i.ranks.items p v)) (sym (ap (λ (e : Entry). e.place) here))
          (AreWritten-more key c.args.values.now entries are i v c.loop-i.ranks.items low rank c.loop-i.invariant.written);
    }

pub returns : goal.returns
returns c =
    let key = c.args.key in
    let entries = c.in_ok-entries.entries.items in
    let are : AreSortedEntries key c.args.values.now entries = search rules in
    let done : c.loop-i.i ≡ length entries = omega arith in
    AreRanks-from_written key c.args.values.now entries are c.loop-i.ranks.items (subst (λ n. AreWritten key c.args.values.now entries n c.loop-i.ranks.items) done c.loop-i.invariant.written)
