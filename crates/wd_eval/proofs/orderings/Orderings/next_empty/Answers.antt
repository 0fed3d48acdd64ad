use Rattle.std.proofs.Common.{◌+◌, refl}
use Rattle.wd_eval.proofs.Cursors.{empty_chosen, empty_sorted, empty_stable}
use Rattle.wd_eval.proofs.orderings.Orderings.next_empty.Goals as goal

pub returns-in_ok-all_empty-in-Chosen : goal.returns-in_ok-all_empty-in-Chosen
returns-in_ok-all_empty-in-Chosen c = record {
  ok = empty_chosen c.args.self.now c.in-Chosen.choice c.in-Chosen.next c.in-Chosen.most c.in-Chosen.is c.args.count (c.in-Chosen.next + c.args.count) refl c.in_ok-all_empty-in-Chosen.ensures.ok;
  refused = tt;
}

pub returns-in_ok-put_empty-in-Sorted : goal.returns-in_ok-put_empty-in-Sorted
returns-in_ok-put_empty-in-Sorted c = record {
  ok = empty_sorted c.args.self.now c.in-Sorted.turned c.in-Sorted.made c.put_empty.new.made c.in-Sorted.is c.args.count c.in_ok-put_empty-in-Sorted.ensures;
  refused = tt;
}

pub returns-in-Stable : goal.returns-in-Stable
returns-in-Stable c = record { ok = empty_stable c.args.self.now c.in-Stable.is c.args.count; refused = tt }
