use Rattle.std.proofs.Common.{◌≡◌, ◌+◌, ◌∙◌, sym, ap, length, rules, Ok}
use Rattle.std.proofs.lemmas.List.{length-map}
use Rattle.std.proofs.lemmas.Result.{err_from_is_err_and}
use Rattle.wd_plan.specs.Plans.{Window, class_of, window_of}
use Rattle.wd_eval.specs.Windows.{orderings_of}
use Rattle.wd_eval.proofs.Cursors.{indexes_chosen, indexes_sorted, indexes_stable, stops_chosen}
use Rattle.wd_eval.proofs.orderings.Orderings.next_indexes.Goals as goal

pub returns-in_ok-indexes-in-Chosen : goal.returns-in_ok-indexes-in-Chosen
returns-in_ok-indexes-in-Chosen c =
    let w = window_of c.args.window.now in
    let long = length-map c.args.window.now.classes.items class_of in
    let many : c.len.result ≡ length c.args.window.now.classes.items = search rules in
    let at : c.in-Chosen.next + c.len.result ≡ c.in-Chosen.next + length w.classes = ap (λ n. c.in-Chosen.next + n) (many ∙ sym long) in
    record {
      ok = indexes_chosen c.args.self.now c.in-Chosen.choice c.in-Chosen.next c.in-Chosen.most c.in-Chosen.is w c.args.rows.now c.in_ok-indexes-in-Chosen.indexes.items (c.in-Chosen.next + c.len.result) at c.in_ok-indexes-in-Chosen.ensures.ok;
      refused = tt;
    }

pub returns-in_err-indexes-in-Chosen : goal.returns-in_err-indexes-in-Chosen
returns-in_err-indexes-in-Chosen c =
    let err = err_from_is_err_and c.from_residual.result c.from_residual.ensures.1 in
    rw (err.1, err.2) (record { ok = tt; refused = stops_chosen c.args.self.now c.in-Chosen.choice c.in-Chosen.next c.in-Chosen.most c.in-Chosen.is (Window (window_of c.args.window.now)) (Ok c.args.rows.now) c.in_err-indexes-in-Chosen.field-0.0 c.in_err-indexes-in-Chosen.ensures.refused })

pub returns-in_ok-indexes-in-Sorted : goal.returns-in_ok-indexes-in-Sorted
returns-in_ok-indexes-in-Sorted c =
    let x = c.in_ok-indexes-in-Sorted.ensures in
    record {
      ok = indexes_sorted c.args.self.now c.in-Sorted.turned c.in-Sorted.made c.sorted_indexes.new.made c.in-Sorted.is (window_of c.args.window.now) c.args.rows.now c.in_ok-indexes-in-Sorted.indexes.items x.put x.indexes;
      refused = tt;
    }

pub returns-in_ok-indexes-in-Stable : goal.returns-in_ok-indexes-in-Stable
returns-in_ok-indexes-in-Stable c =
    let x = c.in_ok-indexes-in-Stable.ensures in
    record {
      ok = indexes_stable c.args.self.now c.in-Stable.is (window_of c.args.window.now) c.args.rows.now c.in_ok-indexes-in-Stable.indexes.items (orderings_of c.new.result.items) (orderings_of c.sorted_indexes-in-Stable.new.made.items) x.put x.indexes;
      refused = tt;
    }
