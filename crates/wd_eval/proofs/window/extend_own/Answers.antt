use Rattle.std.proofs.Common.{sym, subst, length}
use Rattle.wd_plan.specs.Plans.{NameBelow, window_of}
use Rattle.wd_eval.specs.ClassIndexes.{AreIndexed}
use Rattle.wd_eval.specs.Walks.{AreNextIndexes}
use Rattle.wd_eval.proofs.Cursors.{name_indexes, rows_given}
use Rattle.wd_eval.proofs.window.extend_own.Goals as goal

pub with_calls-requires : goal.with_calls-requires
with_calls-requires c =
    let w = window_of c.args.window.now in
    let indexes = c.in_ok-indexes.indexes.items in
    subst (λ ls. NameBelow (length ls) w.calls) (sym c.deref.ensures.value) (name_indexes w c.source.result c.next_indexes-2.new.self indexes c.args.orderings.now c.requires.named c.in_ok-indexes.ensures.ok)

pub returns : goal.returns
returns c =
    let w = window_of c.args.window.now in
    let rows = c.args.rows in
    let old = c.args.orderings.now in
    let new = c.next_indexes-2.new.self in
    let indexes = c.in_ok-indexes.indexes.items in
    let all = subst (λ rs. AreNextIndexes w rs old new indexes) c.source.ensures c.in_ok-indexes.ensures.ok in
    record {
      ok = rows_given w old new rows indexes c.in_ok-extended.extended all (λ orderings listed. c.in_ok-extended.ensures orderings (subst (λ ls. AreIndexed w rows orderings ls) (sym c.deref.ensures.value) listed));
      refused = tt;
    }
