use Rattle.std.proofs.Common.{◌≡◌, ◌+◌, ◌++◌, [], ◌∷◌, ◌∙◌, sym, ap, subst, length, Ok, arith, length-append}
use Rattle.std.proofs.lemmas.List.{length-map, map_push}
use Rattle.wd_plan.specs.Outcomes.{class_at}
use Rattle.wd_plan.specs.Plans.{class_of, window_of}
use Rattle.wd_eval.specs.Windows.{orderings_of}
use Rattle.wd_eval.specs.ClassIndexes.{AreClassIndexes}
use Rattle.wd_eval.specs.Tied.{IsSortedOver}
use Rattle.wd_eval.specs.Ties.{ArePut}
use Rattle.wd_eval.proofs.Putting.{none_listed, none_put, one_listed, one_put}
use Rattle.wd_eval.proofs.class_index.sorted_indexes.Goals as goal

pub loop-number-init : goal.loop-number-init
loop-number-init c = record {
  put = none_put (window_of c.args.window.now).classes (Ok c.args.rows.now) c.args.turned (orderings_of c.args.made.now.items);
  indexes = subst (λ ls. AreClassIndexes (window_of c.args.window.now) c.args.rows.now (orderings_of c.args.made.now.items) (length (orderings_of c.args.made.now.items)) 0 ls) (sym c.new-indexes.ensures.items)
      (none_listed (window_of c.args.window.now) c.args.rows.now (orderings_of c.args.made.now.items));
}

pub returns-clause-put : goal.returns-clause-put
returns-clause-put c =
    let w = window_of c.args.window.now in
    let long = length-map c.args.window.now.classes.items class_of in
    let all : c.loop-number.number ≡ length w.classes = omega arith in
    subst (λ n. ArePut w.classes (Ok c.args.rows.now) c.args.turned n (orderings_of c.args.made.now.items) (orderings_of c.loop-number.made.items)) all c.loop-number.invariant.put

pub returns-clause-indexes : goal.returns-clause-indexes
returns-clause-indexes c =
    let w = window_of c.args.window.now in
    let long = length-map c.args.window.now.classes.items class_of in
    let all : c.loop-number.number ≡ length w.classes = omega arith in
    subst (λ n. AreClassIndexes w c.args.rows.now (orderings_of c.loop-number.made.items) (length (orderings_of c.args.made.now.items)) n c.loop-number.indexes.items) all c.loop-number.invariant.indexes

pub loop-number-preserved : goal.loop-number-preserved
loop-number-preserved c =
    let w = window_of c.args.window.now in
    let n = c.loop-number.number in
    let rows = c.args.rows.now in
    let turn = c.turn_of-turn.result in
    let sorted = c.in_ok-sorted.sorted in
    let old = orderings_of c.args.made.now.items in
    let mid = orderings_of c.loop-number.made.items in
    let new = orderings_of c.push.new.self.items in
    let number : c.len.result ≡ length mid = (let long = length-map c.loop-number.made.items (λ v. v.items) in omega arith) in
    let grown : new ≡ mid ++ sorted.ordering.items ∷ [] = ap orderings_of c.in_ok-push.ensures.items ∙ map_push (λ v. v.items) c.loop-number.made.items sorted.ordering in
    let stable : IsSortedOver (class_at w n) turn (Ok rows) sorted.ordering.items = c.in_ok-sorted.ensures.stable in
    let p = c.loop-number.invariant.put in
    let size = ap length p.grown ∙ length-append old p.own in
    let many = p.sorted.long in
    let at : length old + n ≡ length mid = omega arith in
    record {
      put = one_put w.classes (Ok rows) c.args.turned n c.len.result old mid new turn sorted.ordering.items p number c.turn_of-turn.ensures stable grown;
      indexes = one_listed w rows (length old) n mid new sorted.ordering.items c.loop-number.indexes.items c.push-in-loop-number.new.self.items sorted.class_index at grown c.loop-number.invariant.indexes c.in_ok-sorted.ensures.class_index c.in_ok-push-2.ensures.items;
    }
