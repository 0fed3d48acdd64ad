use Rattle.std.proofs.Common.{rules, ◌≡◌, ◌+◌, ◌<◌, true, List, map, length, sym, ◌∙◌, ap, subst, arith, vec_items, replicate, [], nat_lt, ℕ}
use Rattle.std.specs.List.{list_all}
use Rattle.wd_step_facts.specs.Facts.{FactList, columns_named, fact_of, facts_of}
use Rattle.wd_sets.specs.Sets.{has, stands_in}
use Rattle.wd_close.specs.Closure.{Derives, IsClosure, is_named, steps_of}
use Rattle.wd_close.specs.Reached as spec
use Rattle.wd_close.proofs.Derivations.{derives, start_derived}
use Rattle.wd_close.proofs.Ends.{ready_first, ready_is}
use Rattle.wd_close.proofs.Loop.{all_steps, is_closure, lacks_all, next_derived, next_state, next_steps, start_state, written}
use Rattle.wd_close.proofs.Names.{all_named, columns_in, has_split}
use Rattle.wd_close.proofs.Once.{from_blank}
use Rattle.wd_close.proofs.Steps.{State, fallen_long, sizes}
use Rattle.wd_close.proofs.Watching.{put_all}
use Rattle.wd_close.proofs.prepared.Prepared.close.Goals as goal

named_here : (facts seen : FactList) (columns : List ℕ) → facts ≡ seen → list_all (λ c. nat_lt c seen.columns) columns ≡ true → list_all (is_named facts) (columns_named columns) ≡ true
named_here facts seen columns e h = columns_in facts columns (subst (λ (f : FactList). list_all (λ c. nat_lt c f.columns) columns ≡ true) (sym e) h)

pub loop-at-init : goal.loop-at-init
loop-at-init c =
    let facts = facts_of c.self.inside.facts.now in
    let named = all_named facts c.self.invariant.named in
    let columns = named_here facts c.args.self.now c.args.columns.now c.self.view_is c.requires in
    let first : c.self.inside.counters.items ≡ sizes facts.list = c.self.invariant.wait ∙ (from_blank facts named).counts in
    let counters : c.in_ok-counters.counters.items ≡ sizes facts.list = c.in_ok-counters.ensures.items ∙ c.deref.ensures.value ∙ first in
    let shown : c.deref-3.result.now ≡ sizes facts.list = c.deref-3.ensures.value ∙ counters in
    let ready : c.deref-4.result.now ≡ ready_first facts.list = c.deref-4.ensures.value ∙ ready_is facts.list c.self.inside.counters.items c.self.inside.ready.items first c.self.invariant.done in
    let list : map fact_of c.deref-2.result.now ≡ facts.list = ap (map fact_of) c.deref-2.ensures.value in
    record {
      mirrors = c.in_ok-fire.ensures.mirrors;
      state = start_state facts (columns_named c.args.columns.now) named columns (map fact_of c.deref-2.result.now) c.in_ok-counters.counters.items c.deref-3.result.now c.deref-4.result.now c.new-queue.result.items c.add_named.new.queue.items c.fire.new.queue.items list counters shown ready c.new-queue.ensures.items c.in_ok-add_named.ensures.queue c.in_ok-fire.ensures.queue;
      derived = start_derived facts (columns_named c.args.columns.now) columns (map fact_of c.deref-2.result.now) c.deref-3.result.now c.deref-4.result.now c.new-queue.result.items c.add_named.new.queue.items c.fire.new.queue.items c.new-uses.result.items c.fire.new.uses.items list shown ready c.new-queue.ensures.items c.in_ok-add_named.ensures.queue c.in_ok-fire.ensures.queue c.new-uses.ensures.items c.in_ok-fire.ensures.uses;
      small = omega arith;
      count = omega (arith, lacks_all facts.list);
    }

pub returns-clause-members : goal.returns-clause-members
returns-clause-members c =
    let facts = facts_of c.self.inside.facts.now in
    subst (λ (f : FactList). IsClosure f c.args.columns.now (has c.loop-at.set)) c.self.view_is (is_closure facts c.args.columns.now c.loop-at.at c.loop-at.queue.items c.loop-at.counters.items (has c.loop-at.set) (has_split facts c.self.invariant.split) (all_named facts c.self.invariant.named) (named_here facts c.args.self.now c.args.columns.now c.self.view_is c.requires) c.loop-at.invariant.state (search rules) c.loop-at.invariant.mirrors)

pub returns-clause-steps : goal.returns-clause-steps
returns-clause-steps c =
    let facts = facts_of c.self.inside.facts.now in
    subst (λ (f : FactList). c.loop-at.steps ≡ steps_of f (has c.loop-at.set)) c.self.view_is (all_steps facts (columns_named c.args.columns.now) c.loop-at.at c.loop-at.queue.items c.loop-at.counters.items (has c.loop-at.set) c.loop-at.steps (all_named facts c.self.invariant.named) c.loop-at.invariant.state (search rules) c.loop-at.invariant.mirrors c.loop-at.invariant.count)

pub returns-clause-uses : goal.returns-clause-uses
returns-clause-uses c =
    subst (λ (f : FactList). Derives f c.loop-at.uses.items (stands_in (columns_named c.args.columns.now)) (has c.loop-at.set)) c.self.view_is (derives (facts_of c.self.inside.facts.now) (columns_named c.args.columns.now) c.loop-at.queue.items c.loop-at.uses.items (has c.loop-at.set) c.loop-at.invariant.derived c.loop-at.invariant.mirrors)

pub loop-at-preserved : goal.loop-at-preserved
loop-at-preserved c =
    let facts = facts_of c.self.inside.facts.now in
    let from = columns_named c.args.columns.now in
    let within = has_split facts c.self.invariant.split in
    let named = all_named facts c.self.invariant.named in
    let queue = c.loop-at.queue.items in
    let counters = c.loop-at.counters.items in
    let lt : c.loop-at.at < length c.loop-at.queue.items = search rules in
    let long : c.loop-at.counters.len ≡ length c.loop-at.counters.items = search rules in
    let W : List (List ℕ) = map vec_items c.deref-in-loop-at.result.now in
    let is : W ≡ put_all (replicate (facts.columns + 3) []) 0 facts.list = ap (map vec_items) c.deref-in-loop-at.ensures.value ∙ c.self.invariant.stand ∙ (from_blank facts named).lists in
    let e : c.take_one.new.counters ≡ spec.fallen counters (spec.watching W queue c.loop-at.at) = c.in_ok-fell.ensures.counters ∙ ap (λ x. spec.fallen x (spec.watching W queue c.loop-at.at)) c.deref_mut.ensures.value in
    let w = written c.take_one.new.counters counters c.loop-at.counters.len (ap length e ∙ fallen_long counters (spec.watching W queue c.loop-at.at)) long in
    record {
      mirrors = c.in_ok-fell.ensures.mirrors;
      state = subst (State facts from (c.loop-at.at + 1) c.take_one.new.queue.items) (sym w) (next_state facts from within named c.loop-at.at queue counters c.loop-at.invariant.state lt W is c.take_one.new.counters c.take_one.new.queue.items e c.in_ok-fell.ensures.queue);
      derived = next_derived facts from within named c.loop-at.at queue counters c.loop-at.invariant.state lt W is c.take_one.new.counters c.take_one.new.queue.items c.loop-at.uses.items c.take_one.new.uses.items e c.in_ok-fell.ensures.queue c.in_ok-fell.ensures.uses c.loop-at.invariant.derived;
      small = omega (arith, c.loop-at.invariant.small, c.in_ok-fell.ensures.small);
      count = next_steps facts from within named c.loop-at.at queue counters c.loop-at.invariant.state lt W is c.take_one.new.counters c.take_one.new.queue.items c.loop-at.steps c.in_ok-fell.fell e c.in_ok-fell.ensures.queue c.in_ok-fell.ensures.fell c.loop-at.invariant.count;
    }
