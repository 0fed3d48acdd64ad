use Rattle.std.proofs.Common.{subst}
use Rattle.wd_traces.specs.Known.{AreGivenSets}
use Rattle.wd_traces.proofs.known.with_sets.Goals as goal

pub returns-clause-known : goal.returns-clause-known
returns-clause-known c = record {
  narrow = c.requires;
  first = subst (λ list. AreGivenSets list c.in_ok-first.first) c.deref.ensures.value c.in_ok-first.ensures;
  left = c.in_ok-left.ensures;
  right = c.in_ok-right.ensures;
  last = subst (λ list. AreGivenSets list c.in_ok-last.last) c.deref-2.ensures.value c.in_ok-last.ensures;
  on_left = c.in_ok-on_left.ensures;
  on_right = c.in_ok-on_right.ensures;
}
