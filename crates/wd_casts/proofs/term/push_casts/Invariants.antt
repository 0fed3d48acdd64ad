use Rattle.std.proofs.Common.{◌≡◌, ◌++◌, ◌-◌, length}
use Rattle.wd_casts.specs.Terms.{casts_from}
use Rattle.wd_casts.proofs.term.push_casts.Given as goal

abbrev pub invariant-loop : goal.invariant-loop
invariant-loop l = record {
  casts : l.casts.items ++ (casts_from (length l.tokens - l.counter) l.rest).0 ≡ l.initial.casts.items ++ (casts_from (length l.tokens) l.tokens).0;
  after : (casts_from (length l.tokens - l.counter) l.rest).1 ≡ (casts_from (length l.tokens) l.tokens).1;
}
