use Rattle.std.proofs.Common.{◌≡◌, [], All, length}
use Rattle.wd_run.proofs.data.empty_tables.Given as goal

abbrev pub invariant-loop : goal.invariant-loop
invariant-loop l = record {
  long : length l.instance.items ≡ l.counter;
  empty : All (λ rows. rows ≡ []) l.instance.items;
}
