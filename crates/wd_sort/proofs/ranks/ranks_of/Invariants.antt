use Rattle.std.proofs.Common.{◌≡◌, ◌≤◌, map}
use Rattle.wd_sort.specs.Ranks.{steps_before}
use Rattle.wd_sort.proofs.Ranking.{AreWritten}
use Rattle.wd_sort.proofs.ranks.ranks_of.Given as goal

abbrev pub invariant-loop-i : goal.invariant-loop-i
invariant-loop-i l = record {
  rank : l.rank ≡ steps_before l.key (map (λ e. e.value.now) l.entries.items) l.i;
  small : l.rank ≤ l.i;
  written : AreWritten l.key l.values l.entries.items l.i l.ranks.items;
}
