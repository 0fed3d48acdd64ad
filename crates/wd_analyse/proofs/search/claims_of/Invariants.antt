use Rattle.std.proofs.Common.{take, drop, map, vec_items}
use Rattle.std.specs.List.{AllByRecursion}
use Rattle.wd_plan.specs.Fits.{AreBelow}
use Rattle.wd_analyse.specs.Evidence.{closing_of}
use Rattle.wd_analyse.specs.Steps.{IsSearch}
use Rattle.wd_analyse.proofs.search.claims_of.Given as goal

abbrev pub invariant-loop-source : goal.invariant-loop-source
invariant-loop-source l = record {
  search : IsSearch l.facts l.width (map vec_items (take l.source-index l.sources)) l.search.tried (map closing_of l.search.claims.items);
  low : AllByRecursion (AreBelow l.width) (map vec_items (drop l.source-index l.sources));
}
