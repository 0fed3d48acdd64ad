use Rattle.std.proofs.Common.{◌∙◌, ap}
use Rattle.wd_sets.specs.Sets.{is_in}
use Rattle.wd_analyse.proofs.Rising.{ordered_rises, ordered_same}
use Rattle.wd_analyse.proofs.tried.in_order.Goals as goal

pub returns-clause-rises : goal.returns-clause-rises
returns-clause-rises c = ordered_rises _ c.dedup.new.self.items c.sort_unstable.ensures.sorted c.dedup.ensures.filtered

pub returns-clause-same : goal.returns-clause-same
returns-clause-same c = λ k.
    ordered_same _ _ c.dedup.new.self.items c.sort_unstable.ensures.permutation c.dedup.ensures.filtered k ∙ ap (λ l. is_in l k) c.in_ok-list.ensures.items
