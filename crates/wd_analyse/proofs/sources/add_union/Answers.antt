use Rattle.std.proofs.Common.{◌≡◌, ◌-◌, true, nat_lt, subst, sym, ap, ◌∙◌}
use Rattle.std.specs.List.{list_all}
use Rattle.wd_step_facts.specs.Facts.{fact_of}
use Rattle.wd_analyse.specs.Sources.{columns_in}
use Rattle.wd_analyse.proofs.Outputs.{plain_low}
use Rattle.wd_analyse.proofs.sources.add_union.Goals as goal

pub union-requires : goal.union-requires
union-requires c =
    subst (λ X. list_all (λ k. nat_lt k (65536 - c.args.by)) X ≡ true) (sym (c.deref-2.ensures.value ∙ c.in_ok-others.ensures ∙ ap columns_in c.deref.ensures.value))
    (plain_low (65536 - c.args.by) (fact_of c.args.fact.now) c.requires)
