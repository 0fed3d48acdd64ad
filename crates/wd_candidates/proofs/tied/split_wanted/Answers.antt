use Rattle.std.proofs.Common.{◌∙◌, ap, drop, take}
use Rattle.wd_plan.specs.Plans.{plan_of}
use Rattle.wd_candidates.proofs.Walks.{width_is}
use Rattle.wd_candidates.proofs.tied.split_wanted.Goals as goal

pub returns : goal.returns
returns c =
    let wanted = c.args.wanted.now in
    let wide = width_is (plan_of c.args.input.now) c.width.result c.requires.narrow c.width.ensures in
    record { front = c.split_at.ensures.front ∙ ap (λ k. take k wanted) wide; back = c.split_at.ensures.back ∙ ap (λ k. drop k wanted) wide }
