use Rattle.std.proofs.Common.{◌∙◌, ap}
use Rattle.wd_frame.specs.Slides.{first_of_two, shown}
use Rattle.wd_frame.proofs.Joining.{join_firsts}
use Rattle.wd_frame.proofs.extreme.ExtremeJoin.join.Goals as goal

pub returns : goal.returns
returns g c = λ xs ys first second few.
    join_firsts g.D.Direction.order g.met.D.Direction.nulls_last c.args.first c.args.second c.first_of.result (c.first_of.ensures ∙ ap (λ k. first_of_two k (shown c.args.first) (shown c.args.second)) c.key.ensures) xs ys first second
