use Rattle.std.proofs.Common.{◌≡◌, ◌<◌, ◌∙◌, length, subst, sym}
use Rattle.wd_plan.specs.Fits.{width}
use Rattle.wd_plan.specs.Plans.{plan_of}
use Rattle.wd_candidates.proofs.Marked.{marks_back, marks_fresh}
use Rattle.wd_candidates.proofs.Walks.{width_is}
use Rattle.wd_candidates.proofs.tied.uses_of_groups.Goals as goal

pub returns : goal.returns
returns c =
    let marks = c.in_ok-marks.marks in
    let own = marks_back marks.len marks.items c.deref_mut.result.now c.mark_groups.new.marks _ marks.ok.0 c.deref_mut.ensures.value c.mark_groups.ensures in
    let long : length marks.items ≡ width (plan_of c.args.input.now) = c.in_ok-marks.ensures.long ∙ width_is (plan_of c.args.input.now) c.width.result c.requires.narrow c.width.ensures in
    record {
      long = own.long ∙ long;
      used = λ n h. marks_fresh marks.items _ _ n c.in_ok-marks.ensures.none own (subst (λ k. n < k) (sym long) h);
    }
