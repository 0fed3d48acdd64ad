use Rattle.std.proofs.Common.{◌≡◌, ◌<◌, ◌∙◌, ap, length, subst, sym}
use Rattle.wd_schema.specs.Schemas.{schema_of}
use Rattle.wd_plan.specs.Fits.{width}
use Rattle.wd_plan.specs.Plans.{plan_of}
use Rattle.wd_candidates.specs.Marks.{is_marked}
use Rattle.wd_candidates.proofs.Marked.{marks_back, marks_fresh}
use Rattle.wd_candidates.proofs.Sources.{tied_of}
use Rattle.wd_candidates.proofs.Walks.{width_is}
use Rattle.wd_candidates.proofs.tied.ties_of_class.Goals as goal

pub ties_of-requires-clause-long : goal.ties_of-requires-clause-long
ties_of-requires-clause-long c =
    let marks = c.in_ok-wanted.wanted in
    let own = marks_back marks.len marks.items c.deref_mut.result.now c.mark_class_of.new.marks _ marks.ok.0 c.deref_mut.ensures.value c.mark_class_of.ensures in
    ap length c.deref.ensures.value ∙ own.long ∙ c.in_ok-wanted.ensures.long ∙ width_is (plan_of c.args.input.now) c.width.result c.requires c.width.ensures

pub returns : goal.returns
returns c =
    let marks = c.in_ok-wanted.wanted in
    let own = marks_back marks.len marks.items c.deref_mut.result.now c.mark_class_of.new.marks _ marks.ok.0 c.deref_mut.ensures.value c.mark_class_of.ensures in
    let long : length marks.items ≡ width (plan_of c.args.input.now) = c.in_ok-wanted.ensures.long ∙ width_is (plan_of c.args.input.now) c.width.result c.requires c.width.ensures in
    tied_of (schema_of c.args.schema.now) (plan_of c.args.input.now) _ c.deref.result.now c.in_ok-tied.tied
    (λ n h. (λ i. is_marked (c.deref.ensures.value i) n) ∙ marks_fresh marks.items _ _ n c.in_ok-wanted.ensures.none own (subst (λ k. n < k) (sym long) h))
    c.in_ok-tied.ensures
