use Rattle.std.proofs.Common.{◌≡◌, ◌++◌, ◌≤◌, ◌∙◌, ap, arith, drop, length, map, subst, take}
use Rattle.std.proofs.lemmas.List.{length-take-le}
use Rattle.wd_plan.specs.Fits.{width}
use Rattle.wd_plan.specs.Plans.{plan_of, window_of}
use Rattle.wd_candidates.specs.Marks.{MarksMore, is_marked}
use Rattle.wd_candidates.specs.Origins.{call_columns, is_in_wanted}
use Rattle.wd_candidates.proofs.Marked.{marks_back}
use Rattle.wd_candidates.proofs.Sources.{passed_on}
use Rattle.wd_candidates.proofs.tied.uses_of_calls.Goals as goal

pub returns : goal.returns
returns c =
    let marks = c.in_ok-marks.marks in
    let wanted = c.args.wanted.now in
    let k = width (plan_of c.args.input.now) in
    let w = window_of c.args.window.now in
    let lists = map (call_columns w) w.calls in
    let own = marks_back marks.len marks.items c.deref_mut.result.now c.mark_calls.new.marks _ marks.ok.0 c.deref_mut.ensures.value c.mark_calls.ensures in
    let final = take marks.len (c.mark_calls.new.marks ++ drop (length c.mark_calls.new.marks) marks.items) in
    let front : marks.items ≡ take k wanted = c.in_ok-marks.ensures.items ∙ c.split_wanted.ensures.front in
    let few : k ≤ length wanted = let long = c.requires.long in omega arith in
    let marked = subst (λ l. MarksMore l (is_in_wanted lists (is_marked (drop k wanted))) final) front (subst (λ l. MarksMore marks.items (is_in_wanted lists (is_marked l)) final) c.split_wanted.ensures.back own) in
    record {
      long = own.long ∙ ap length front ∙ length-take-le k wanted few;
      used = λ n h. passed_on final wanted k lists n marked few h;
    }
