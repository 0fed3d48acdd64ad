use Rattle.std.proofs.lemmas.Grind.{common_steps}
use Rattle.std.proofs.Common.{◌<◌, ◌∙◌, length, map, rules, sym, arith}
use Rattle.std.proofs.lemmas.List.{length-map}
use Rattle.wd_plan.specs.Plans.{window_of}
use Rattle.wd_candidates.specs.Marks.{is_marked}
use Rattle.wd_candidates.specs.Origins.{call_columns}
use Rattle.wd_candidates.proofs.Sources.{call_at}
use Rattle.wd_candidates.proofs.Wanted.{wanted_next, wanted_passed}
use Rattle.wd_candidates.proofs.tied.mark_calls.Goals as goal
use Rattle.wd_candidates.proofs.tied.mark_calls.Goals.{then-is_marked, else-is_marked}

pub loop-number-preserved : goal.loop-number-preserved
loop-number-preserved c =
    let w = window_of c.args.window.now in
    let calls = c.args.window.now.calls.items in
    let lists = map (call_columns w) calls in
    let wanted = is_marked c.args.wanted.now in
    let i = c.loop-number.number in
    let inside : i < length calls = search rules in
    elim c.if-is_marked.branch [
      | then-is_marked b ↦
          let call = b.index.result.now in
          rw b.marks-is (wanted_next c.args.marks.now c.loop-number.marks b.mark_call.new.marks lists wanted i (call_columns w call) (simp length-map inside) (sym c.is_marked.ensures ∙ b.if-is_marked.true)
          (call_at w calls i call inside b.index.ensures) c.loop-number.invariant b.mark_call.ensures)
      | else-is_marked b ↦ rw b.marks-is (wanted_passed c.args.marks.now c.loop-number.marks lists wanted i (simp length-map inside) (sym c.is_marked.ensures ∙ b.if-is_marked.false) c.loop-number.invariant)
    ]

pub returns : goal.returns
returns c = grind (arith, common_steps)
