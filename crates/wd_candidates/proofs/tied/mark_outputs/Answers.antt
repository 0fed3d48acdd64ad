use Rattle.std.proofs.lemmas.Grind.{common_steps}
use Rattle.std.proofs.Common.{◌∙◌, arith, map, sym}
use Rattle.std.proofs.lemmas.List.{length-map}
use Rattle.wd_plan.specs.Expressions.{expression_of}
use Rattle.wd_step_facts.specs.Steps.{used}
use Rattle.wd_candidates.specs.Marks.{is_marked}
use Rattle.wd_candidates.proofs.Sources.{output_at}
use Rattle.wd_candidates.proofs.Wanted.{wanted_next, wanted_passed}
use Rattle.wd_candidates.proofs.tied.mark_outputs.Goals as goal
use Rattle.wd_candidates.proofs.tied.mark_outputs.Goals.{then-is_marked, else-is_marked}

pub loop-number-preserved : goal.loop-number-preserved
loop-number-preserved c =
    let outputs = c.args.outputs.now in
    let lists = map used (map expression_of outputs) in
    let wanted = is_marked c.args.wanted.now in
    let i = c.loop-number.number in
    elim c.if-is_marked.branch [
      | then-is_marked w ↦
          let output = w.index-outputs-number.result in
          rw w.marks-is (wanted_next c.args.marks.now c.loop-number.marks w.mark_used.new.marks lists wanted i (used (expression_of output)) (simp length-map (omega arith)) (sym c.is_marked.ensures ∙ w.if-is_marked.true)
          (output_at outputs i output (omega arith) w.index-outputs-number.is) c.loop-number.invariant w.mark_used.ensures)
      | else-is_marked w ↦ rw w.marks-is (wanted_passed c.args.marks.now c.loop-number.marks lists wanted i (simp length-map (omega arith)) (sym c.is_marked.ensures ∙ w.if-is_marked.false) c.loop-number.invariant)
    ]

pub returns : goal.returns
returns c = grind (arith, common_steps)
