use Rattle.std.proofs.Common.{◌∙◌, ◌+◌, [], ◌∷◌, length, ap, sym, subst, arith, eqb-true, length-append}
use Rattle.std.proofs.lemmas.Bool.{eqb-false}
use Rattle.wd_json.specs.Json.{IsJsonOf}
use Rattle.wd_baseline.specs.Findings.{finding_json}
use Rattle.wd_json_lines.specs.Lines.{first_line}
use Rattle.wd_json_lines.proofs.Reading.{shorter}
use Rattle.wd_baseline.specs.Refusals.{HasLineCause}
use Rattle.wd_baseline.proofs.Reading.{IsLineOf, no_more, one_more, refused}
use Rattle.wd_baseline.proofs.lines.lines_in.Goals as goal

pub returns-in-Err-clause-refused : goal.returns-in-Err-clause-refused
returns-in-Err-clause-refused c =
    subst (λ r. HasLineCause r c.args.bytes.now) (sym c.at_line.ensures)
    (refused c.args.bytes.now c.loop-rest.rest.now c.loop-rest.found.items c.in-Err.error (c.len.result + 2) c.loop-rest.invariant.read
    (eqb-false (length c.loop-rest.rest.now) 0 (sym c.loop-rest-test.ensures))
    (λ shape f json. c.in-Err.ensures.refused shape f (subst (IsJsonOf (finding_json f)) (sym c.split_line.ensures.line) json))
    (omega (arith, c.len.ensures, c.loop-rest.found.ok.0)))

pub loop-rest-preserved : goal.loop-rest-preserved
loop-rest-preserved c =
    let rest = c.loop-rest.rest.now in
    let found = c.loop-rest.found.items in
    let text = c.in-Ok.text in
    let some = eqb-false (length rest) 0 (sym c.loop-rest-test.ensures) in
    let spelled : IsLineOf (first_line rest) text = subst (λ l. IsLineOf l text) c.split_line.ensures.line c.in-Ok.ensures.ok in
    record {
      read = one_more c.args.bytes.now rest c.split_line.result.1.now found c.push.new.self.items text c.loop-rest.invariant.read some spelled c.in_ok-push-in-Ok.ensures.items c.split_line.ensures.rest;
      within = omega (arith, ap length c.in_ok-push-in-Ok.ensures.items, length-append found (text ∷ []), shorter rest some, ap length c.split_line.ensures.rest, c.loop-rest.invariant.within);
    }

pub returns-clause-ok : goal.returns-clause-ok
returns-clause-ok c =
    let h = c.loop-rest.invariant.read in
    (h.read, no_more c.args.bytes.now c.loop-rest.rest.now c.loop-rest.found.items h (eqb-true (length c.loop-rest.rest.now) 0 (sym c.is_empty.ensures ∙ c.loop-rest-test.false)), h.texts)
