use Rattle.std.proofs.Common.{◌∙◌, ◌+◌, length, map, sym, subst, arith, eqb-true}
use Rattle.std.proofs.lemmas.Bool.{eqb-false}
use Rattle.std.proofs.lemmas.List.{length-map}
use Rattle.wd_json.specs.Json.{IsJsonOf}
use Rattle.wd_json_lines.specs.Refusals.{HasCause}
use Rattle.wd_json_lines.proofs.Reading.{no_more, refused}
use Rattle.wd_json_lines.proofs.read.read_lines.Goals as goal

pub returns-in-Err-clause-refused : goal.returns-in-Err-clause-refused
returns-in-Err-clause-refused g c =
    let found = map g.T.InLine.said c.loop-rest.found.items in
    subst (λ r. HasCause g.T.InLine.json r c.args.bytes.now) (sym c.at_line.ensures)
    (refused g.T.InLine.json c.args.bytes.now c.loop-rest.rest.now found c.in-Err.error (c.len.result + 1) c.loop-rest.invariant.read
    (eqb-false (length c.loop-rest.rest.now) 0 (sym c.loop-rest-test.ensures))
    (λ shape x json. c.in-Err.ensures.refused shape x (subst (IsJsonOf (g.T.InLine.json x)) (sym c.split_line.ensures.line) json))
    (omega (arith, c.len.ensures, c.loop-rest.found.ok.0, length-map c.loop-rest.found.items g.T.InLine.said)))

pub returns-clause-ok : goal.returns-clause-ok
returns-clause-ok g c =
    no_more g.T.InLine.json c.args.bytes.now c.loop-rest.rest.now (map g.T.InLine.said c.loop-rest.found.items) c.loop-rest.invariant.read
    (eqb-true (length c.loop-rest.rest.now) 0 (sym c.is_empty.ensures ∙ c.loop-rest-test.false))
