use Rattle.std.proofs.Common.{◌∙◌, ◌++◌, map, [], refl, ap, subst, sym}
use Rattle.std.proofs.lemmas.List.{take_all}
use Rattle.serde_json.specs.Written.{compact_text}
use Rattle.wd_json.specs.Json.{IsJsonOf}
use Rattle.wd_json_lines.specs.Lines.{AreLines}
use Rattle.wd_json_lines.proofs.Texts.{AreWritten, are_lines, line_more, none_written}
use Rattle.wd_json_lines.proofs.write.write_lines.Goals as goal

pub loop-item-init : goal.loop-item-init
loop-item-init g c = none_written g.T.InLine.json [] c.new-text.result.items refl c.new-text.ensures.items

pub loop-item-preserved : goal.loop-item-preserved
loop-item-preserved g c =
    let json = g.T.InLine.json in
    let said = g.T.InLine.said in
    line_more json said c.args.items.now c.loop-item.item-index c.item-item.result c.loop-item.text.items c.in_ok-line.line.items _ _ c.loop-item.invariant c.loop-item-test.true
    (c.in_ok-line.ensures.text ∙ ap (λ x. compact_text (json (said x))) c.item-item.is) (subst (λ x. IsJsonOf (json (said x)) c.in_ok-line.line.items) c.item-item.is c.in_ok-line.ensures.spells)
    (c.in_ok-extend_from_slice.ensures.items ∙ ap (λ l. c.loop-item.text.items ++ l) c.deref.ensures.value) c.in_ok-push.ensures.items

pub returns-clause-spells : goal.returns-clause-spells
returns-clause-spells g c =
    let json = g.T.InLine.json in
    let xs = map g.T.InLine.said c.args.items.now in
    let all = take_all c.loop-item.item-index c.args.items.now c.loop-item-test.false in
    let whole : AreWritten json xs c.loop-item.text.items = subst (λ l. AreWritten json (map g.T.InLine.said l) c.loop-item.text.items) all c.loop-item.invariant in
    subst (AreLines json xs) (sym whole.text_is) (are_lines json xs whole.spelled)
