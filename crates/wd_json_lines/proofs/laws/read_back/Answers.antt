use Rattle.std.proofs.Common.{map, sym, subst}
use Rattle.std.proofs.lemmas.Result.{IfErr-weaker, IfOk-weaker}
use Rattle.wd_json_lines.specs.Lines.{AreLines}
use Rattle.wd_json_lines.proofs.Reading.{not_refused, one_list}
use Rattle.wd_json_lines.proofs.laws.read_back.Goals as goal

pub returns-clause-same : goal.returns-clause-same
returns-clause-same g c =
    let json = g.T.InLine.json in
    let xs = map g.T.InLine.said c.args.items.now in
    let spelled : AreLines json xs c.deref.result.now = subst (AreLines json xs) (sym c.deref.ensures.value) c.in_ok-bytes.ensures.spells in
    IfOk-weaker c.read_lines.result _ _ (λ v h. one_list json c.deref.result.now (map g.T.InLine.said v.items) xs h spelled) c.read_lines.ensures.ok

pub returns-clause-memory : goal.returns-clause-memory
returns-clause-memory g c =
    let json = g.T.InLine.json in
    let xs = map g.T.InLine.said c.args.items.now in
    let spelled : AreLines json xs c.deref.result.now = subst (AreLines json xs) (sym c.deref.ensures.value) c.in_ok-bytes.ensures.spells in
    IfErr-weaker c.read_lines.result _ _ (λ e h. not_refused json c.deref.result.now xs e spelled h) c.read_lines.ensures.refused
