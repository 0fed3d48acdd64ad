use Rattle.std.proofs.Common.{ap, map, subst, ◌∙◌}
use Rattle.std.proofs.lemmas.List.{take_all}
use Rattle.std.proofs.lemmas.List.Elements.{All-more}
use Rattle.serde_json.proofs.Views.{view-Array}
use Rattle.serde_json.specs.Data.{array}
use Rattle.serde_json.specs.View.{view, items_of}
use Rattle.wd_witness_text.specs.Json.{value_json}
use Rattle.wd_witness_text.specs.Witnesses.{Fits64}
use Rattle.wd_witness_text.proofs.Lists.{one_more}
use Rattle.wd_witness_text.proofs.write.json_of_row.Goals as goal

pub loop-value-preserved : goal.loop-value-preserved
loop-value-preserved c =
    let l = c.loop-value in (
      one_more view value_json l.list.items c.push.new.self.items c.in_ok-item.item c.args.row.now l.value-index c.value-item.result c.in_ok-push.ensures.items l.invariant.0 c.loop-value-test.true c.value-item.is c.in_ok-item.ensures.json,
      All-more Fits64 c.args.row.now l.value-index c.value-item.result c.loop-value-test.true l.invariant.1 (subst Fits64 c.value-item.is c.json_of_value.ensures.fits),
    )

pub returns-clause-json : goal.returns-clause-json
returns-clause-json c = view-Array c.loop-value.list ∙ ap (λ ds. array (items_of ds)) (c.loop-value.invariant.0 ∙ ap (map value_json) (take_all c.loop-value.value-index c.args.row.now c.loop-value-test.false))
