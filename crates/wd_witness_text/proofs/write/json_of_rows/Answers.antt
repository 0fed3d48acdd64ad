use Rattle.std.proofs.Common.{All, ap, map, subst, ◌∙◌}
use Rattle.std.proofs.lemmas.List.{take_all}
use Rattle.std.proofs.lemmas.List.Elements.{All-map, All-more}
use Rattle.serde_json.proofs.Views.{view-Array}
use Rattle.serde_json.specs.Data.{array}
use Rattle.serde_json.specs.View.{view, items_of}
use Rattle.wd_witness_text.specs.Json.{row_json}
use Rattle.wd_witness_text.specs.Witnesses.{Fits64}
use Rattle.wd_witness_text.proofs.Lists.{one_more, rows_spelled}
use Rattle.wd_witness_text.proofs.write.json_of_rows.Goals as goal

pub loop-row-preserved : goal.loop-row-preserved
loop-row-preserved c =
    let l = c.loop-row in
    let fits = subst (All Fits64) c.deref.ensures.value c.in_ok-item.ensures.fits in (
      one_more view (λ r. row_json r.items) l.list.items c.push.new.self.items c.in_ok-item.item c.args.rows.now l.row-index c.row-item.result c.in_ok-push.ensures.items l.invariant.0 c.loop-row-test.true c.row-item.is
          (c.in_ok-item.ensures.json ∙ ap row_json c.deref.ensures.value),
      All-more (λ r. All Fits64 r.items) c.args.rows.now l.row-index c.row-item.result c.loop-row-test.true l.invariant.1 (subst (λ r. All Fits64 r.items) c.row-item.is fits),
    )

pub returns-clause-json : goal.returns-clause-json
returns-clause-json c = view-Array c.loop-row.list ∙ ap (λ ds. array (items_of ds)) (c.loop-row.invariant.0 ∙ ap (map (λ r. row_json r.items)) (take_all c.loop-row.row-index c.args.rows.now c.loop-row-test.false) ∙ rows_spelled c.args.rows.now)

pub returns-clause-fits : goal.returns-clause-fits
returns-clause-fits c =
    let all = subst (All (λ r. All Fits64 r.items)) (take_all c.loop-row.row-index c.args.rows.now c.loop-row-test.false) c.loop-row.invariant.1 in
    All-map (All Fits64) (λ r. r.items) c.args.rows.now all
