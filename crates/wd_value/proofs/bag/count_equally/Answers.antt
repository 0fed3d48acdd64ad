use Rattle.std.proofs.Common.{◌≡◌, ◌<◌, length, arith}
use Rattle.std.proofs.lemmas.Bool.{false≢true}
use Rattle.std.proofs.lemmas.List.{get_or_read}
use Rattle.std.proofs.lemmas.List.Elements.{AllWithin-more}
use Rattle.wd_value.specs.Rows.{rows_of, same_row}
use Rattle.wd_value.specs.Bags.{times}
use Rattle.wd_value.proofs.bag.count_equally.Goals as goal

pub returns-then-count : goal.returns-then-count
returns-then-count c =
    let within : c.loop-row.row-index < length c.args.rows.now = omega arith in
    let here : times same_row c.row-item.result.items (rows_of c.args.first.now) ≡ times same_row c.row-item.result.items (rows_of c.args.second.now) → c.count.result ≡ c.count-in-loop-row.result = λ e. cc in (
      λ f. absurd (false≢true f),
      λ all. absurd (c.if-count.true (here (rw (get_or_read c.args.rows.now c.loop-row.row-index c.row-item.result within c.row-item.is c.row-item.result) (all c.loop-row.row-index c.row-item.result within)))),
    )

pub loop-row-preserved : goal.loop-row-preserved
loop-row-preserved c =
    let within : c.loop-row.row-index < length c.args.rows.now = omega arith in
    let here : times same_row c.row-item.result.items (rows_of c.args.first.now) ≡ times same_row c.row-item.result.items (rows_of c.args.second.now) = cc in
    AllWithin-more (λ r. times same_row r.items (rows_of c.args.first.now) ≡ times same_row r.items (rows_of c.args.second.now)) c.args.rows.now 0 c.loop-row.row-index c.loop-row.invariant
    (λ d. rw (← get_or_read c.args.rows.now c.loop-row.row-index c.row-item.result within c.row-item.is d) here)
