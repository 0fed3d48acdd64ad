use Rattle.std.proofs.lemmas.Grind.{common_steps}
use Rattle.std.proofs.Common.{◌≡◌, ◌<◌, false, length, Contains, rules, arith}
use Rattle.std.proofs.lemmas.List.Elements.{All-push, All-same, Contains-get_or}
use Rattle.wd_join.specs.Matching.{AreWhole}
use Rattle.wd_join.proofs.matching.whole_columns.Goals as goal
use Rattle.wd_join.proofs.matching.whole_columns.Goals.{then-not-have_nulls+in_ok-push, else-not-have_nulls}

pub loop-column-preserved : goal.loop-column-preserved
loop-column-preserved c =
    let columns = c.args.columns.now in
    let left = c.args.left.now in
    let right = c.args.right.now in
    let within : c.loop-column.column-index < length columns = omega arith in
    elim c.if-not-have_nulls.branch [
      | then-not-have_nulls+in_ok-push w ↦ (
          let no_null : c.have_nulls.result ≡ false = search rules in
          let whole = c.have_nulls.ensures no_null in
          rw w.whole-is (All-same (λ k. Contains columns k × AreWhole k left right) _ _ w.in_ok-push.ensures.items
          (All-push (λ k. Contains columns k × AreWhole k left right) c.loop-column.whole.items _ c.loop-column.invariant (Contains-get_or columns c.loop-column.column-index _ within, whole))))
      | else-not-have_nulls w ↦ rw w.whole-is c.loop-column.invariant
    ]

pub returns : goal.returns
returns c = grind (arith, common_steps)
