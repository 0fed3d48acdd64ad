use Rattle.std.proofs.Common.{◌≡◌, ◌∙◌, sym}
use Rattle.std.proofs.lemmas.List.Elements.{All-map}
use Rattle.std.proofs.lemmas.Bool.{false≢true}
use Rattle.wd_value.specs.Rows.{rows_of, same_row}
use Rattle.wd_value.specs.Bags.{times}
use Rattle.wd_value.proofs.Bags.{SameBag-from_all}
use Rattle.wd_value.proofs.bag.same_bag.Goals as goal

pub returns-then-count_equally : goal.returns-then-count_equally
returns-then-count_equally c =
    let xs = rows_of c.args.first.now in
    let ys = rows_of c.args.second.now in (
      λ h. SameBag-from_all xs ys (All-map (λ r. times same_row r xs ≡ times same_row r ys) _ _ (c.count_equally.ensures.0 c.if-count_equally.true)) (All-map (λ r. times same_row r xs ≡ times same_row r ys) _ _ (c.count_equally-then-count_equally.ensures.0 h)),
      λ h. c.count_equally-then-count_equally.ensures.1 (λ k d lt. h _),
    )

pub returns-else-count_equally : goal.returns-else-count_equally
returns-else-count_equally c =
    (λ h. absurd (false≢true (sym c.if-count_equally.false ∙ h)), λ h. c.count_equally.ensures.1 (λ k d lt. h _))
