use Rattle.std.proofs.Common.{◌≡◌, false, [], length, All, Contains, rules}
use Rattle.std.proofs.lemmas.List.Elements.{All-same}
use Rattle.std.proofs.lemmas.Result.{IfOk-weaker}
use Rattle.wd_value.specs.Rows.{Row}
use Rattle.wd_plan.specs.Expressions.{expression_of}
use Rattle.wd_scalar.specs.Arithmetic.{has_arithmetic}
use Rattle.wd_join.specs.Matching.{AreDeciding, AreSkippable, AreWhole, Decides}
use Rattle.wd_join.proofs.Deciding.{AreSkippable-faultless, AreSkippable-whole}
use Rattle.wd_join.proofs.matching.matching_columns.Goals as goal

pub returns-then-has_arithmetic : goal.returns-then-has_arithmetic
returns-then-has_arithmetic c =
    let e = expression_of c.args.condition.now in
    let left = c.args.left.now in
    let right = c.args.right.now in
    let l = c.first_widths-widths.result.left in
    let r = c.first_widths-widths.result.right in
    let columns = c.deref.result.now in
    let l-wide : All (λ (row : Row). length row ≡ l) left = c.are_wide.ensures.wide (search rules) in
    let r-wide : All (λ (row : Row). length row ≡ r) right = c.are_wide-else-not-are_wide.ensures.wide (search rules) in
    let told : AreDeciding l r e [] columns = search rules in
    let all = All-same (Decides l r e) columns told.own told.grown told.each in
    IfOk-weaker c.whole_columns.result (λ v. All (λ k. Contains columns k × AreWhole k left right) v.items) (λ v. AreSkippable e v.items left right) (λ v h. AreSkippable-whole l r e columns left right l-wide r-wide v.items all h) c.whole_columns.ensures

pub returns-else-has_arithmetic : goal.returns-else-has_arithmetic
returns-else-has_arithmetic c =
    let e = expression_of c.args.condition.now in
    let left = c.args.left.now in
    let right = c.args.right.now in
    let l = c.first_widths-widths.result.left in
    let r = c.first_widths-widths.result.right in
    let columns = c.push_deciding.new.columns.items in
    let l-wide : All (λ (row : Row). length row ≡ l) left = c.are_wide.ensures.wide (search rules) in
    let r-wide : All (λ (row : Row). length row ≡ r) right = c.are_wide-else-not-are_wide.ensures.wide (search rules) in
    let told : AreDeciding l r e [] columns = search rules in
    let all = All-same (Decides l r e) columns told.own told.grown told.each in
    let sure : has_arithmetic e ≡ false = search rules in
    AreSkippable-faultless l r e columns left right l-wide r-wide all sure
