use Rattle.std.proofs.Common.{◌≡◌, ◌∙◌, Ok, true, length, nat_lt, ap, sym, rules}
use Rattle.wd_plan.specs.Expressions.{expression_of}
use Rattle.wd_join.specs.Joins.{has_more_rows}
use Rattle.wd_join.specs.Matching.{matching}
use Rattle.wd_join.specs.Paired.{AreExact}
use Rattle.wd_join.proofs.Pairing.{exact_outcome}
use Rattle.wd_join.proofs.paired.equal_pairs.Goals as goal

pub returns-in_err-pairs-in-Some-clause-too_many : goal.returns-in_err-pairs-in-Some-clause-too_many
returns-in_err-pairs-in-Some-clause-too_many c = λ refused. (
    let e = expression_of c.args.condition.now in
    let left = c.args.left.now in
    let right = c.args.right.now in
    let most = c.args.most in
    let columns = c.in-Some.columns.items in
    let exact : AreExact e columns left right = rw c.in-Some.is at c.in_ok-exact_columns.ensures.exact in
    let many : nat_lt most (length (matching c.deref.result.now left right)) ≡ true = c.in_err-pairs-in-Some.ensures.too_many (search rules) in
    ap (has_more_rows most) (exact_outcome e columns left right exact) ∙ ap (λ cs. nat_lt most (length (matching cs left right))) (sym c.deref.ensures.value) ∙ many)

pub returns-in_ok-pairs-in-Some-clause-pairs : goal.returns-in_ok-pairs-in-Some-clause-pairs
returns-in_ok-pairs-in-Some-clause-pairs c =
    let e = expression_of c.args.condition.now in
    let left = c.args.left.now in
    let right = c.args.right.now in
    let columns = c.in-Some.columns.items in
    let exact : AreExact e columns left right = rw c.in-Some.is at c.in_ok-exact_columns.ensures.exact in
    let found = c.in_ok-pairs-in-Some.ensures.pairs ∙ ap (λ cs. matching cs left right) c.deref.ensures.value in
    exact_outcome e columns left right exact ∙ ap Ok (sym found)
