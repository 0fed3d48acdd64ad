use Rattle.std.proofs.Common.{◌≡◌, ◌∙◌, ◌<◌, arith, get_or, inl, inr, subst, sym, zero-add}
use Rattle.std.proofs.lemmas.Bool.{cases_lt}
use Rattle.std.proofs.lemmas.List.{ext_get_or}
use Rattle.std.proofs.lemmas.List.FromFn.{get_or-range_with_len, length-range_with_len}
use Rattle.wd_value.specs.Bags.{positions}
use Rattle.wd_joined.proofs.lists.are_first.Goals as goal

pub loop-place-preserved : goal.loop-place-preserved
loop-place-preserved c = λ p low. elim (cases_lt p c.loop-place.place) [
  | inl before ↦ c.loop-place.invariant p before
  | inr after ↦ (
      let here : c.loop-place.place ≡ p = omega arith in
      subst (λ q. get_or c.args.list.now q 0 ≡ q) here c.if-list-place.false)
]

pub returns : goal.returns
returns c = λ is. (
    let list = c.args.list.now in
    let n = c.args.count in
    let many = length-range_with_len 0 n in
    ext_get_or 0 list (positions n) (c.if-list-count.false ∙ sym many) (λ p low. (
    let there : p < n = omega (arith, c.if-list-count.false) in
    c.loop-place.invariant p (omega (arith, c.loop-place-test.false)) ∙ sym (get_or-range_with_len 0 n p 0 there ∙ zero-add p))))
