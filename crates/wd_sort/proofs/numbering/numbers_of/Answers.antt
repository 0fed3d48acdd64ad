use Rattle.std.proofs.lemmas.Grind.{common_steps}
use Rattle.std.proofs.Common.{◌≡◌, ◌∙◌, ℕ, ◌+◌, ◌<◌, ◌⊎◌, inl, inr, ◌++◌, [], ◌∷◌, Some, get_or, length, rules, sym, ap, subst, arith}
use Rattle.std.proofs.lemmas.List.{get_or_append_left, get_or_push, length_push}
use Rattle.wd_value.specs.Rows.{column_of, row_at}
use Rattle.wd_sort.specs.Known.{place_in}
use Rattle.wd_sort.proofs.Rewriting.{before_or_at}
use Rattle.wd_sort.proofs.numbering.numbers_of.Goals as goal

pub loop-i-preserved : goal.loop-i-preserved
loop-i-preserved c =
    let rows = c.args.rows.now in
    let given = c.args.positions.now in
    let column = c.args.column in
    let i = c.loop-i.i in
    let old = c.loop-i.numbers.items in
    let number = c.in_ok-number.number in
    let now = c.number_of.new.self in
    let items : c.push.new.self.items ≡ old ++ number ∷ [] = search rules in
    let value : c.value-value.result.now ≡ column_of (row_at rows (get_or given i 0)) column = search rules in
    let here : place_in now c.value-value.result.now ≡ Some number = search rules in
    let there : get_or c.push.new.self.items i 0 ≡ number = ap (λ l. get_or l i 0) items ∙ get_or_push old number 0 i c.loop-i.invariant.long in
    let last : place_in now (column_of (row_at rows (get_or given i 0)) column) ≡ Some (get_or c.push.new.self.items i 0) = ap (place_in now) (sym value) ∙ here ∙ ap Some (sym there) in
    let before : (k : ℕ) → k < i → place_in now (column_of (row_at rows (get_or given k 0)) column) ≡ Some (get_or c.push.new.self.items k 0) = λ k low.
    (let same : get_or c.push.new.self.items k 0 ≡ get_or old k 0 = ap (λ l. get_or l k 0) items ∙ get_or_append_left old (number ∷ []) 0 k (rw c.loop-i.invariant.long low) in
    c.in_ok-number.ensures.kept (column_of (row_at rows (get_or given k 0)) column) (get_or old k 0) (c.loop-i.invariant.each k low) ∙ ap Some (sym same)) in
    record {
      known = search rules;
      long = ap length items ∙ length_push old number ∙ ap (λ n. n + 1) c.loop-i.invariant.long;
      each = λ k low. by_case k last before (before_or_at k i low);
    }
  where
    placed : ℕ → Type 0
    placed k = place_in c.number_of.new.self (column_of (row_at c.args.rows.now (get_or c.args.positions.now k 0)) c.args.column) ≡ Some (get_or c.push.new.self.items k 0)

    by_case : (k : ℕ) → placed c.loop-i.i → ((k : ℕ) → k < c.loop-i.i → placed k) → (k < c.loop-i.i) ⊎ (k ≡ c.loop-i.i) → placed k
    by_case k last before (inl h) = before k h
    by_case k last before (inr e) = subst placed (sym e) last

pub returns : goal.returns
returns c = grind (arith, common_steps)
