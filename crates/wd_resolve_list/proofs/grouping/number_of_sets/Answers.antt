use Rattle.std.proofs.Common.{◌≡◌, ◌∙◌, sym, ap, ℕ, suc, ◌*◌, ◌^◌, ◌%◌, ◌≤◌, min, max, arith}
use Rattle.std.proofs.Math.Pow.{pow_mono}
use Rattle.wd_syntax.specs.declared.query.GroupingWord.{GroupingWord}
use Rattle.wd_resolve_list.specs.Grouping.{count_made}
use Rattle.wd_resolve_list.proofs.grouping.number_of_sets.Goals.{in_default-via-in-Rollup+else-count-lt-MOST_SETS, in_default-via-in-Cube+else-count-lt7, in_default-via-in-Sets+else-count-le-MOST_SETS}
use Rattle.wd_resolve_list.proofs.grouping.number_of_sets.Goals as goal

fits : (x : ℕ) → x ≤ 64 → 1 * x % 18446744073709551616 ≡ min 65 x
fits x h = omega arith

past : (x : ℕ) → 65 ≤ x → 65 ≡ min 65 x
past x h = omega arith

pub returns-in-Cube : goal.returns-in-Cube
returns-in-Cube c =
    let few : 2 ^ c.args.count ≤ 2 ^ 6 = pow_mono {i = c.args.count} {j = 6} (let less = c.if-count-lt7.true in omega (arith, less)) in
    fits (2 ^ c.args.count) few ∙ ap (λ (word : GroupingWord). min 65 (count_made word c.args.count)) (sym c.in-Cube.is)

pub returns-in_default : goal.returns-in_default
returns-in_default c = elim c.in_default.branch [
  | in_default-via-in-Rollup+else-count-lt-MOST_SETS w ↦ (
      let many = w.if-count-lt-MOST_SETS.false in
      past (suc c.args.count) (omega (arith, many)) ∙ ap (λ (word : GroupingWord). min 65 (count_made word c.args.count)) (sym w.in-Rollup.is))
  | in_default-via-in-Cube+else-count-lt7 w ↦ (
      let many : 2 ^ 7 ≤ 2 ^ c.args.count = pow_mono {i = 7} {j = c.args.count} (let least = w.if-count-lt7.false in omega (arith, least)) in
      past (2 ^ c.args.count) (let less : 128 ≤ 2 ^ c.args.count = many in omega (arith, less)) ∙ ap (λ (word : GroupingWord). min 65 (count_made word c.args.count)) (sym w.in-Cube.is))
  | in_default-via-in-Sets+else-count-le-MOST_SETS w ↦ (
      let many = w.if-count-le-MOST_SETS.false in
      past (max 1 c.args.count) (omega (arith, many)) ∙ ap (λ (word : GroupingWord). min 65 (count_made word c.args.count)) (sym w.in-Sets.is))
]
