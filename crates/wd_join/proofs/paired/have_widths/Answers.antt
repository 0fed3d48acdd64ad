use Rattle.std.proofs.Common.{◌≡◌, ◌+◌, All, length, rules, arith}
use Rattle.std.proofs.lemmas.List.{length-append}
use Rattle.std.proofs.lemmas.List.Elements.{All-map, All-weaker}
use Rattle.wd_value.specs.Rows.{row_at}
use Rattle.wd_joined.specs.Pairs.{row_paired}
use Rattle.wd_join.proofs.paired.have_widths.Goals as goal

pub returns : goal.returns
returns c same =
    let left = c.args.left.now in
    let right = c.args.right.now in
    let pairs = c.args.pairs.now in
    let a = c.args.left_width in
    let b = c.args.right_width in
    let each : All (λ p. (length (row_at left p.left) ≡ a) × (length (row_at right p.right) ≡ b)) pairs = search rules in
    let whole = All-weaker (λ p. (length (row_at left p.left) ≡ a) × (length (row_at right p.right) ≡ b)) (λ p. length (row_paired left right p) ≡ a + b)
    (λ p h. (let long = length-append (row_at left p.left) (row_at right p.right) in let one = h.0 in let other = h.1 in omega arith)) pairs each in
    All-map (λ row. length row ≡ a + b) (row_paired left right) pairs whole
