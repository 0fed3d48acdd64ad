use Rattle.std.proofs.Common.{◌≡◌, ◌∙◌, ◌++◌, ◌<◌, ap, arith, get_or, length, map, rules, sym, subst}
use Rattle.std.proofs.lemmas.List.{length-append}
use Rattle.wd_joined.specs.Joined.{AreOfTables, behind, positions_of_pairs, rows_joined}
use Rattle.wd_joined.specs.Pairs.{AreOf, rows_paired}
use Rattle.wd_joined.proofs.Joining.{StandsIn, count, of_pairs, of_pairs_within}
use Rattle.wd_joined.proofs.joined.JoinedRows.of_pairs.Goals as goal

pub appended_behind-requires : goal.appended_behind-requires
appended_behind-requires c =
    let l = c.left.inside.tables.items in
    let r = c.right.inside.tables.items in
    let within = subst (λ there. (k : _) (d : _) → k < length there → StandsIn (length r) (get_or there k d)) (sym c.deref-3.ensures.value) c.right.invariant.within in
    λ k d low origin is. (
    let less : origin.table < length r = within k d low origin is in
    let long = length-append l r in
    let all = ap length c.in_ok-tables.ensures in
    let before : c.len-before.result ≡ length l = search rules in
    let small = c.in_ok-tables.tables.small in
    let ok = c.in_ok-tables.tables.ok in
    omega arith)

pub returns : goal.returns
returns c =
    let l = c.left.inside in
    let r = c.right.inside in
    let pairs = c.args.pairs.now in
    let lists = l.positions.items in
    let others = r.positions.items in
    let left = rows_joined l.tables.items lists l.origins.items l.count in
    let right = rows_joined r.tables.items others r.origins.items r.count in
    let first : length c.args.left ≡ l.count = ap length (sym c.left.view_is) ∙ count l.tables.items lists l.origins.items l.count in
    let second : length c.args.right ≡ r.count = ap length (sym c.right.view_is) ∙ count r.tables.items others r.origins.items r.count in
    let within = subst (λ m. AreOf l.count m pairs) second (subst (λ m. AreOf m (length c.args.right) pairs) first c.requires) in
    let before : c.len-before.result ≡ length l.tables.items = search rules in
    (λ i. rows_joined (c.in_ok-tables.ensures i) (c.in_ok-positions.ensures i) (c.in_ok-origins.ensures i) (length pairs))
    ∙ (λ i. rows_joined (l.tables.items ++ r.tables.items) (positions_of_pairs (c.deref.ensures.value i) (c.deref-2.ensures.value i) pairs) (l.origins.items ++ map (behind c.len-before.result) c.deref-3.result.now) (length pairs))
    ∙ (λ i. rows_joined (l.tables.items ++ r.tables.items) (positions_of_pairs lists others pairs) (l.origins.items ++ map (behind (before i)) (c.deref-3.ensures.value i)) (length pairs))
    ∙ of_pairs l.tables.items lists l.origins.items l.count r.tables.items others r.origins.items r.count pairs within c.left.invariant
    ∙ (λ i. rows_paired (c.left.view_is i) (c.right.view_is i) pairs)

pub invariant_of-result : goal.invariant_of-result
invariant_of-result c =
    let l = c.left.inside in
    let r = c.right.inside in
    let pairs = c.args.pairs.now in
    let lists = l.positions.items in
    let others = r.positions.items in
    let before : c.len-before.result ≡ length l.tables.items = search rules in
    let positions = c.in_ok-positions.ensures ∙ (λ i. positions_of_pairs (c.deref.ensures.value i) (c.deref-2.ensures.value i) pairs) in
    let origins = c.in_ok-origins.ensures ∙ (λ i. l.origins.items ++ map (behind (before i)) (c.deref-3.ensures.value i)) in
    subst (λ there. there) (λ i. AreOfTables (sym c.in_ok-tables.ensures i) (sym positions i) (sym origins i))
    (of_pairs_within l.tables.items lists l.origins.items l.count r.tables.items others r.origins.items r.count pairs c.left.invariant c.right.invariant)
