use Rattle.std.proofs.Common.{◌≡◌, ◌∙◌, ap, length, map, sym, subst}
use Rattle.std.proofs.lemmas.List.{length-map}
use Rattle.wd_value.specs.Rows.{rows_at}
use Rattle.wd_joined.specs.Joined.{positions_at, rows_joined}
use Rattle.wd_column_store.specs.Moves.{AreWithin}
use Rattle.wd_joined.proofs.Joining.{count, other_positions, picked}
use Rattle.wd_joined.proofs.joined.JoinedRows.pick.Goals as goal

pub returns : goal.returns
returns c =
    let j = c.self.inside in
    let ps = c.args.positions.now in
    let tables = j.tables.items in
    let lists = j.positions.items in
    let origins = j.origins.items in
    let long : length c.args.self ≡ j.count = ap length (sym c.self.view_is) ∙ count tables lists origins j.count in
    (λ i. rows_joined tables (c.in_ok-picked.ensures i) origins (length ps))
    ∙ (λ i. rows_joined tables (map (positions_at ps) (c.deref.ensures.value i)) origins (length ps))
    ∙ picked tables lists origins j.count ps (subst (λ m. AreWithin m ps) long c.requires)
    ∙ ap (λ rows. rows_at rows ps) c.self.view_is

pub invariant_of-result : goal.invariant_of-result
invariant_of-result c =
    let j = c.self.inside in
    let lists = j.positions.items in
    other_positions j.tables.items lists c.in_ok-picked.picked.items j.origins.items (ap length c.in_ok-picked.ensures ∙ (λ i. length (map (positions_at c.args.positions.now) (c.deref.ensures.value i))) ∙ length-map lists (positions_at c.args.positions.now)) c.self.invariant
