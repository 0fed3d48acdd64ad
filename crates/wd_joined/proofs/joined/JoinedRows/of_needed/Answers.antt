use Rattle.std.proofs.Common.{◌∙◌, [], None, ap, get_or, rules, subst, sym, take}
use Rattle.std.proofs.lemmas.List.{take_all, take_more}
use Rattle.wd_joined.specs.Joined.{rows_joined}
use Rattle.wd_joined.proofs.Needing.{ArePlaced, none_placed, one_placed, placed_within, rows_placed}
use Rattle.wd_joined.proofs.joined.JoinedRows.of_needed.Goals as goal

pub loop-origin-init : goal.loop-origin-init
loop-origin-init c =
    let tables = c.args.tables.now in
    let lists = c.args.positions.now in
    let needed = c.in_ok-needed.needed in
    subst (ArePlaced tables lists needed []) (sym c.in_ok-placed.ensures.items)
    (none_placed tables lists needed (c.in_ok-needed.ensures.needed tables lists (search rules)))

pub loop-origin-preserved : goal.loop-origin-preserved
loop-origin-preserved c =
    let tables = c.args.tables.now in
    let lists = c.args.positions.now in
    let origins = c.args.origins.now in
    let new = c.origin_of.new.self in
    let at = c.loop-origin.origin-index in
    let made = c.in_ok-origin_of.ensures in
    subst (λ there. there) (λ i. ArePlaced tables lists new (sym (take_more origins at None c.loop-origin-test.true) i) (sym c.in_ok-push.ensures.items i))
    (one_placed tables lists c.loop-origin.needed new (take at origins) c.loop-origin.placed.items (get_or origins at None) c.in_ok-origin_of.field-0 c.loop-origin.invariant made.needed made.more made.within made.same)

pub returns : goal.returns
returns c =
    let tables = c.args.tables.now in
    let lists = c.args.positions.now in
    let origins = c.args.origins.now in
    let at = c.loop-origin.origin-index in
    rows_placed tables lists c.loop-origin.needed (take at origins) c.loop-origin.placed.items c.args.count c.loop-origin.invariant
    ∙ ap (λ os. rows_joined tables lists os c.args.count) (take_all at origins c.loop-origin-test.false)

pub invariant_of-result : goal.invariant_of-result
invariant_of-result c = placed_within c.args.tables.now c.args.positions.now c.loop-origin.needed (take c.loop-origin.origin-index c.args.origins.now) c.loop-origin.placed.items c.loop-origin.invariant
