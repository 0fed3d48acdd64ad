use Rattle.std.proofs.Common.{◌∙◌, ◌∷◌, [], ap, map, rules}
use Rattle.std.proofs.lemmas.List.{map-append}
use Rattle.wd_schema.specs.Tables.{key_of}
use Rattle.wd_varied.specs.Patterns.{filling_of}
use Rattle.wd_varied.specs.Suggested.{hints_of}
use Rattle.wd_varied.specs.Varied.{filling}
use Rattle.wd_varied.proofs.Places.{place_end, place_next}
use Rattle.wd_varied.proofs.tables.fillings.Goals as goal

pub loop-c-preserved : goal.loop-c-preserved
loop-c-preserved c =
    let column = c.index-column.result.now in
    let at = c.loop-c.c in
    let s = c.args.suggested.now in
    let of = filling_of s.all.items in
    let value = c.in_ok-filling.ensures ∙ ap (λ keys. filling (hints_of s) (map key_of keys) c.args.rows c.args.number column (record { table = c.args.at; column = at })) c.deref.ensures.value in
    let next = place_next _ (map of c.loop-c.fillings.items) _ c.args.table.now.columns.items at column (of c.in_ok-filling.filling) (search rules) c.index-column.ensures value c.loop-c.invariant in
    rw (c.in_ok-push.ensures.items, map-append of c.loop-c.fillings.items (c.in_ok-filling.filling ∷ [])) next

pub returns : goal.returns
returns c = place_end _ (map (filling_of c.args.suggested.now.all.items) c.loop-c.fillings.items) _ c.args.table.now.columns.items c.loop-c.c (search rules) c.loop-c.invariant
