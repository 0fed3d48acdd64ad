use Rattle.std.proofs.Common.{◌≡◌, ◌∙◌, ◌<◌, ◌∷◌, ◌++◌, sym, ap, subst, refl, map, length, get_or, set, take, drop, [], Some, None, arith}
use Rattle.std.specs.Option.{option_or}
use Rattle.std.proofs.lemmas.List.{length-map, length-set}
use Rattle.wd_schema.specs.Schemas.{schema_of}
use Rattle.wd_candidates.specs.Filled.{AreFilled, slot_in}
use Rattle.wd_candidates.proofs.Fillings.{filled, not_filled, within, refilled, rows_written}
use Rattle.wd_candidates.proofs.outline.put.Goals as goal

pub returns-then-is_for_column : goal.returns-then-is_for_column
returns-then-is_for_column c = λ fs h.
    let tables = schema_of c.args.schema.now in
    let slots = c.args.slots.now in
    let fixing = c.args.fixing in
    let rows = map (λ row. row.items) slots in
    let column = fixing.column in
    let table = c.from.result in
    let is : table ≡ fixing.table = c.from.ensures in
    let old = get_or slots table c.index-slots-from.result in
    let new = c.fill.new.row in
    let written : new ≡ set old.items column (option_or (get_or old.items column None) (Some fixing.value)) =
    c.fill.ensures ∙ (λ i. set (c.deref_mut.ensures.value i) (c.from-then-is_for_column.ensures i) (option_or (get_or (c.deref_mut.ensures.value i) (c.from-then-is_for_column.ensures i) None) (Some fixing.value))) in
    let long : length new ≡ length old.items = ap length written ∙ length-set old.items column _ in
    let kept : take old.len (new ++ drop (length new) old.items) ≡ new = refilled old.len old.items new old.ok.0 long in
    let inside = within tables rows fixing h.shape (sym c.is_for_column.ensures ∙ c.if-is_for_column.true) in
    let in_slots : table < length slots = omega (arith, is, inside.in_slots, length-map slots (λ row. row.items)) in
    let at = rows_written (λ row. row.items) slots table column c.index-slots-from.result old _ (Some fixing.value) in_slots refl (kept ∙ written) in
    let same = at ∙ (λ i. set rows (is i) (set (get_or rows (is i) []) column (option_or (slot_in rows (is i) column) (Some fixing.value)))) in
    subst (AreFilled tables (fs ++ fixing ∷ [])) (sym same) (filled tables rows fixing (sym c.is_for_column.ensures ∙ c.if-is_for_column.true) fs h)

pub returns-else-is_for_column : goal.returns-else-is_for_column
returns-else-is_for_column c = not_filled (schema_of c.args.schema.now) (map (λ row. row.items) c.args.slots.now) c.args.fixing (sym c.is_for_column.ensures ∙ c.if-is_for_column.false)
