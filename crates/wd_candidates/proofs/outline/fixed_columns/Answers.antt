use Rattle.std.proofs.Common.{◌≡◌, [], ◌∷◌, ◌++◌, sym, map, subst, rules, length}
use Rattle.wd_schema.specs.Schemas.{schema_of}
use Rattle.wd_candidates.specs.Filled.{AreFilled}
use Rattle.wd_candidates.proofs.Fillings.{none_filled, refilled}
use Rattle.wd_candidates.proofs.outline.fixed_columns.Goals as goal

pub loop-fixing-init : goal.loop-fixing-init
loop-fixing-init c = subst (AreFilled (schema_of c.args.schema.now) []) (sym c.in_ok-slots.ensures) (none_filled (schema_of c.args.schema.now))

pub loop-fixing-preserved : goal.loop-fixing-preserved
loop-fixing-preserved c =
    let tables = schema_of c.args.schema.now in
    let slots = c.loop-fixing.slots in
    let same : c.deref_mut.result.now ≡ slots.items = c.deref_mut.ensures.value in
    let before = subst (λ l. AreFilled tables c.loop-fixing.yielded (map (λ row. row.items) l)) (sym same) c.loop-fixing.invariant in
    let after = c.put.ensures c.loop-fixing.yielded before in
    let long : length c.put.new.slots ≡ length slots.items = search rules in
    let all : slots.len ≡ length slots.items = slots.ok.0 in
    subst (λ l. AreFilled tables (c.loop-fixing.yielded ++ c.in-Some.fixing ∷ []) (map (λ row. row.items) l)) (sym (refilled slots.len slots.items c.put.new.slots all long)) after
