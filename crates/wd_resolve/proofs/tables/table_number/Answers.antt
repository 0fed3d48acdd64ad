use Rattle.std.proofs.Common.{◌≡◌, ◌∙◌, sym, ap, ◌<◌, ◌+◌, suc, Bool, length, drop, arith, add-one, if◌then◌else◌}
use Rattle.std.specs.List.{position_or_len}
use Rattle.std.proofs.lemmas.List.{length-map}
use Rattle.wd_schema.specs.Schemas.{schema_of}
use Rattle.wd_resolve_list.proofs.Among.{position_at}
use Rattle.wd_resolve.specs.Selected.{has_name, is_named}
use Rattle.wd_resolve.proofs.Beside.{named_step}
use Rattle.wd_resolve.proofs.tables.table_number.Goals as goal

pub returns-then-is_named : goal.returns-then-is_named
returns-then-is_named c =
    let n = c.loop-number.number in
    let name = c.args.name.now in
    let tables = schema_of c.args.schema.now in
    let within : n < length tables = simp length-map (omega arith) in
    let found : is_named tables name n ≡ _ = sym c.is_named.ensures ∙ c.if-is_named.true in
    let step : position_or_len (has_name name) (drop n tables) ≡ 0 = named_step n name tables within ∙ ap (λ (b : Bool). if b then 0 else 1 + position_or_len (has_name name) (drop (suc n) tables)) found in
    let place : n ≡ position_or_len (has_name name) tables = omega (arith, step, c.loop-number.invariant) in
    sym (position_at (has_name name) tables n place within)

pub loop-number-preserved : goal.loop-number-preserved
loop-number-preserved c =
    let n = c.loop-number.number in
    let name = c.args.name.now in
    let tables = schema_of c.args.schema.now in
    let within : n < length tables = simp length-map (omega arith) in
    let other : is_named tables name n ≡ _ = sym c.is_named.ensures ∙ c.if-is_named.false in
    let step : position_or_len (has_name name) (drop n tables) ≡ 1 + position_or_len (has_name name) (drop (suc n) tables) = named_step n name tables within ∙ ap (λ (b : Bool). if b then 0 else 1 + position_or_len (has_name name) (drop (suc n) tables)) other in
    let after : position_or_len (has_name name) (drop (n + 1) tables) ≡ position_or_len (has_name name) (drop (suc n) tables) = ap (λ k. position_or_len (has_name name) (drop k tables)) (add-one n) in
    omega (arith, step, after, c.loop-number.invariant)
