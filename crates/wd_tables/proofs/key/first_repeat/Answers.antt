use Rattle.std.proofs.Common.{◌≡◌, ◌+◌, ◌<◌, ◌∷◌, ◌++◌, [], length, map, take, arith}
use Rattle.std.proofs.lemmas.List.{map_more, take_all}
use Rattle.wd_schema.specs.Tables.{key_of}
use Rattle.wd_tables.proofs.KeyFacts.{repeats_more, repeats_none}
use Rattle.wd_tables.proofs.key.first_repeat.Goals as goal

pub loop-key-init : goal.loop-key-init
loop-key-init c = repeats_none c.args.rows.now

pub loop-key-preserved : goal.loop-key-preserved
loop-key-preserved c =
    let keys = c.args.keys.now in
    let rows = c.args.rows.now in
    let within : c.loop-key.key-index < length keys = omega arith in
    let more : map key_of (take (c.loop-key.key-index + 1) keys) ≡ map key_of (take c.loop-key.key-index keys) ++ key_of c.key-item.result ∷ [] =
    rw (← c.key-item.is) at (map_more key_of keys c.loop-key.key-index c.key-item.result within) in
    rw (more, c.least-first.ensures) (repeats_more (map key_of (take c.loop-key.key-index keys)) (key_of c.key-item.result) rows c.loop-key.first c.in_ok-first_repeat_in.field-0 c.loop-key.invariant c.in_ok-first_repeat_in.ensures)

pub returns : goal.returns
returns c = rw (take_all c.loop-key.key-index c.args.keys.now c.loop-key-test.false) at c.loop-key.invariant
