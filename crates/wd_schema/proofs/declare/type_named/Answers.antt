use Rattle.std.proofs.Common.{refl}
use Rattle.wd_schema.proofs.CheckFacts.{other_bytes}
use Rattle.wd_schema.proofs.declare.type_named.Goals as goal

pub returns-in_default : goal.returns-in_default
returns-in_default c =
    let name = c.args.name.now in
    let n = c.in_default in
    rw (other_bytes _ name n.not-smallint, other_bytes _ name n.not-int2, other_bytes _ name n.not-integer, other_bytes _ name n.not-int, other_bytes _ name n.not-int4, other_bytes _ name n.not-bigint, other_bytes _ name n.not-int8, other_bytes _ name n.not-text, other_bytes _ name n.not-boolean, other_bytes _ name n.not-bool) refl
