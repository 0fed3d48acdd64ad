use Rattle.std.proofs.Common.{refl}
use Rattle.wd_resolve_call.proofs.Texts.{other_bytes}
use Rattle.wd_resolve_call.proofs.function.named_function.Goals as goal

pub returns-in_default : goal.returns-in_default
returns-in_default c =
    let name = c.args.name.now in
    let n = c.in_default in
    rw (other_bytes _ name n.not-row_number, other_bytes _ name n.not-rank, other_bytes _ name n.not-dense_rank, other_bytes _ name n.not-ntile, other_bytes _ name n.not-lag, other_bytes _ name n.not-lead, other_bytes _ name n.not-first_value, other_bytes _ name n.not-last_value, other_bytes _ name n.not-nth_value, other_bytes _ name n.not-count, other_bytes _ name n.not-sum, other_bytes _ name n.not-min, other_bytes _ name n.not-max) refl
