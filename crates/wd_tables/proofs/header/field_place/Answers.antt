use Rattle.std.proofs.lemmas.Grind.{common_steps}
use Rattle.std.proofs.Common.{◌≡◌, ◌<◌, true, [], length, sym, arith, rules}
use Rattle.std.specs.Str.{bytes_eq}
use Rattle.std.proofs.lemmas.List.{get_or_read}
use Rattle.std.proofs.lemmas.List.Sums.{position_or_len_is}
use Rattle.wd_tables.proofs.header.field_place.Goals as goal

pub returns-then-eq : goal.returns-then-eq
returns-then-eq c =
    let within : c.loop-place.place < length c.args.names.now = omega arith in
    let test : bytes_eq c.args.name.now c.index-names-place.result ≡ true = search rules in
    sym (position_or_len_is (bytes_eq c.args.name.now) c.args.names.now c.loop-place.place [] (omega arith) c.loop-place.invariant
    (λ h. rw (← get_or_read c.args.names.now c.loop-place.place c.index-names-place.result within c.index-names-place.is []) test))

pub returns : goal.returns
returns c =
    let all : c.loop-place.place ≡ length c.args.names.now = omega arith in
    sym (position_or_len_is (bytes_eq c.args.name.now) c.args.names.now (length c.args.names.now) [] (omega arith) (λ k h. c.loop-place.invariant k (omega arith)) (λ h. absurd (omega arith)))

pub loop-place-preserved : goal.loop-place-preserved
loop-place-preserved c = grind (arith, common_steps)
