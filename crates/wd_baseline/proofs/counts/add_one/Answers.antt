use Rattle.std.proofs.Common.{◌≡◌, string_bytes}
use Rattle.std.proofs.lemmas.Map.Text.{hash_map_updates_text}
use Rattle.std.proofs.lemmas.Result.{IfOk-at_ok}
use Rattle.wd_baseline.proofs.Counting.{added}
use Rattle.wd_baseline.proofs.counts.add_one.Goals as goal

-- the key has the line's bytes, so `insert` set the line's count
pub returns : goal.returns
returns c =
    let key_is_line = IfOk-at_ok (λ s. string_bytes s ≡ c.args.line.now) c.in_ok-key.was c.from_str.ensures.ok in
    let sets = hash_map_updates_text (string_bytes c.in_ok-key.key) c.args.counts.now c.insert.new.self _ c.in_ok-insert.ensures.updates in
    added c.args.counts.now c.insert.new.self c.args.line.now (rw (key_is_line, c.count_of-next.ensures) at sets)
