use Rattle.std.proofs.Common.{◌≡◌, ◌∙◌, ap, string_bytes}
use Rattle.std.proofs.lemmas.Map.Text.{hash_map_updates_text}
use Rattle.std.proofs.lemmas.Result.{IfOk-at_ok}
use Rattle.wd_amounts.specs.Seen.{use_seen}
use Rattle.wd_amounts.specs.Uses.{with_use}
use Rattle.wd_amounts.proofs.KnownFacts.{used}
use Rattle.wd_amounts.proofs.known.KnownNames.add.Goals as goal

-- the key has the name's bytes, so `insert` set what is kept of the name
pub returns : goal.returns
returns g c =
    let either = g.V.NameValue.either in
    let key_is_name = IfOk-at_ok (λ s. string_bytes s ≡ c.args.next.now.name.now) c.in_ok-key.was c.from_str.ensures.ok in
    let sets = hash_map_updates_text (string_bytes c.in_ok-key.key) c.args.self.now.values c.insert.new.self _ c.in_ok-insert.ensures.updates in
    used either c.args.self.now.values c.insert.new.self (use_seen c.args.next.now) c.with_use-value.result
    (c.with_use-value.ensures ∙ ap (λ kept. with_use either kept c.args.next.now.value) (c.copied.ensures ∙ c.get.ensures.value)) (rw key_is_name at sets)
