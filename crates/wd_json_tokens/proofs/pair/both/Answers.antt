use Rattle.std.proofs.Common.{◌≡◌, option_map, sym, ap₂, ◌∙◌, subst}
use Rattle.std.specs.Option.{option_flatten, option_zip}
use Rattle.serde_json.specs.Data.{object}
use Rattle.wd_json_tokens.specs.Forms.{IsForm}
use Rattle.wd_json_tokens.specs.Pairs.{HoldsPair, pair_json, both_seen, slot_seen}
use Rattle.wd_json_tokens.proofs.Held.{pair_read, other_no_pair}
use Rattle.wd_json_tokens.proofs.pair.both.Goals as goal

pub returns-then-pair : goal.returns-then-pair
returns-then-pair g c =
    let s = c.args.pair in
    let k = s.first_name.now in
    let l = s.second_name.now in
    let f = g.A.FromTokens.json in
    let h = g.B.FromTokens.json in
    let a = slot_seen g.A.FromTokens.said s.first in
    let b = slot_seen g.B.FromTokens.said s.second in
    λ ms held. other_no_pair k l f h a b ms (subst (λ o. HoldsPair k l f h a b o ms) c.if-pair.true held)

pub returns-else-pair : goal.returns-else-pair
returns-else-pair g c =
    let s = c.args.pair in
    let k = s.first_name.now in
    let l = s.second_name.now in
    let f = g.A.FromTokens.json in
    let h = g.B.FromTokens.json in
    let a = slot_seen g.A.FromTokens.said s.first in
    let b = slot_seen g.B.FromTokens.said s.second in
    let is : c.zip.result ≡ option_zip (option_flatten s.first) (option_flatten s.second) = c.zip.ensures ∙ ap₂ option_zip c.flatten.ensures c.flatten-else-pair.ensures in
    λ ms held. subst (λ r. IsForm (pair_json k l f h) (option_map (both_seen g.A.FromTokens.said g.B.FromTokens.said) r) (object ms)) (sym is)
    (pair_read k l g.A.FromTokens.said g.B.FromTokens.said f h s.first s.second ms (subst (λ o. HoldsPair k l f h a b o ms) c.if-pair.false held))
