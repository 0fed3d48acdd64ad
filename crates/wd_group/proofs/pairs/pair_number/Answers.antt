use Rattle.std.proofs.Common.{◌≡◌, ◌∙◌, ℕ, ◌+◌, Some, None, cond, rules, sym}
use Rattle.std.specs.HashMap.{hash_map_len}
use Rattle.wd_group.specs.Pairs.{number_in, same_pair}
use Rattle.wd_group.proofs.Pairing.{AreApart-more, Keeps-more}
use Rattle.wd_group.proofs.pairs.pair_number.Goals as goal

pub returns-in_ok-insert-in-None-clause-apart : goal.returns-in_ok-insert-in-None-clause-apart
returns-in_ok-insert-in-None-clause-apart c =
    let old = c.args.met.now in
    let new = c.insert.new.self in
    let absent : number_in old c.args.pair ≡ None = sym c.get.ensures.value ∙ sym c.copied.ensures ∙ c.in-None.is in
    let is : c.len-number.result ≡ hash_map_len old = search rules in
    let updates : (q : ℕ × ℕ) → number_in new q ≡ cond (same_pair c.args.pair q) (Some (hash_map_len old)) (number_in old q) = λ q.
    (c.in_ok-insert-in-None.ensures.updates.0 q ∙ (λ j. cond (same_pair c.args.pair q) (Some (is j)) (number_in old q))) in
    let long : hash_map_len new ≡ hash_map_len old + 1 = search rules in
    AreApart-more old new c.args.pair c.requires absent updates long

pub returns-in_ok-insert-in-None-clause-kept : goal.returns-in_ok-insert-in-None-clause-kept
returns-in_ok-insert-in-None-clause-kept c =
    let old = c.args.met.now in
    let new = c.insert.new.self in
    let absent : number_in old c.args.pair ≡ None = sym c.get.ensures.value ∙ sym c.copied.ensures ∙ c.in-None.is in
    let is : c.len-number.result ≡ hash_map_len old = search rules in
    let updates : (q : ℕ × ℕ) → number_in new q ≡ cond (same_pair c.args.pair q) (Some (hash_map_len old)) (number_in old q) = λ q.
    (c.in_ok-insert-in-None.ensures.updates.0 q ∙ (λ j. cond (same_pair c.args.pair q) (Some (is j)) (number_in old q))) in
    let long : hash_map_len new ≡ hash_map_len old + 1 = search rules in
    Keeps-more old new c.args.pair c.requires absent updates long
