use Rattle.std.proofs.Common.{List, ℕ, option_map, subst}
use Rattle.serde_json.specs.Data.{object}
use Rattle.wd_json_tokens.specs.Forms.{IsForm}
use Rattle.wd_json_tokens.specs.Pairs.{pair_json, both_seen}
use Rattle.wd_json_tokens.proofs.pair.read_pair.Goals as goal

pub returns-then-branch-clause-ok : goal.returns-then-branch-clause-ok
returns-then-branch-clause-ok g c =
    let done = rw c.if-branch.true at c.in_ok-read_object.ensures.ok in
    let form : List ℕ × List ℕ → Type 0 = λ names.
    IsForm (pair_json names.0 names.1 g.A.FromTokens.json g.B.FromTokens.json)
    (option_map (both_seen g.A.FromTokens.said g.B.FromTokens.said) c.both.result) (object done.0) in
    (object done.0, done.1, subst form c.in_ok-read_object.ensures.kept (c.both.ensures done.0 done.2.1))
