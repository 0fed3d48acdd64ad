use Rattle.std.proofs.Common.{map, sym, subst, ◌++◌, ◌∷◌, []}
use Rattle.std.specs.Prelude.{⊤}
use Rattle.wd_json_tokens.specs.Forms.{IsForm}
use Rattle.std.proofs.Common.{None}
use Rattle.wd_json_tokens.specs.Lists.{HoldsList}
use Rattle.wd_json_tokens.proofs.Lists.{one_other, one_after_other}
use Rattle.wd_json_tokens.proofs.list.FoundElements.read_element.Goals as goal

pub returns-then-self-clause-ok : goal.returns-then-self-clause-ok
returns-then-self-clause-ok g c =
    let s = c.args.self.now in
    let form = g.T.FromTokens.json in
    let xs = map g.T.FromTokens.said s.items.items in
    let done = c.in_ok-skip_value.ensures.ok in
    (done.0, done.1, λ ds h. subst (λ other. HoldsList form (λ _. ⊤) xs other (ds ++ done.0 ∷ [])) (sym c.if-self.true) (one_after_other form (λ _. ⊤) xs ds done.0 (subst (λ other. HoldsList form (λ _. ⊤) xs other ds) c.if-self.true h)))

pub returns-in-None-clause-ok : goal.returns-in-None-clause-ok
returns-in-None-clause-ok g c =
    let s = c.args.self.now in
    let form = g.T.FromTokens.json in
    let done = c.in_ok-item.ensures.ok in
    let other : IsForm form None done.0 = rw c.in-None.is at done.2 in
    (done.0, done.1, λ ds h. one_other form (λ _. ⊤) (map g.T.FromTokens.said s.items.items) ds done.0 (λ x _. other x))
