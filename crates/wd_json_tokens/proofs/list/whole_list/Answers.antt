use Rattle.std.proofs.Common.{map, sym, ap, ◌∙◌, subst}
use Rattle.std.specs.Prelude.{⊤}
use Rattle.wd_json.specs.Json.{list_json}
use Rattle.wd_json_tokens.specs.Lists.{HoldsList}
use Rattle.wd_json_tokens.proofs.Lists.{is_list, is_no_list}
use Rattle.wd_json_tokens.proofs.list.whole_list.Goals as goal

pub returns-then-found : goal.returns-then-found
returns-then-found g c =
    let form = g.T.FromTokens.json in
    let xs = map g.T.FromTokens.said c.args.found.items.items in
    λ ds h ys. is_no_list form (λ _. ⊤) xs ds (subst (λ other. HoldsList form (λ _. ⊤) xs other ds) c.if-found.true h) ys (λ i x within. tt)

pub returns-else-found : goal.returns-else-found
returns-else-found g c =
    let form = g.T.FromTokens.json in
    let said = g.T.FromTokens.said in
    let xs = map said c.args.found.items.items in
    λ ds h. is_list form (λ _. ⊤) xs ds (subst (λ other. HoldsList form (λ _. ⊤) xs other ds) c.if-found.false h) ∙ ap (λ vs. list_json form (map said vs)) (sym c.trimmed.ensures)
