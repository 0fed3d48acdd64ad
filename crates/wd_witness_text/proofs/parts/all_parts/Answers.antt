use Rattle.std.proofs.Common.{map, subst}
use Rattle.wd_json_tokens.specs.Lists.{HoldsList}
use Rattle.wd_json_tokens.proofs.Lists.{is_no_list}
use Rattle.wd_witness_text.proofs.parts.all_parts.Goals as goal

pub returns-then-found : goal.returns-then-found
returns-then-found g c =
    let form = g.T.TablePart.json in
    let Fits = g.T.TablePart.Fits in
    let xs = map g.T.TablePart.said c.args.found.parts.items in
    λ ds h. is_no_list form Fits xs ds (subst (λ other. HoldsList form Fits xs other ds) c.if-found.true h)
