use Rattle.std.proofs.Common.{None, map, sym, subst, ◌++◌, ◌∷◌, []}
use Rattle.wd_json_tokens.specs.Lists.{HoldsList}
use Rattle.wd_json_tokens.proofs.Lists.{one_other, one_after_other}
use Rattle.wd_witness_text.specs.Reading.{IsFitting}
use Rattle.wd_witness_text.proofs.parts.PartsElements.read_element.Goals as goal

pub returns-then-self-clause-ok : goal.returns-then-self-clause-ok
returns-then-self-clause-ok g c =
    let s = c.args.self.now in
    let form = g.T.TablePart.json in
    let Fits = g.T.TablePart.Fits in
    let xs = map g.T.TablePart.said s.parts.items in
    let done = c.in_ok-skip_value.ensures.ok in
    (done.0, done.1, λ ds h. subst (λ other. HoldsList form Fits xs other (ds ++ done.0 ∷ [])) (sym c.if-self.true) (one_after_other form Fits xs ds done.0 (subst (λ other. HoldsList form Fits xs other ds) c.if-self.true h)))

pub returns-in-None-clause-ok : goal.returns-in-None-clause-ok
returns-in-None-clause-ok g c =
    let s = c.args.self.now in
    let form = g.T.TablePart.json in
    let Fits = g.T.TablePart.Fits in
    let done = c.in_ok-part.ensures.ok in
    let other : IsFitting form Fits None done.0 = rw c.in-None.is at done.2 in
    (done.0, done.1, λ ds h. one_other form Fits (map g.T.TablePart.said s.parts.items) ds done.0 other)
