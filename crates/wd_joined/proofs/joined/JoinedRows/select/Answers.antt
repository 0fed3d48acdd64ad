use Rattle.std.proofs.Common.{◌≡◌, ◌∙◌, None, ap, get_or, map, subst, sym}
use Rattle.std.proofs.lemmas.Result.{IfOk-weaker}
use Rattle.wd_value.specs.Rows.{columns_of}
use Rattle.wd_joined.specs.Joined.{AreOfTables, rows_joined}
use Rattle.wd_joined.proofs.Joining.{selected, selected_within}
use Rattle.wd_joined.proofs.joined.JoinedRows.select.Goals as goal

pub of_needed-requires : goal.of_needed-requires
of_needed-requires c =
    let j = c.self.inside in
    let columns = c.args.columns.now in
    let picked = c.deref-4.ensures.value ∙ c.in_ok-picked.ensures ∙ (λ i. map (λ p. get_or (c.deref.ensures.value i) p None) columns) in
    subst (λ there. there) (λ i. AreOfTables (sym c.deref-2.ensures.value i) (sym c.deref-3.ensures.value i) (sym picked i))
    (selected_within j.tables.items j.positions.items j.origins.items columns c.self.invariant)

pub returns : goal.returns
returns c =
    let j = c.self.inside in
    let columns = c.args.columns.now in
    let picked = c.deref-4.ensures.value ∙ c.in_ok-picked.ensures ∙ (λ i. map (λ p. get_or (c.deref.ensures.value i) p None) columns) in
    let is =
    (λ i. rows_joined (c.deref-2.ensures.value i) (c.deref-3.ensures.value i) (picked i) j.count)
    ∙ selected j.tables.items j.positions.items j.origins.items columns j.count
    ∙ ap (map (columns_of columns)) c.self.view_is in
    IfOk-weaker c.of_needed.result _ (λ rows. rows ≡ map (columns_of columns) c.args.self) (λ rows found. found ∙ is) c.of_needed.ensures
