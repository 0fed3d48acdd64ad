use Rattle.std.proofs.Common.{◌≡◌, ◌∙◌, ◌++◌, ◌∷◌, [], ap, length, rules, sym, subst}
use Rattle.wd_column_store.specs.Along.{with_values}
use Rattle.wd_joined.specs.Joined.{AreOfTables, rows_joined}
use Rattle.wd_joined.specs.Stored.{HasValues}
use Rattle.wd_joined.proofs.Joining.{count, last_of, one_more, one_more_within}
use Rattle.wd_joined.proofs.joined.JoinedRows.with_shared.Goals as goal

pub returns : goal.returns
returns c = λ values has. (
    let j = c.self.inside in
    let s = c.args.shared in
    let tables = j.tables.items in
    let lists = j.positions.items in
    let origins = j.origins.items in
    let number : c.len-number.result ≡ length tables = search rules in
    let long : length c.args.self ≡ j.count = ap length (sym c.self.view_is) ∙ count tables lists origins j.count in
    (λ i. rows_joined (c.in_ok-tables.ensures i) (c.in_ok-positions.ensures i) (c.in_ok-origins.ensures i) j.count)
    ∙ (λ i. rows_joined (tables ++ s.table ∷ []) (lists ++ s.positions ∷ []) (origins ++ last_of (number i) s.column ∷ []) j.count)
    ∙ one_more tables lists origins j.count s.table s.positions s.column c.self.invariant values (subst (λ n. HasValues n values s) long has)
    ∙ ap (λ rows. with_values rows values) c.self.view_is)

pub invariant_of-result : goal.invariant_of-result
invariant_of-result c =
    let j = c.self.inside in
    let s = c.args.shared in
    let number : c.len-number.result ≡ length j.tables.items = search rules in
    let origins = c.in_ok-origins.ensures ∙ (λ i. j.origins.items ++ last_of (number i) s.column ∷ []) in
    subst (λ there. there) (λ i. AreOfTables (sym c.in_ok-tables.ensures i) (sym c.in_ok-positions.ensures i) (sym origins i))
    (one_more_within j.tables.items j.positions.items j.origins.items j.count s.table s.positions s.column c.self.invariant)
