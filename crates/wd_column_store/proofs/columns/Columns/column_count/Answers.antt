use Rattle.std.proofs.Common.{◌≡◌, ◌∙◌, All, length, rules, subst, sym}
use Rattle.std.proofs.lemmas.List.{length-map}
use Rattle.wd_value.specs.Rows.{Row, rows_of}
use Rattle.wd_column_store.specs.Along.{rows_along}
use Rattle.wd_column_store.proofs.Places.{items}
use Rattle.wd_column_store.proofs.RowsAlong.{even_rows}
use Rattle.wd_column_store.proofs.columns.Columns.column_count.Goals as goal

pub returns : goal.returns
returns c =
    let columns = rows_of c.self.inside.columns.items in
    let rows = rows_along columns c.self.inside.count in
    let wide : length columns ≡ c.len.result = length-map c.self.inside.columns.items items ∙ sym (search rules) in
    let each : All (λ row. length row ≡ c.len.result) rows = λ k d low. (even_rows columns c.self.inside.count k d low ∙ wide) in
    subst (λ there. All (λ (row : Row). length row ≡ c.len.result) there) c.self.view_is each
