-- A row that grows by a value of its next column.
use Rattle.std.proofs.Common.{◌≡◌, true, List, [], ◌∷◌, ◌++◌, refl}
use Rattle.std.proofs.lemmas.Bool.{and_parts, false≢true}
use Rattle.wd_value.specs.Rows.{Row}
use Rattle.wd_value.specs.declared.value.Value.{Value}
use Rattle.wd_schema.specs.declared.table.Column.{Column}
use Rattle.wd_schema.specs.Meets.{fits_columns, may_hold}

pub fits_columns-push : (columns : List Column) (row : Row) (column : Column) (v : Value) → fits_columns columns row ≡ true → may_hold column v ≡ true → fits_columns (columns ++ column ∷ []) (row ++ v ∷ []) ≡ true
fits_columns-push [] [] column v h e = rw e refl
fits_columns-push [] (w ∷ ws) column v h e = absurd (false≢true h)
fits_columns-push (c ∷ cs) [] column v h e = absurd (false≢true h)
fits_columns-push (c ∷ cs) (w ∷ ws) column v h e =
    let parts = and_parts (may_hold c w) (fits_columns cs ws) h in
    rw (parts.0, fits_columns-push cs ws column v parts.1 e) refl
