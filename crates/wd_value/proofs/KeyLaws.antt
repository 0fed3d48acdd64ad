-- The order of rows under sort keys is total, and rows tie where they are the same on the keys' columns.
use Rattle.std.proofs.Common.{◌≡◌, true, List, [], ◌∷◌, Ordering, Less, Equal, Greater, refl, ◌∙◌, ap, subst}
use Rattle.std.specs.Ordering.{ordering_then}
use Rattle.std.specs.Cmp.{IsTotalOrder}
use Rattle.std.proofs.lemmas.Cmp.{on_total, then_total, tied_itself}
use Rattle.wd_value.specs.Order.{compare}
use Rattle.wd_value.specs.Rows.{Row, column_of, columns_of, same_row}
use Rattle.wd_value.proofs.SameLaws.{same_row-Decides}
use Rattle.wd_value.proofs.OrderLaws.{compare_total, compare-exact}
use Rattle.wd_value.specs.declared.order.SortColumn.{SortColumn}
use Rattle.wd_value.specs.Keys.{compare_keys, key_columns}

never : IsTotalOrder {K = Row} (λ a b. Equal)
never = record { antisymm = λ x y. refl; trans = λ x y z p q. cc; congr = λ x y z p. refl }

pub compare_keys_total : (items : List SortColumn) → IsTotalOrder (compare_keys items)
compare_keys_total [] = never
compare_keys_total (item ∷ items) = then_total (on_total (λ r. column_of r item.column) (compare_total item.key)) (compare_keys_total items)

-- an answer `Equal` is `Equal` twice
then_parts : (a b : Ordering) → ordering_then a b ≡ Equal → (a ≡ Equal) × (b ≡ Equal)
then_parts Less b e = cc
then_parts Equal b e = (refl, e)
then_parts Greater b e = cc

-- rows that tie are the same on the keys' columns
pub compare_keys-exact : (items : List SortColumn) (a b : Row) → compare_keys items a b ≡ Equal → columns_of (key_columns items) a ≡ columns_of (key_columns items) b
compare_keys-exact [] a b e = refl
compare_keys-exact (item ∷ items) a b e =
    let p = then_parts (compare item.key (column_of a item.column) (column_of b item.column)) _ e in
    λ i. compare-exact item.key (column_of a item.column) (column_of b item.column) p.0 i ∷ compare_keys-exact items a b p.1 i

-- and rows that are the same on those columns tie
pub compare_keys-ties : (items : List SortColumn) (a b : Row) → columns_of (key_columns items) a ≡ columns_of (key_columns items) b → compare_keys items a b ≡ Equal
compare_keys-ties [] a b e = refl
compare_keys-ties (item ∷ items) a b e =
    let head : column_of a item.column ≡ column_of b item.column = cc in
    let tail : columns_of (key_columns items) a ≡ columns_of (key_columns items) b = cc in
    let tie : compare item.key (column_of a item.column) (column_of b item.column) ≡ Equal = subst (λ v. compare item.key (column_of a item.column) v ≡ Equal) head (tied_itself (compare_total item.key) (column_of a item.column)) in
    ap (λ o. ordering_then o (compare_keys items a b)) tie ∙ compare_keys-ties items a b tail

pub same_row_self : (a : Row) → same_row a a ≡ true
same_row_self a = (same_row-Decides a a).1 refl
