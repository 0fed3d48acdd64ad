use Rattle.std.proofs.Common.{[], ◌∷◌, IfSome, length, refl, subst}
use Rattle.std.proofs.lemmas.Result.{IfOk-weaker}
use Rattle.wd_value.specs.Keys.{ascending}
use Rattle.wd_sort.specs.Codes.{IsCodingBelow}
use Rattle.wd_sort.specs.Numbers.{AreNumbersBy}
use Rattle.wd_sort.proofs.Telling.{AreNumbersBy-codes, some_weaker}
use Rattle.wd_sort.proofs.apart.narrow_numbers.Goals as goal

pub returns-in-Some : goal.returns-in-Some
returns-in-Some c =
    let rows = c.args.rows.now in
    let column = c.args.column in
    IfOk-weaker c.whole_codes.result _ (λ o. IfSome o (λ c'. AreNumbersBy (column ∷ []) rows c'.bound c'.codes.items))
    (λ o h. some_weaker _ (λ c'. AreNumbersBy (column ∷ []) rows c'.bound c'.codes.items) (λ coding are. AreNumbersBy-codes (ascending column) rows (length rows) coding.bound coding.codes.items refl (subst (λ ps. IsCodingBelow (ascending column ∷ []) rows ps coding.bound coding.codes.items) c.requires are)) o h)
    c.whole_codes.ensures
