use Rattle.std.proofs.Common.{IfSome, subst}
use Rattle.std.proofs.lemmas.Result.{IfOk-weaker}
use Rattle.wd_column_store.specs.Along.{values_before}
use Rattle.wd_joined.specs.Stored.{HasValues}
use Rattle.wd_columns.proofs.own.joined_with_column_of.Goals as goal

pub returns-in-Some : goal.returns-in-Some
returns-in-Some c =
    let values = values_before c.args.others.now c.args.after in
    let has : HasValues c.len.result values c.in-Some.shared = subst (λ o. IfSome o (HasValues c.len.result values)) c.in-Some.is c.in_ok-shared.ensures in
    IfOk-weaker c.with_shared.result _ _ (λ j is. is values (subst (λ n. HasValues n values c.in-Some.shared) c.len.ensures has)) c.with_shared.ensures
