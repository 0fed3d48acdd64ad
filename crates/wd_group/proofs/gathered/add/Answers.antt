use Rattle.std.proofs.Common.{◌≤◌, ◌<◌, refl, arith, Some}
use Rattle.wd_group.specs.declared.gathered.Gathered.{Gathered}
use Rattle.wd_group.proofs.First.{AreFirst-kept, AreFirst-full, AreFirst-fault}
use Rattle.wd_group.proofs.gathered.add.Goals as goal

pub returns-in_ok-add_row-in-Ok : goal.returns-in_ok-add_row-in-Ok
returns-in_ok-add_row-in-Ok c = λ width wide results first. (
    let old = c.args.gathered.now in
    let room : old.count ≤ c.args.most = omega (arith, c.if-gathered-most.true) in
    rw c.in-Ok.is (AreFirst-kept width c.args.most results old c.add_row.new.gathered first c.in-Ok.row.items (rw c.in-Ok.is at wide) room c.in_ok-add_row-in-Ok.ensures.columns c.in_ok-add_row-in-Ok.ensures.count c.add_row.ensures.fault))

pub returns-else-gathered-most : goal.returns-else-gathered-most
returns-else-gathered-most c = λ width wide results first. (
    let old = c.args.gathered.now in
    let full : c.args.most < old.count = omega (arith, c.if-gathered-most.false) in
    rw c.in-Ok.is (AreFirst-full width c.args.most results old old first c.in-Ok.row.items full refl))

pub returns-in-Err : goal.returns-in-Err
returns-in-Err c = λ width wide results first. (
    let old = c.args.gathered.now in
    let new : Gathered = record { columns = old.columns; count = old.count; fault = Some c.with_fault.result } in
    rw c.in-Err.is (AreFirst-fault width c.args.most results old new first c.in-Err.found refl refl c.with_fault.ensures))
