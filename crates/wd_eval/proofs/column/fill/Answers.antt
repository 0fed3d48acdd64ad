use Rattle.std.proofs.Common.{◌≡◌, ◌<◌, Bool, Some, None, sym, ap, subst, length, ◌∙◌, arith}
use Rattle.std.specs.Prelude.{slice_get, option_map}
use Rattle.wd_value.specs.Rows.{rows_at}
use Rattle.wd_plan.specs.Calls.{value_at}
use Rattle.wd_frame.specs.Laws.{is_descending}
use Rattle.wd_partition.specs.Members.{MemberRule}
use Rattle.wd_partition.specs.Shown.{member_rule}
use Rattle.wd_calls.specs.CallColumns.{AreCallsAt, ArePut}
use Rattle.wd_calls.specs.Parts.{IsPartOf}
use Rattle.wd_calls.proofs.FrameCalls.{IfOk-on}
use Rattle.wd_eval.proofs.Filled.{calls_at_members, filled_before, filled_more}
use Rattle.wd_eval.proofs.Listed.{own_of, own_part, part_by, some_member}
use Rattle.wd_eval.proofs.column.fill.Goals as goal

pub returns-in-Some-2 : goal.returns-in-Some-2
returns-in-Some-2 c = IfOk-on c.put_values.result c.put_values.ensures (λ v puts. λ class asked ordering needs l filled. (
    let rows = c.args.rows.now in
    let call = c.args.call.now in
    let p = c.args.position in
    let old = c.args.column.now in
    let new = c.put_values.new.column in
    let member = member_rule c.in-Some.member in
    let within : p < length rows = c.requires in
    let there : Some member ≡ slice_get c.args.class_index.now.partitions p = ap (option_map member_rule) (sym c.in-Some.is) ∙ c.member.ensures in
    let is = own_of class asked rows ordering p within member (ap (λ ms. slice_get ms p) (sym l.members) ∙ sym there) in
    let value = value_at class call.frame call.function rows ordering in
    let part : IsPartOf class call.frame (rows_at rows member.positions) (part_by member c.args.class_index.now.desc) =
    subst (λ (d : Bool). IsPartOf class call.frame (rows_at rows member.positions) (part_by member d)) (sym l.direction)
    (subst (λ (m : MemberRule). IsPartOf class call.frame (rows_at rows m.positions) (part_by m (is_descending class.order))) (sym is) (own_part class call.frame asked rows ordering p needs l.lawful)) in
    let calls = subst (λ (m : MemberRule). AreCallsAt class call.frame call.function (rows_at rows m.positions) m.positions value) (sym is) (calls_at_members class rows ordering l.lawful call p) in
    let put = subst (λ (m : MemberRule). ArePut value m.positions old new) is (puts class value part calls) in
    let place = ap (λ (m : MemberRule). m.place) is in
    let first = c.if-member-gt0.false in
    filled_more class rows ordering l.lawful call p old new within (omega arith) put filled))

pub returns-in-Some : goal.returns-in-Some
returns-in-Some c = λ class asked ordering needs l filled. (
    let rows = c.args.rows.now in
    let p = c.args.position in
    let member = member_rule c.in-Some.member in
    let within : p < length rows = c.requires in
    let there : Some member ≡ slice_get c.args.class_index.now.partitions p = ap (option_map member_rule) (sym c.in-Some.is) ∙ c.member.ensures in
    let is = own_of class asked rows ordering p within member (ap (λ ms. slice_get ms p) (sym l.members) ∙ sym there) in
    filled_before class rows ordering l.lawful c.args.call.now p c.args.column.now (λ e. (let same = ap (λ (m : MemberRule). m.place) is in let after = c.if-member-gt0.true in omega arith)) filled)

pub returns-in-None : goal.returns-in-None
returns-in-None c = λ class asked ordering needs l filled. (
    let rows = c.args.rows.now in
    let p = c.args.position in
    let within : p < length rows = c.requires in
    let none : None ≡ slice_get c.args.class_index.now.partitions p = ap (option_map member_rule) (sym c.in-None.is) ∙ c.member.ensures in
    absurd (some_member class asked rows ordering p within (ap (λ ms. slice_get ms p) (sym l.members) ∙ sym none)))
