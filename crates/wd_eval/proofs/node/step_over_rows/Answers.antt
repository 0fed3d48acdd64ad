use Rattle.std.proofs.Common.{◌≡◌, ◌∙◌, refl, sym, ap, subst, length, map, nat_lt, ⊎_elim, rules, arith, Ok, Err}
use Rattle.std.proofs.lemmas.Result.{err_from_is_err_and}
use Rattle.wd_plan.specs.Expressions.{expression_of}
use Rattle.wd_plan.specs.Outcomes.{map_outcome}
use Rattle.wd_plan.specs.Plans.{EachNamesClasses, Filter, Map, Group, Window, Distinct, Limit, grouping_of, limit_of, plan_of, window_of}
use Rattle.wd_nodes.specs.Relation.{IsLarge, IsSmall, RelationOrFault, group_over, relation_of, relation_or_fault_of}
use Rattle.wd_eval.specs.Errors.{error_of}
use Rattle.wd_eval.proofs.Walking.{no_join, no_scan}
use Rattle.wd_eval.proofs.Walks.{bare_answered, bounded, few_rows, group_halts, of_step, serves}
use Rattle.wd_eval.proofs.node.step_over_rows.Goals as goal

pub group_input-requires-clause-few : goal.group_input-requires-clause-few
group_input-requires-clause-few c = let is = c.most.ensures in let bound = bounded c.args.orderings.now c.requires.within in omega arith

pub group_input-requires-clause-small : goal.group_input-requires-clause-small
group_input-requires-clause-small c = ap (λ m. nat_lt m (length (relation_of c.args.tables.now c.args.input))) c.most.ensures ∙ c.requires.small

pub group_input-requires-clause-masks : goal.group_input-requires-clause-masks
group_input-requires-clause-masks c = (subst EachNamesClasses (ap plan_of c.in-Group.is) c.requires.named).1

pub extend_rows-requires-clause-few : goal.extend_rows-requires-clause-few
extend_rows-requires-clause-few c = let few = few_rows c.args.orderings.now (Ok (relation_of c.args.tables.now c.args.input)) c.requires.within c.requires.small in omega arith

pub extend_rows-requires-clause-named : goal.extend_rows-requires-clause-named
extend_rows-requires-clause-named c = (subst EachNamesClasses (ap plan_of c.in-Window.is) c.requires.named).1

pub returns-in_ok-passing-in-Filter : goal.returns-in_ok-passing-in-Filter
returns-in_ok-passing-in-Filter c = λ step below is. (
    let tables = c.args.tables.now in
    let old = c.args.orderings.now in
    let own = Filter (expression_of c.in-Filter.condition) in
    let o = c.in_ok-passing-in-Filter.passing in
    of_step (relation_or_fault_of tables) _ own step _ below _ old old (Ok o) (ap plan_of c.in-Filter.is) is
    (bare_answered tables old own (Ok c.args.input) o c.requires.within refl tt c.in_ok-passing-in-Filter.ensures))

pub returns-in_ok-mapped-in-Map : goal.returns-in_ok-mapped-in-Map
returns-in_ok-mapped-in-Map c = λ step below is. (
    let tables = c.args.tables.now in
    let old = c.args.orderings.now in
    let own = Map (map expression_of c.in-Map.outputs.items) in
    let o = c.in_ok-mapped-in-Map.mapped in
    let found : relation_or_fault_of tables o ≡ map_outcome (map expression_of c.in-Map.outputs.items) (relation_of tables c.args.input) = search rules in
    of_step (relation_or_fault_of tables) _ own step _ below _ old old (Ok o) (ap plan_of c.in-Map.is) is
    (bare_answered tables old own (Ok c.args.input) o c.requires.within refl tt found))

pub returns-in_ok-firsts-in-Distinct : goal.returns-in_ok-firsts-in-Distinct
returns-in_ok-firsts-in-Distinct c = λ step below is. (
    let tables = c.args.tables.now in
    let old = c.args.orderings.now in
    let o : RelationOrFault = Ok c.in_ok-firsts-in-Distinct.firsts in
    of_step (relation_or_fault_of tables) _ Distinct step _ below _ old old (Ok o) (ap plan_of c.in-Distinct.is) is
    (bare_answered tables old Distinct (Ok c.args.input) o c.requires.within refl tt (ap Ok c.in_ok-firsts-in-Distinct.ensures)))

pub returns-in_ok-groups-in-Group : goal.returns-in_ok-groups-in-Group
returns-in_ok-groups-in-Group c = λ step below is. (
    let tables = c.args.tables.now in
    let old = c.args.orderings.now in
    let rule = grouping_of c.in-Group.group in
    let grouped = group_over rule (Ok (relation_of tables c.args.input)) in
    let o = c.in_ok-groups-in-Group.groups in
    let small = subst (λ m. IsSmall m grouped (relation_or_fault_of tables o)) c.most.ensures c.in_ok-groups-in-Group.ensures.ok in
    of_step (relation_or_fault_of tables) _ (Group rule) step _ below _ old old (Ok o) (ap plan_of c.in-Group.is) is
    (bare_answered tables old (Group rule) (Ok c.args.input) o c.requires.within refl small.small small.is))

pub returns-in_err-groups-in-Group : goal.returns-in_err-groups-in-Group
returns-in_err-groups-in-Group c = λ step below is. (
    let tables = c.args.tables.now in
    let old = c.args.orderings.now in
    let rule = grouping_of c.in-Group.group in
    let grouped = group_over rule (Ok (relation_of tables c.args.input)) in
    let e = c.in_err-groups-in-Group.field-0.0 in
    let err = err_from_is_err_and c.from_residual-in_err-groups-in-Group.result c.from_residual-in_err-groups-in-Group.ensures.1 in
    let large = subst (λ m. IsLarge m grouped e) c.most.ensures c.in_err-groups-in-Group.ensures.refused in
    rw (err.1, err.2) (of_step (relation_or_fault_of tables) _ (Group rule) step _ below _ old old (Err (error_of e)) (ap plan_of c.in-Group.is) is
    (record { ok = tt; refused = group_halts tables old rule (Ok c.args.input) e large })))

pub returns-in-Window : goal.returns-in-Window
returns-in-Window c = λ step below is. (
    let tables = c.args.tables.now in
    let old = c.args.orderings.now in
    let new = c.extend_rows.new.orderings in
    let own = Window (window_of c.in-Window.window) in
    of_step (relation_or_fault_of tables) _ own step _ below _ old new c.extend_rows.result (ap plan_of c.in-Window.is) is
    (serves tables old own (Ok c.args.input) new c.extend_rows.result tt c.extend_rows.ensures))

pub returns-in-Limit : goal.returns-in-Limit
returns-in-Limit c = λ step below is. (
    let tables = c.args.tables.now in
    let old = c.args.orderings.now in
    let new = c.limit_rows.new.orderings in
    let own = Limit (limit_of c.in-Limit.limit) in
    of_step (relation_or_fault_of tables) _ own step _ below _ old new c.limit_rows.result (ap plan_of c.in-Limit.is) is
    (serves tables old own (Ok c.args.input) new c.limit_rows.result tt c.limit_rows.ensures))

pub returns-in-Scan : goal.returns-in-Scan
returns-in-Scan c = λ step below is. absurd (⊎_elim (λ h. no_scan _ _ step below (sym (ap plan_of h.2) ∙ is)) (λ h. no_join _ _ _ step below (sym (ap plan_of h.3) ∙ is)) c.in-Scan.is)
