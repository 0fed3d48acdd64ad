use Rattle.std.proofs.Common.{◌≡◌, ◌≤◌, ◌-◌, rules, arith, refl, subst, sym, true, List, map, nat_lt, option_map, length}
use Rattle.std.specs.List.{list_all}
use Rattle.std.proofs.lemmas.List.{length-map}
use Rattle.wd_schema.specs.Schemas.{schema_of}
use Rattle.wd_plan.specs.Expressions.{expression_of}
use Rattle.wd_plan.specs.Fits.{fits, width}
use Rattle.wd_plan.specs.Plans.{Filter, Window, Distinct, Limit, Over, limit_of, plan_of, window_of}
use Rattle.wd_plan.proofs.Ranges.{names_classes}
use Rattle.wd_plan.specs.declared.expression.Expr.{Expr}
use Rattle.wd_step_facts.specs.Facts.{is_plain_fact, kept_by}
use Rattle.wd_step_facts.specs.Steps.{used as used_by}
use Rattle.wd_facts.specs.Laws.{AreOfChildren}
use Rattle.wd_facts.proofs.Asked.{width_below, left_kept, right_kept, input_narrow, outputs_narrow, input_kept, outputs_used}
use Rattle.wd_facts.proofs.node.given.Goals as goal

pub facts_of_sides-requires-clause-left : goal.facts_of_sides-requires-clause-left
facts_of_sides-requires-clause-left c =
    let tables = schema_of c.args.schema.now in
    let f = subst (λ p. fits tables (plan_of p) ≡ true) c.in-Join.is c.requires.fits in
    let named = subst (λ p. AreOfChildren (plan_of p) (kept_by c.args.kept.now 0) (kept_by c.args.kept.now 1)) c.in-Join.is c.requires.named in
    rw c.facts_of_child-first.ensures (left_kept tables (option_map expression_of c.in-Join.condition) (plan_of c.in-Join.left.value) (plan_of c.in-Join.right.value) f (kept_by c.args.kept.now 0) named.0)

pub facts_of_sides-requires-clause-right : goal.facts_of_sides-requires-clause-right
facts_of_sides-requires-clause-right c =
    let tables = schema_of c.args.schema.now in
    let f = subst (λ p. fits tables (plan_of p) ≡ true) c.in-Join.is c.requires.fits in
    let named = subst (λ p. AreOfChildren (plan_of p) (kept_by c.args.kept.now 0) (kept_by c.args.kept.now 1)) c.in-Join.is c.requires.named in
    rw (c.facts_of_child-second.ensures, c.width.ensures, c.deref.ensures) (right_kept tables (option_map expression_of c.in-Join.condition) (plan_of c.in-Join.left.value) (plan_of c.in-Join.right.value) f (kept_by c.args.kept.now 1) named.1)

pub width-requires-in-Filter : goal.width-requires-in-Filter
width-requires-in-Filter c =
    let tables = schema_of c.args.schema.now in
    let f = subst (λ p. fits tables (plan_of p) ≡ true) c.in-Filter.is c.requires.fits in
    rw c.deref-in-Filter-2.ensures (width_below tables (Over (Filter (expression_of c.in-Filter.condition)) (plan_of c.in-Filter.input.value)) f)

pub map_facts-requires-clause-kept : goal.map_facts-requires-clause-kept
map_facts-requires-clause-kept c =
    let tables = schema_of c.args.schema.now in
    let f = subst (λ p. fits tables (plan_of p) ≡ true) c.in-Map.is c.requires.fits in
    let named = subst (λ p. AreOfChildren (plan_of p) (kept_by c.args.kept.now 0) (kept_by c.args.kept.now 1)) c.in-Map.is c.requires.named in
    let outputs = map expression_of c.in-Map.outputs.items in
    let kept = input_kept tables outputs (plan_of c.in-Map.input.value) f (kept_by c.args.kept.now 0) named in
    rw (c.facts_of_child-first.ensures, c.deref-in-Map.ensures.value) (subst (λ n. list_all (is_plain_fact (65536 - n)) (kept_by c.args.kept.now 0) ≡ true) (length-map c.in-Map.outputs.items expression_of) kept)

pub map_facts-requires-clause-used : goal.map_facts-requires-clause-used
map_facts-requires-clause-used c =
    let tables = schema_of c.args.schema.now in
    let f = subst (λ p. fits tables (plan_of p) ≡ true) c.in-Map.is c.requires.fits in
    let used = outputs_used tables (map expression_of c.in-Map.outputs.items) (plan_of c.in-Map.input.value) f in
    let counted = subst (λ n. list_all (λ e. list_all (λ k. nat_lt k (65536 - n)) (used_by e)) (map expression_of c.in-Map.outputs.items) ≡ true) (length-map c.in-Map.outputs.items expression_of) used in
    subst (λ (os : List Expr). list_all (λ e. list_all (λ k. nat_lt k (65536 - length os)) (used_by e)) (map expression_of os) ≡ true) (sym c.deref-in-Map.ensures.value) counted

pub width-requires-in-Map : goal.width-requires-in-Map
width-requires-in-Map c =
    let tables = schema_of c.args.schema.now in
    let f = subst (λ p. fits tables (plan_of p) ≡ true) c.in-Map.is c.requires.fits in
    let few = input_narrow tables (map expression_of c.in-Map.outputs.items) (plan_of c.in-Map.input.value) f in
    rw c.deref-in-Map-2.ensures (omega arith)

pub width-requires-in-Distinct : goal.width-requires-in-Distinct
width-requires-in-Distinct c =
    let tables = schema_of c.args.schema.now in
    let f = subst (λ p. fits tables (plan_of p) ≡ true) c.in-Distinct.is c.requires.fits in
    rw c.deref-in-Distinct.ensures (width_below tables (Over Distinct (plan_of c.in-Distinct.input.value)) f)

pub width-requires-in-Limit : goal.width-requires-in-Limit
width-requires-in-Limit c =
    let tables = schema_of c.args.schema.now in
    let f = subst (λ p. fits tables (plan_of p) ≡ true) c.in-Limit.is c.requires.fits in
    rw c.deref-in-Limit.ensures (width_below tables (Over (Limit (limit_of c.in-Limit.limit)) (plan_of c.in-Limit.input.value)) f)

pub window_facts-requires-clause-named : goal.window_facts-requires-clause-named
window_facts-requires-clause-named c =
    let tables = schema_of c.args.schema.now in
    let f = subst (λ p. fits tables (plan_of p) ≡ true) c.in-Window.is c.requires.fits in
    (names_classes tables (Over (Window (window_of c.in-Window.window)) (plan_of c.in-Window.input.value)) f).1

pub returns-in_ok-add_keys_of_sides-in-Join : goal.returns-in_ok-add_keys_of_sides-in-Join
returns-in_ok-add_keys_of_sides-in-Join c =
    rw (c.split.ensures, c.in_ok-add_keys_of_sides-in-Join.ensures, c.in_ok-list-in-Join.ensures, c.facts_of_child-first.ensures, c.facts_of_child-second.ensures, c.width.ensures, c.width-in-Join.ensures, c.width-in-Join-2.ensures, c.deref.ensures, c.deref-in-Join.ensures, c.deref-in-Join-2.ensures, c.deref-in-Join-3.ensures, c.in-Join.is) refl

pub overflow_add-len : goal.overflow_add-len
overflow_add-len c =
    let tables = schema_of c.args.schema.now in
    let f = subst (λ p. fits tables (plan_of p) ≡ true) c.in-Map.is c.requires.fits in
    let outputs = map expression_of c.in-Map.outputs.items in
    let many : length c.in-Map.outputs.items ≤ 1024 = subst (λ n. n ≤ 1024) (length-map c.in-Map.outputs.items expression_of) (outputs_narrow tables outputs (plan_of c.in-Map.input.value) f) in
    let few : width (plan_of c.in-Map.input.value) ≤ 1024 = input_narrow tables outputs (plan_of c.in-Map.input.value) f in
    rw (c.width-in-Map.ensures, c.deref-in-Map-2.ensures, c.len.ensures) (search rules)
