use Rattle.std.proofs.Common.{◌≡◌, ◌∙◌, ◌+◌, ◌∷◌, ◌++◌, [], ap, drop, length, rules, subst, sym}
use Rattle.std.proofs.lemmas.List.{drop_all, length-map, map-append}
use Rattle.std.proofs.lemmas.Result.{err_from_is_err_and}
use Rattle.wd_node_facts.specs.Seen.{each_columns, seen_of}
use Rattle.wd_verify.specs.Lean.{lean_traces}
use Rattle.wd_verify.specs.Named.{is_marked}
use Rattle.wd_verify.proofs.Good.{HaveColumnsTo, all_columns, columns_next, next_good}
use Rattle.wd_verify.proofs.kept.columns_of_each.Goals as goal

pub loop-trace-preserved : goal.loop-trace-preserved
loop-trace-preserved c =
    let facts = seen_of c.args.facts.now in
    let marks = c.args.marks.now in
    let traces = c.args.traces.now in
    let old = c.loop-trace.list.items in
    let columns = c.in_ok-columns.columns in
    let len : c.len.result ≡ length old = search rules in
    let long : c.len.result ≡ length (each_columns old) = len ∙ sym (length-map old (λ columns. columns.items)) in
    let new : each_columns c.push_columns.new.list.items ≡ each_columns old ++ columns.items ∷ [] = ap each_columns c.in_ok-push_columns.ensures ∙ map-append (λ columns. columns.items) old (columns ∷ []) in
    subst (HaveColumnsTo c.args.node facts marks (lean_traces traces) (lean_traces (drop (c.loop-trace.trace-index + 1) traces))) (sym new)
    (columns_next c.args.node facts marks traces c.loop-trace.trace-index c.trace-item.result (each_columns old) c.loop-trace-test.true c.trace-item.is c.loop-trace.invariant c.is_marked-is_asked.result columns.items (c.is_marked-is_asked.ensures ∙ ap (is_marked marks) long) c.in_ok-columns.ensures.columns)

pub returns-in_err-columns-clause-refused : goal.returns-in_err-columns-clause-refused
returns-in_err-columns-clause-refused c =
    let p = err_from_is_err_and c.from_residual.result c.from_residual.ensures.1 in
    rw (p.1, p.2) (λ memory. next_good c.args.node (seen_of c.args.facts.now) c.args.marks.now c.args.traces.now c.loop-trace.trace-index c.trace-item.result (each_columns c.loop-trace.list.items) c.loop-trace-test.true c.trace-item.is c.loop-trace.invariant c.in_err-columns.field-0.0 (c.in_err-columns.ensures.refused memory))

pub returns-clause-columns : goal.returns-clause-columns
returns-clause-columns c =
    let traces = c.args.traces.now in
    let rest = drop c.loop-trace.trace-index traces in
    let none : rest ≡ [] = drop_all c.loop-trace.trace-index traces (search rules) in
    all_columns c.args.node (seen_of c.args.facts.now) c.args.marks.now (lean_traces traces) (lean_traces rest) (each_columns c.loop-trace.list.items) (ap lean_traces none) c.loop-trace.invariant
