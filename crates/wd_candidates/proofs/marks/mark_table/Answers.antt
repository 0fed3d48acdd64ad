use Rattle.std.proofs.Common.{ap, get_or, subst, sym}
use Rattle.std.specs.Vec.{with_items}
use Rattle.wd_candidates.specs.Marks.{MarksMore, is_marked}
use Rattle.wd_candidates.proofs.Marked.{marks_table, written}
use Rattle.wd_candidates.proofs.marks.mark_table.Goals as goal

pub returns-then-table-tables : goal.returns-then-table-tables
returns-then-table-tables c =
    let tables = c.args.tables.now in
    let i = c.from-table.result in
    let old = get_or tables i c.index-tables-table.result in
    let new = c.mark_same.new.marks in
    let marks = subst (λ l. MarksMore l (is_marked c.args.columns.now) new) c.deref_mut.ensures.value c.mark_same.ensures in
    let whole = written old.len old.items new old.ok.0 marks.long in
    let kept = subst (λ l. MarksMore old.items (is_marked c.args.columns.now) l) (sym whole) marks in
    rw (← c.from-table.ensures) (marks_table (λ columns. columns.items) tables i old (with_items old new) (is_marked c.args.columns.now) c.if-table-tables.true (ap (get_or tables i) c.index-tables-table.is) kept)
