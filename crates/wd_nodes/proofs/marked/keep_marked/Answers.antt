use Rattle.std.proofs.Common.{subst, sym}
use Rattle.wd_joined.specs.Alike.{AreAlikeIn}
use Rattle.wd_joined.proofs.Needing.{same_alike}
use Rattle.wd_value.specs.Rows.{table_at}
use Rattle.wd_nodes.specs.Relation.{stored_rows_of}
use Rattle.wd_nodes.proofs.marked.keep_marked.Goals as goal

pub returns-in-Table : goal.returns-in-Table
returns-in-Table c = λ instance. (
    let rows = table_at instance c.in-Table.number in
    subst (λ s. AreAlikeIn c.args.marks.now rows (stored_rows_of instance s)) (sym c.in-Table.is) (same_alike c.args.marks.now rows))
