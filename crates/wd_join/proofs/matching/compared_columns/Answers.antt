use Rattle.std.proofs.lemmas.Option.{IfSome_then}
use Rattle.wd_join.proofs.Deciding.{Equates-columns}
use Rattle.wd_join.proofs.matching.compared_columns.Goals as goal

pub returns-in-Column-Column-clause-found : goal.returns-in-Column-Column-clause-found
returns-in-Column-Column-clause-found c = rw (c.in-Column-Column.is-0, c.in-Column-Column.is-1) (IfSome_then c.sides.result c.sides.ensures.found (λ x h. Equates-columns c.args.widths.left c.args.widths.right x _ _ h))
