use Rattle.std.proofs.Common.{◌∙◌, ap}
use Rattle.std.proofs.lemmas.List.{map_push}
use Rattle.wd_value.specs.Rows.{rows_of}
use Rattle.wd_column_store.proofs.Places.{items}
use Rattle.wd_column_store.proofs.columns.push_column.Goals as goal

pub returns : goal.returns
returns c = ap rows_of c.in_ok-push.ensures.items ∙ map_push items c.args.columns.items c.args.column
