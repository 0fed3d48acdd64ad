use Rattle.wd_schema.specs.Schemas.{schema_of}
use Rattle.wd_syntax.specs.View.{view_select}
use Rattle.wd_resolve.specs.Selected.{lowered_of}
use Rattle.wd_resolve.proofs.FromFits.{lowered_is}
use Rattle.wd_resolve.proofs.query.resolve.Goals as goal

pub returns-clause-fitting : goal.returns-clause-fitting
returns-clause-fitting c = (lowered_is (schema_of c.args.schema.now) (view_select c.args.query.now.select) (lowered_of c.in_ok-select.select) c.in_ok-select.ensures).fits_is
