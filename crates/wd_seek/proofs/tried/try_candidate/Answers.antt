use Rattle.std.proofs.Common.{refl}
use Rattle.wd_schema.specs.Schemas.{schema_of}
use Rattle.wd_seek.proofs.OneAnswer.{itself_searched}
use Rattle.wd_seek.proofs.tried.try_candidate.Goals as goal

pub try_lighter-requires-clause-searched : goal.try_lighter-requires-clause-searched
try_lighter-requires-clause-searched c = itself_searched (schema_of c.args.schema.now) (record { plan = c.args.plan; has_one = _ }) c.requires.fitting refl
