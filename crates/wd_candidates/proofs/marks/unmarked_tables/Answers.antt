use Rattle.std.proofs.Common.{rules}
use Rattle.std.proofs.lemmas.List.{length-map}
use Rattle.wd_schema.specs.Schemas.{schema_of}
use Rattle.wd_candidates.proofs.Marked.{long_past}
use Rattle.wd_candidates.proofs.marks.unmarked_tables.Goals as goal

pub returns-clause-long : goal.returns-clause-long
returns-clause-long c = long_past c.loop-number.tables.items (schema_of c.args.schema.now) c.loop-number.number c.loop-number.invariant.many (rw length-map (search rules)) c.loop-number.invariant.long
