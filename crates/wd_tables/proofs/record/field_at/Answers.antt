use Rattle.wd_tables.proofs.RecordFacts.{field_at-is}
use Rattle.wd_tables.proofs.record.field_at.Goals as goal

pub returns-in-Some : goal.returns-in-Some
returns-in-Some c = field_at-is _ _ _ c.in-Some.ensures.value

pub returns-in-None : goal.returns-in-None
returns-in-None c = field_at-is _ _ _ c.in-None.ensures.value
