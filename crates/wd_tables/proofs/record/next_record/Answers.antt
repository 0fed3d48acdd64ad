use Rattle.std.proofs.Common.{inl}
use Rattle.wd_tables.proofs.ReadingFacts.{failed_read, read_ended}
use Rattle.wd_tables.proofs.record.next_record.Goals as goal

pub returns-in-Ok-clause-read : goal.returns-in-Ok-clause-read
returns-in-Ok-clause-read c text n h =
    let e = c.in-Ok.ensures in
    read_ended c.in-Ok.found text n c.args.reader.now c.read_record.new.self _ h (e.reads h.trim h.ready) (inl (e.ready h.trim)) e.flexible (e.text h.trim)

pub returns-in-Err-clause-refused : goal.returns-in-Err-clause-refused
returns-in-Err-clause-refused c text n h =
    let e = c.in-Err.ensures in
    rw (c.refusal.ensures, c.into_kind.ensures) (failed_read text n c.args.reader.now c.read_record.new.self _ h (e.why h.trim h.ready))
