use Rattle.std.proofs.Common.{◌≢◌, ◌∙◌}
use Rattle.csv.specs.Records.{fields_of}
use Rattle.csv.specs.Writing.{writer_setup}
use Rattle.csv.specs.declared.writer.QuoteStyle.TheVariants as style
use Rattle.wd_tables.proofs.AnswerFacts.{appended, row_text-flexible}
use Rattle.wd_tables.proofs.answer.write.Goals as goal
use Rattle.wd_tables.proofs.answer.write.Goals.{in-Ok, in-Err}

pub returns : goal.returns
returns c text h =
    elim c.match-write_byte_record.branch [
      | in-Ok w ↦
          let e = w.in-Ok.ensures in
          let plain : (writer_setup c.args.writer.now).style ≢ style.NonNumeric = rw h.1 (λ e. cc e) in
          let bytes = rw (h.1, row_text-flexible (fields_of c.args.fields.now)) at (e.bytes h.2 h.3 plain) in
          rw w.result-is (appended _ _ text _ h.0 bytes, e.setup ∙ h.1, e.ended, e.clean)
      | in-Err w ↦ rw w.result-is tt
    ]
