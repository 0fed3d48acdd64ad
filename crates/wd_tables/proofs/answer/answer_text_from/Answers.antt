use Rattle.std.proofs.lemmas.Grind.{common_steps}
use Rattle.std.proofs.Common.{◌≡◌, ◌+◌, [], ◌∷◌, ◌++◌, take, refl, arith}
use Rattle.std.proofs.lemmas.List.{append-nil, take_more}
use Rattle.wd_value.specs.Rows.{row_at}
use Rattle.wd_tables.specs.Answers.{HasWritten, answer_text}
use Rattle.wd_tables.proofs.AnswerFacts.{answer_text-push}
use Rattle.wd_tables.proofs.answer.answer_text_from.Goals as goal

pub loop-position-init : goal.loop-position-init
loop-position-init c =
    let from = c.from_writer-writer.ensures in
    let fresh : HasWritten c.from_writer-writer.result [] = (rw (from.wtr, from.empty, c.new-2.ensures.items) refl, rw (from.cfg, c.flexible.ensures, c.new.ensures) refl, from.fields, from.wrote) in
    let wrote = c.in_ok-write.ensures [] fresh in
    rw (append-nil) (rw (c.in_ok-put_names.ensures) at wrote)

pub loop-position-preserved : goal.loop-position-preserved
loop-position-preserved c =
    let all = c.args.rows.now in
    let n = c.loop-position.position in
    let rows = take n all in
    let row = row_at all n in
    let wrote = c.in_ok-write-2.ensures (answer_text c.args.names.now rows) c.loop-position.invariant in
    let more : take (n + 1) all ≡ rows ++ row ∷ [] = take_more all n [] (omega arith) in
    rw more (rw (answer_text-push c.args.names.now rows row) (rw (c.in_ok-put_values.ensures) at wrote))

pub returns : goal.returns
returns c = grind (arith, common_steps)
