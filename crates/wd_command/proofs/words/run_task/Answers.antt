use Rattle.std.proofs.Common.{◌≡◌, codes, refl, subst, sym}
use Rattle.std.specs.List.{Any}
use Rattle.clap.specs.Words.{found_of, rows_of}
use Rattle.wd_command.specs.CommandLine.{tables_in}
use Rattle.wd_command.specs.Words.{run_words}
use Rattle.wd_command.proofs.FailureLemmas.{IfErr-from_same, by_word}
use Rattle.wd_command.proofs.FoundLemmas.{all_read}
use Rattle.wd_command.proofs.words.run_task.Goals as goal

pub returns-clause-ok : goal.returns-clause-ok
returns-clause-ok c =
    let words = all_read c.args.given.now (codes "tables") c.get_strs.result _ c.unwrap_or.result c.get_strs.ensures refl c.unwrap_or.ensures in
    rw (words, ← c.in-Some.ensures, c.in_ok-tables.ensures.ok.joined) refl

pub returns-in_err-tables-clause-err : goal.returns-in_err-tables-clause-err
returns-in_err-tables-clause-err c =
    let words = all_read c.args.given.now (codes "tables") c.get_strs.result _ c.unwrap_or.result c.get_strs.ensures refl c.unwrap_or.ensures in
    let tables = tables_in (rows_of (found_of c.args.given.now)) in
    let schema = c.in-Some.schema.now in
    let query = c.in-Some.query.now in
    IfErr-from_same c.from_residual.result c.in_err-tables.field-0.0 _ c.from_residual.ensures.1
    (by_word _ _ (λ word uncut. (
      run_words schema query tables,
      rw (← c.in-Some.ensures) refl,
      (schema, query, tables, refl, subst (Any (λ w. w ≡ word)) (sym words) uncut.1, uncut.0),
    )) c.in_err-tables.field-0.0 c.in_err-tables.ensures.err)
