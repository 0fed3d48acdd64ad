use Rattle.std.proofs.Common.{◌∙◌, ◌++◌, ap, sym, string_bytes}
use Rattle.std.proofs.lemmas.Result.{on_ok_weaker}
use Rattle.wd_lex.specs.declared.token.Terminal.TheVariants as m
use Rattle.wd_read_cursor.specs.Tokens.{◌▸◌}
use Rattle.wd_read_statements.specs.Grammar.{spell_nulls}
use Rattle.wd_print.specs.Printed.{printed}
use Rattle.wd_declaration.proofs.write.write_nulls.Goals as goal

pub returns-in_ok-write_word-in-Distinct : goal.returns-in_ok-write_word-in-Distinct
returns-in_ok-write_word-in-Distinct c = on_ok_weaker c.write_terminal.result (λ last rest.
    last rest ∙ c.in_ok-write_word-in-Distinct.ensures (m.Distinct ▸ rest)
    ∙ ap (λ nulls. string_bytes c.args.text.now ++ printed (spell_nulls nulls rest)) (sym c.in-Distinct.is)) c.write_terminal.ensures

pub returns-in_ok-write_terminal-in-NotDistinct : goal.returns-in_ok-write_terminal-in-NotDistinct
returns-in_ok-write_terminal-in-NotDistinct c = on_ok_weaker c.write_terminal-in-NotDistinct-2.result (λ last rest.
    last rest ∙ c.in_ok-write_terminal-in-NotDistinct.ensures (m.Distinct ▸ rest)
    ∙ c.in_ok-write_word-in-NotDistinct.ensures (m.Not ▸ m.Distinct ▸ rest)
    ∙ ap (λ nulls. string_bytes c.args.text.now ++ printed (spell_nulls nulls rest)) (sym c.in-NotDistinct.is)) c.write_terminal-in-NotDistinct-2.ensures
