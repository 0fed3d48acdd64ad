use Rattle.std.proofs.Common.{◌∙◌, ◌++◌, ap, sym, string_bytes}
use Rattle.std.proofs.lemmas.Result.{on_ok_weaker}
use Rattle.wd_lex.specs.declared.token.Terminal.TheVariants as m
use Rattle.wd_read_cursor.specs.Tokens.{◌▸◌}
use Rattle.wd_read_statements.specs.Grammar.{spell_rules}
use Rattle.wd_print.specs.Printed.{printed}
use Rattle.wd_declaration.specs.Spelled.{rules_of}
use Rattle.wd_declaration.proofs.write.write_rules.Goals as goal

pub returns-in_ok-write_terminal : goal.returns-in_ok-write_terminal
returns-in_ok-write_terminal c = on_ok_weaker c.write_terminal-then-not_null.result (λ last rest.
    last rest ∙ c.in_ok-write_terminal.ensures (m.Null ▸ rest)
    ∙ ap (λ b. string_bytes c.args.text.now ++ printed (spell_rules (rules_of b) rest)) (sym c.if-not_null.true)) c.write_terminal-then-not_null.ensures
