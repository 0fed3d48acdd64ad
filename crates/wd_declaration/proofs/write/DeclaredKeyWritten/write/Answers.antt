use Rattle.std.proofs.Common.{◌∙◌, ◌++◌, ap, map, string_bytes}
use Rattle.std.proofs.lemmas.Result.{on_ok_weaker}
use Rattle.wd_lex.specs.declared.token.Terminal.TheVariants as m
use Rattle.wd_read_cursor.specs.Tokens.{◌▸◌}
use Rattle.wd_read_statements.specs.Grammar.{listed, spell_name}
use Rattle.wd_print.specs.Printed.{printed}
use Rattle.wd_declaration.specs.Spelled.{name_of}
use Rattle.wd_declaration.proofs.write.DeclaredKeyWritten.write.Goals as goal

pub returns : goal.returns
returns c = on_ok_weaker c.write_bracketed.result (λ last rest.
    last rest ∙ ap (λ xs. string_bytes c.write_words.new.text ++ printed (m.LeftBracket ▸ listed m.Comma spell_name (map name_of xs) (m.RightBracket ▸ rest))) c.deref.ensures.value
    ∙ c.in_ok-write_words.ensures (m.LeftBracket ▸ listed m.Comma spell_name (map name_of c.args.self.now.columns.items) (m.RightBracket ▸ rest))) c.write_bracketed.ensures
