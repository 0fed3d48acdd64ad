use Rattle.std.proofs.Common.{◌∙◌, ◌++◌, ap, map, string_bytes}
use Rattle.std.proofs.lemmas.Result.{on_ok_weaker}
use Rattle.wd_lex.specs.declared.token.Terminal.TheVariants as m
use Rattle.wd_read_cursor.specs.Tokens.{Kinds, ◌▸◌}
use Rattle.wd_read_statements.specs.Grammar.{listed, spell_element, spell_name}
use Rattle.wd_print.specs.Printed.{printed}
use Rattle.wd_declaration.specs.Spelled.{element_of, name_of}
use Rattle.wd_declaration.proofs.write.DeclarationWritten.write.Goals as goal

pub returns : goal.returns
returns c = on_ok_weaker c.write_bracketed.result (λ last rest.
    let table = c.args.self.now in
    let end : Kinds = m.RightBracket ▸ rest in
    let elements : Kinds = m.LeftBracket ▸ listed m.Comma spell_element (map element_of table.elements.items) end in
    let named : Kinds = spell_name (name_of table.name) elements in
    last rest ∙ ap (λ xs. string_bytes c.write.new.text ++ printed (m.LeftBracket ▸ listed m.Comma spell_element (map element_of xs) end)) c.deref.ensures.value
    ∙ c.in_ok-write.ensures elements ∙ c.in_ok-write_terminal-2.ensures named ∙ c.in_ok-write_terminal.ensures (m.Table ▸ named)) c.write_bracketed.ensures
