use Rattle.std.proofs.Common.{◌∙◌, map}
use Rattle.std.proofs.lemmas.Result.{on_ok_weaker}
use Rattle.wd_lex.specs.declared.token.Terminal.TheVariants as m
use Rattle.wd_read_cursor.specs.Tokens.{◌▸◌}
use Rattle.wd_read_statements.specs.Grammar.{listed}
use Rattle.wd_declaration.proofs.write.write_bracketed.Goals as goal

pub returns : goal.returns
returns g c = on_ok_weaker c.write_terminal-2.result
    (λ last rest. last rest ∙ c.in_ok-write_list.ensures (m.RightBracket ▸ rest) ∙ c.in_ok-write_terminal.ensures (listed m.Comma g.W.Written.spell (map g.W.Written.tree c.args.items.now) (m.RightBracket ▸ rest)))
    c.write_terminal-2.ensures
