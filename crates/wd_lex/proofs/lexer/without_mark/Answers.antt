use Rattle.std.proofs.Common.{◌++◌, ap, ap₂, ◌∙◌, sym}
use Rattle.wd_lex.proofs.Progress.{encode-mark, after_mark, no_mark}
use Rattle.wd_lex.proofs.lexer.without_mark.Goals as goal

pub returns-in-Some : goal.returns-in-Some
returns-in-Some c =
    let found = c.in-Some.ensures.cases in
    after_mark c.args.text.now c.in-Some.rest.now (found.1.split ∙ ap₂ (λ mark rest. mark ++ rest) encode-mark (sym found.2))

pub returns-in-None : goal.returns-in-None
returns-in-None c = no_mark c.args.text.now (λ rest e. c.in-None.ensures.cases rest (e ∙ ap (λ mark. mark ++ rest) (sym encode-mark)))
