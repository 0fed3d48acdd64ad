use Rattle.std.proofs.Common.{◌∙◌}
use Rattle.wd_equations.proofs.TerminalFacts.{same_codes}
use Rattle.wd_equations.proofs.tokens.is_terminal.Goals as goal

pub returns-in-Terminal : goal.returns-in-Terminal
returns-in-Terminal c = rw c.in-Terminal.is (c.eq.ensures ∙ same_codes c.in-Terminal.found c.args.terminal)
