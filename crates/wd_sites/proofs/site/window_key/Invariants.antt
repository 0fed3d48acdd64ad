use Rattle.wd_sites.specs.Sites.{IsKeyPlace}
use Rattle.wd_sites.proofs.site.window_key.Given as goal

abbrev pub invariant-loop : goal.invariant-loop
invariant-loop l = record { own : IsKeyPlace l.brackets.tokens.now l.own; key : IsKeyPlace l.brackets.tokens.now l.key }
