use Rattle.std.proofs.Common.{◌≡◌, ◌++◌, length, map, string_bytes}
use Rattle.wd_read_cursor.specs.Tokens.{Kinds}
use Rattle.wd_read_statements.specs.Grammar.{listed}
use Rattle.wd_print.specs.Printed.{printed}
use Rattle.wd_declaration.proofs.write.write_list.Given as goal

abbrev pub invariant-loop-others : goal.invariant-loop-others
invariant-loop-others g l = (rest : Kinds)
    → string_bytes l.text ++ printed (listed l.separator g.W.Written.spell (map g.W.Written.tree l.others) rest)
    ≡ string_bytes l.fn.text ++ printed (listed l.separator g.W.Written.spell (map g.W.Written.tree l.fn.items) rest)

abbrev pub decreases-loop-others : goal.decreases-loop-others
decreases-loop-others g l = length l.others
