use Rattle.std.proofs.Common.{◌≡◌, ◌∙◌, ap, ap₂, codes, false, Option, Some, None, IsSomeAnd, []}
use Rattle.clap.specs.Words.{Rule, rule_of, with_rule}
use Rattle.wd_command.specs.CommandLine.{any_number}
use Rattle.wd_command.proofs.words.run_command.Goals as goal

abbrev with_any_number : Rule → Rule
with_any_number r = record r { range = (any_number []).range; value_names = 1 }

some_is : {X : Type 0} (o : Option X) (x : X) → IsSomeAnd o (λ y. y ≡ x) → o ≡ Some x
some_is None x h = absurd h
some_is (Some y) x h = ap Some h

pub returns-clause-app : goal.returns-clause-app
returns-clause-app c =
    let range_is = some_is c.num_args.result.num_vals _ c.num_args.ensures.1 in
    let tables_is : rule_of c.help-tables.result ≡ any_number (codes "tables") = rw (c.help-tables.ensures, c.value_name.ensures, c.num_args.ensures.0, range_is) (ap with_any_number c.new.ensures.rule) in
    let tables_local : c.help-tables.result.global ≡ false = rw (c.help-tables.ensures, c.value_name.ensures, c.num_args.ensures.0) c.new.ensures.optional.1 in
    rw c.about.ensures (c.in_ok-command.ensures.shape tables_local ∙ ap₂ with_rule c.in_ok-paths_command.ensures.app tables_is)
