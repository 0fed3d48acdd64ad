use Rattle.std.proofs.Common.{ap, sym, ◌∙◌}
use Rattle.wd_step_facts.specs.declared.facts.Member.TheVariants.{Column}
use Rattle.wd_simpler.specs.Sets.{read_of}
use Rattle.wd_simpler.specs.Simpler.{kept_reads}
use Rattle.wd_simpler.proofs.plan.kept_reads.Goals as goal

pub returns-then-is_none : goal.returns-then-is_none
returns-then-is_none c = λ d. c.new.ensures (Column d) ∙ sym (ap (λ b. kept_reads b (read_of c.args.read) d) c.if-is_none.true)
