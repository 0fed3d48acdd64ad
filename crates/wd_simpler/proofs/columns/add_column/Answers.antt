use Rattle.wd_step_facts.specs.declared.facts.Member.TheVariants.{Column}
use Rattle.wd_simpler.proofs.Sets.{also_one}
use Rattle.wd_simpler.proofs.columns.add_column.Goals as goal

pub returns : goal.returns
returns c = also_one c.args.set.now c.insert.new.self c.args.column (λ d. c.in_ok-insert.ensures.has (Column d))
