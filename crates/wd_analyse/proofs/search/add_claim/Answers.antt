use Rattle.wd_facts.proofs.KeyRanges.{wider}
use Rattle.wd_analyse.proofs.search.add_claim.Goals as goal

pub close-requires : goal.close-requires
close-requires c = wider c.args.width c.args.facts.now.columns c.requires.admits.wide c.args.from.now c.requires.low
