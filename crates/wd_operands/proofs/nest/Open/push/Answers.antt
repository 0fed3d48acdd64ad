use Rattle.std.proofs.Common.{◌≤◌, length, rules}
use Rattle.wd_operands.proofs.Opened.{last_first-pushed}
use Rattle.wd_operands.proofs.nest.Open.push.Goals as goal

pub returns-clause-brackets : goal.returns-clause-brackets
returns-clause-brackets c = last_first-pushed c.args.self.now.count c.args.self.now.brackets c.args.bracket c.if-self-ge-MOST_OPEN.false (let k : 64 ≤ length c.args.self.now.brackets = search rules in k)
