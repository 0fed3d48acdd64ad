use Rattle.wd_parse.proofs.Unique as unique
use Rattle.wd_parse.proofs.laws.one_tree.Goals as goal

pub returns : goal.returns
returns c = unique.one_tree
