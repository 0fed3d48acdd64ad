use Rattle.wd_tables.proofs.RefusalLaws as laws
use Rattle.wd_tables.proofs.laws.one_refusal.Goals as goal

pub returns : goal.returns
returns c = laws.one_refusal
