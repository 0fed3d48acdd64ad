use Rattle.wd_tables.proofs.RefusalLaws as laws
use Rattle.wd_tables.proofs.laws.rows_or_refusal.Goals as goal

pub returns : goal.returns
returns c = laws.rows_or_refusal
