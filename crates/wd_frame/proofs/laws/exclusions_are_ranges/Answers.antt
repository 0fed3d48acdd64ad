use Rattle.wd_frame.proofs.ExclusionLaws as laws
use Rattle.wd_frame.proofs.laws.exclusions_are_ranges.Goals as goal

pub returns : goal.returns
returns c = laws.exclusions_are_ranges
