use Rattle.std.proofs.Common.{◌∙◌, ap}
use Rattle.wd_excuse.specs.Lines.{cut_after}
use Rattle.wd_excuse.proofs.Trims.{trim_end}
use Rattle.wd_excuse.proofs.line.trim.Goals as goal

pub returns : goal.returns
returns c = trim_end c.skip_blanks.result.now c.trim_ascii_end.result.now c.trim_ascii_end.ensures.value ∙ ap cut_after c.skip_blanks.ensures
