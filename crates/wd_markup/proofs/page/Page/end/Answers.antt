use Rattle.wd_markup.proofs.Joining.{IsPage-piece}
use Rattle.wd_markup.specs.Pages as piece
use Rattle.wd_markup.proofs.page.Page.end.Goals as goal

pub push-requires : goal.push-requires
push-requires c = IsPage-piece piece.End
