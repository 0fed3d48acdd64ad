use Rattle.wd_markup.proofs.Joining.{IsPage-piece}
use Rattle.wd_markup.specs.Pages as piece
use Rattle.wd_markup.proofs.page.Page.close.Goals as goal

pub push-requires : goal.push-requires
push-requires c = rw (c.as_str.ensures.value, c.in_ok-tag.ensures) (IsPage-piece (piece.Closing c.args.tag))
