use Rattle.wd_markup.proofs.Joining.{IsPage-text}
use Rattle.wd_markup.proofs.page.Page.text.Goals as goal

pub push-requires : goal.push-requires
push-requires c = rw (c.as_str.ensures.value, c.in_ok-more.ensures) (IsPage-text c.args.text.now)
