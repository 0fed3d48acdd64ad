use Rattle.wd_markup.proofs.Joining.{IsPage-element}
use Rattle.wd_markup.proofs.page.Page.element.Goals as goal

pub push-requires : goal.push-requires
push-requires c = rw (c.as_str.ensures.value, c.in_ok-element.ensures) (IsPage-element c.args.tag c.args.class c.args.text.now)
