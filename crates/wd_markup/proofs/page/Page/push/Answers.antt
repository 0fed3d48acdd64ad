use Rattle.wd_markup.proofs.Joining.{IsPage-pushed}
use Rattle.wd_markup.proofs.page.Page.push.Goals as goal

pub invariant_of-self : goal.invariant_of-self
invariant_of-self c = IsPage-pushed _ _ _ _ c.self.invariant c.requires c.push_str.ensures.bytes
