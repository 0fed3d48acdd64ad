use Rattle.wd_markup.proofs.Joining.{IsPage-nil}
use Rattle.wd_markup.proofs.page.Page.new.Goals as goal

pub invariant_of-result : goal.invariant_of-result
invariant_of-result c = rw c.new.ensures.bytes IsPage-nil
