use Rattle.wd_markup.proofs.page.Page.append.Goals as goal

pub push-requires : goal.push-requires
push-requires c = rw c.as_str.ensures.value c.more.invariant
