use Rattle.wd_markup.proofs.page.Page.into_bytes.Goals as goal

pub returns-clause-page : goal.returns-clause-page
returns-clause-page c = rw c.into_bytes.ensures.value c.self.invariant
