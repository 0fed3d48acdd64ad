use Rattle.wd_analyse.proofs.Rising.{next_tried}
use Rattle.wd_analyse.proofs.tried.Tried.insert.Goals as goal

pub returns : goal.returns
returns c = λ Xs h.
    next_tried c.in_ok-list.list c.args.columns.now c.in_ok-list.ensures.rises c.in_ok-list.ensures.same Xs c.args.self.now _ h c.in_ok-fresh.ensures.keys c.in_ok-fresh.fresh c.in_ok-fresh.ensures.added
