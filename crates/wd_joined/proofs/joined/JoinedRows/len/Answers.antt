use Rattle.std.proofs.Common.{◌∙◌, sym, ap, length}
use Rattle.wd_joined.proofs.Joining.{count}
use Rattle.wd_joined.proofs.joined.JoinedRows.len.Goals as goal

pub returns : goal.returns
returns c = sym (count c.self.inside.tables.items c.self.inside.positions.items c.self.inside.origins.items c.self.inside.count) ∙ ap length c.self.view_is
