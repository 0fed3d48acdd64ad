use Rattle.std.proofs.Common.{◌∙◌, List, ℕ, OnOk, append-nil, subst}
use Rattle.std.specs.Io.KnownBytes.{Appends}
use Rattle.wd_command.specs.Streams.{AppendsPart}
use Rattle.wd_command.proofs.failure.write_line.Goals as goal

pub returns-in-Unassigned-clause-whole : goal.returns-in-Unassigned-clause-whole
returns-in-Unassigned-clause-whole g c = rw c.in-Unassigned.is c.write_pieces-in-Unassigned.ensures.whole

pub returns-in-Unassigned-clause-part : goal.returns-in-Unassigned-clause-part
returns-in-Unassigned-clause-part g c = rw c.in-Unassigned.is c.write_pieces-in-Unassigned.ensures.part

pub returns-in-CannotWrite-clause-whole : goal.returns-in-CannotWrite-clause-whole
returns-in-CannotWrite-clause-whole g c = rw c.in-CannotWrite.is c.write_pieces-in-CannotWrite.ensures.whole

pub returns-in-Fault-clause-whole : goal.returns-in-Fault-clause-whole
returns-in-Fault-clause-whole g c =
    let same = append-nil c.fault_line.result.now ∙ c.fault_line.ensures in
    rw c.in-Fault.is (subst (λ (text : List ℕ). OnOk c.write_pieces-in-Fault.result (Appends (g.E.Write.contents c.args.err.now) (g.E.Write.contents c.write_pieces-in-Fault.new.out) text))
    same c.write_pieces-in-Fault.ensures.whole)

pub returns-in-Fault-clause-part : goal.returns-in-Fault-clause-part
returns-in-Fault-clause-part g c =
    let same = append-nil c.fault_line.result.now ∙ c.fault_line.ensures in
    rw c.in-Fault.is (subst (AppendsPart (g.E.Write.contents c.args.err.now) (g.E.Write.contents c.write_pieces-in-Fault.new.out)) same c.write_pieces-in-Fault.ensures.part)
