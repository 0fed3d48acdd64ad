use Rattle.std.proofs.Common.{map, take}
use Rattle.wd_json_lines.proofs.Texts.{AreWritten}
use Rattle.wd_json_lines.proofs.write.write_lines.Given as goal

abbrev pub invariant-loop-item : goal.invariant-loop-item
invariant-loop-item g l = AreWritten g.T.InLine.json (map g.T.InLine.said (take l.item-index l.items)) l.text.items
