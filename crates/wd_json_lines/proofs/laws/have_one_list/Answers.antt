use Rattle.wd_json_lines.proofs.Reading.{one_list}
use Rattle.wd_json_lines.proofs.laws.have_one_list.Goals as goal

pub returns : goal.returns
returns g c = one_list g.T.InLine.json
