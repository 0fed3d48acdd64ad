use Rattle.std.proofs.Common.{refl}
use Rattle.std.specs.Fmt.{digits}
use Rattle.serde_json.proofs.OnLiterals.{serde_json_on_literals}
use Rattle.wd_witness_text.specs.Examples.{HasExampleText}
use Rattle.wd_witness_text.proofs.laws.example_text.Goals as goal

example_text : HasExampleText
unfolding serde_json_on_literals digits
example_text = refl

pub returns : goal.returns
returns c = example_text
