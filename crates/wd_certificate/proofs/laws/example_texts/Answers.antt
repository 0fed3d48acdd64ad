use Rattle.std.proofs.Common.{refl}
use Rattle.std.specs.Fmt.{digits}
use Rattle.serde_json.proofs.OnLiterals.{serde_json_on_literals}
use Rattle.wd_certificate.specs.Examples.{HaveExampleTexts}
use Rattle.wd_certificate.proofs.laws.example_texts.Goals as goal

example_texts : HaveExampleTexts
unfolding serde_json_on_literals digits
example_texts = record { of_version_1 = refl; of_version_2 = refl }

pub returns : goal.returns
returns c = example_texts
