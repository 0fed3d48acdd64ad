use Rattle.std.proofs.Common.{◌≡◌, ◌≤◌, Some, false, ap, sym, subst, ◌∙◌}
use Rattle.serde_json.specs.Data.{depth}
use Rattle.serde_json.specs.Read.{max_depth}
use Rattle.serde_json.specs.View.{view}
use Rattle.serde_json.specs.Written.{has_float, compact_text}
use Rattle.wd_witness_text.specs.Witnesses.{witness_of}
use Rattle.wd_witness_text.proofs.Plain.{plain_witness, deep_witness}
use Rattle.wd_witness_text.proofs.witness.Witness.to_json.Goals as goal

pub returns-clause-text : goal.returns-clause-text
returns-clause-text c =
    let plain : has_float (view c.in_ok-value.value) ≡ false = ap has_float c.in_ok-value.ensures.json ∙ plain_witness (witness_of c.args.self.now) in
    c.in_ok-to_vec.ensures.text plain ∙ ap compact_text c.in_ok-value.ensures.json

pub returns-clause-spells : goal.returns-clause-spells
returns-clause-spells c =
    let deep : depth (view c.in_ok-value.value) ≤ max_depth = subst (λ d. depth d ≤ max_depth) (sym c.in_ok-value.ensures.json) (deep_witness (witness_of c.args.self.now)) in
    (c.in_ok-to_vec.ensures.utf8, c.in_ok-to_vec.ensures.reads_back deep ∙ ap (λ d. Some d) c.in_ok-value.ensures.json)

pub returns-clause-fits : goal.returns-clause-fits
returns-clause-fits c = c.in_ok-value.ensures.fits
