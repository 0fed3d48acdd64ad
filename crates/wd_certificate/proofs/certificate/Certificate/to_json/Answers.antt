use Rattle.std.proofs.Common.{◌≡◌, ◌≤◌, Some, false, ap, sym, subst, ◌∙◌}
use Rattle.serde_json.specs.Data.{depth}
use Rattle.serde_json.specs.Read.{max_depth}
use Rattle.serde_json.specs.View.{view}
use Rattle.serde_json.specs.Written.{has_float, compact_text}
use Rattle.wd_certificate.specs.Certificates.{nodes_of}
use Rattle.wd_certificate.specs.Json.{version_number}
use Rattle.wd_certificate.proofs.Plain.{plain_certificate, deep_certificate}
use Rattle.wd_certificate.proofs.certificate.Certificate.to_json.Goals as goal

pub returns-clause-text : goal.returns-clause-text
returns-clause-text c =
    let plain : has_float (view c.in_ok-value.value) ≡ false = ap has_float c.in_ok-value.ensures ∙ plain_certificate (version_number c.args.self.now.version) (nodes_of c.args.self.now) in
    c.in_ok-to_vec.ensures.text plain ∙ ap compact_text c.in_ok-value.ensures

pub returns-clause-spells : goal.returns-clause-spells
returns-clause-spells c =
    let deep : depth (view c.in_ok-value.value) ≤ max_depth = subst (λ d. depth d ≤ max_depth) (sym c.in_ok-value.ensures) (deep_certificate (version_number c.args.self.now.version) (nodes_of c.args.self.now)) in
    (c.in_ok-to_vec.ensures.utf8, c.in_ok-to_vec.ensures.reads_back deep ∙ ap (λ d. Some d) c.in_ok-value.ensures)
