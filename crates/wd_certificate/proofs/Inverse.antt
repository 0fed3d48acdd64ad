-- A JSON value spells one certificate.
use Rattle.std.proofs.Common.{◌≡◌, ◌≢◌, ℕ, List, [], ◌∷◌, Option, Some, None, refl, sym, ap, ap₂, ◌∙◌, arith}
use Rattle.std.specs.Prelude.{codes}
use Rattle.wd_json.proofs.Inverse.{One, one_list, one_number, one_optional, two_same, string_same, some_same}
use Rattle.wd_certificate.specs.Certificates.{TraceRecord, KeptRecord, NodeRecord, CertificateRecord}
use Rattle.wd_json.specs.Json.{number_json, list_json, optional_json}
use Rattle.wd_certificate.specs.Json.{trace_json, target_json, kept_json, rule_json, rule_word, rule_trace, node_json, certificate_json, Spells, version_number}
use Rattle.wd_certificate.specs.Refusals.{HasCause}
use Rattle.wd_certificate.specs.Laws.{SpellsOne, IsReadBack}
use Rattle.wd_certificate.specs.declared.certificate.Rule.{Rule}
use Rattle.wd_certificate.specs.declared.certificate.Rule.TheVariants as rule
use Rattle.wd_certificate.specs.declared.certificate.Target.TheVariants as target
use Rattle.wd_certificate.specs.declared.certificate.Version.{Version}
use Rattle.wd_certificate.specs.declared.certificate.Version.TheVariants as version
use Rattle.wd_certificate.specs.declared.error.CertError.{CertError}
use Rattle.wd_certificate.specs.declared.error.CertError.TheVariants as error

one_target : One target_json
one_target (target.Column c) (target.Column d) e = let h : c ≡ d = cc in ap (λ x. target.Column x) h
one_target (target.Column c) target.Row e = absurd (cc)
one_target target.Row (target.Column d) e = absurd (cc)
one_target target.Row target.Row e = refl

abbrev first : List ℕ → ℕ
first [] = 0
first (x ∷ xs) = x

none_some : (n : ℕ) → {A : Type 0} → None ≡ Some n → A
none_some n e = absurd (cc)

some_none : (n : ℕ) → {A : Type 0} → Some n ≡ None → A
some_none n e = absurd (cc)

one_by : (r s : Rule) → rule_word r ≡ rule_word s → rule_trace r ≡ rule_trace s → r ≡ s
one_by rule.Peers rule.Peers e f = refl
one_by rule.Peers (rule.Unique u) e f = none_some u f
one_by rule.Peers (rule.Values u) e f = none_some u f
one_by rule.Peers (rule.Exchange u) e f = none_some u f
one_by (rule.Unique t) rule.Peers e f = some_none t f
one_by (rule.Unique t) (rule.Unique u) e f = let h : t ≡ u = cc in ap (λ x. rule.Unique x) h
one_by (rule.Unique t) (rule.Values u) e f = absurd (let h : 117 ≡ 118 = ap first e in omega arith)
one_by (rule.Unique t) (rule.Exchange u) e f = absurd (let h : 117 ≡ 101 = ap first e in omega arith)
one_by (rule.Values t) rule.Peers e f = some_none t f
one_by (rule.Values t) (rule.Unique u) e f = absurd (let h : 118 ≡ 117 = ap first e in omega arith)
one_by (rule.Values t) (rule.Values u) e f = let h : t ≡ u = cc in ap (λ x. rule.Values x) h
one_by (rule.Values t) (rule.Exchange u) e f = absurd (let h : 118 ≡ 101 = ap first e in omega arith)
one_by (rule.Exchange t) rule.Peers e f = some_none t f
one_by (rule.Exchange t) (rule.Unique u) e f = absurd (let h : 101 ≡ 117 = ap first e in omega arith)
one_by (rule.Exchange t) (rule.Values u) e f = absurd (let h : 101 ≡ 118 = ap first e in omega arith)
one_by (rule.Exchange t) (rule.Exchange u) e f = let h : t ≡ u = cc in ap (λ x. rule.Exchange x) h

one_rule : One rule_json
one_rule r s e =
    let both = two_same (codes "rule") (codes "trace") _ _ _ _ e in
    one_by r s (string_same _ _ both.0) (one_optional (rule_trace r) (rule_trace s) both.1)

one_trace : One trace_json
one_trace t u e =
    let from : list_json number_json t.from ≡ list_json number_json u.from = cc in
    let uses : list_json number_json t.uses ≡ list_json number_json u.uses = cc in
    ap₂ (λ a b. record { from = a; uses = b }) (one_list number_json one_number t.from u.from from) (one_list number_json one_number t.uses u.uses uses)

one_kept : One kept_json
one_kept k l e =
    let to : list_json target_json k.to ≡ list_json target_json l.to = cc in
    let trace : k.trace ≡ l.trace = cc in
    ap₂ (λ a b. record { to = a; trace = b }) (one_list target_json one_target k.to l.to to) trace

abbrev made : List Rule → List KeptRecord → Option ℕ → List TraceRecord → NodeRecord
made calls keep limit traces = record { calls = calls; keep = keep; limit = limit; traces = traces }

one_node : One node_json
one_node m n e =
    let calls : list_json rule_json m.calls ≡ list_json rule_json n.calls = cc in
    let keep : list_json kept_json m.keep ≡ list_json kept_json n.keep = cc in
    let limit : optional_json m.limit ≡ optional_json n.limit = cc in
    let traces : list_json trace_json m.traces ≡ list_json trace_json n.traces = cc in
    ap (λ x. made x m.keep m.limit m.traces) (one_list rule_json one_rule m.calls n.calls calls) ∙ ap (λ x. made n.calls x m.limit m.traces) (one_list kept_json one_kept m.keep n.keep keep)
    ∙ ap (λ x. made n.calls n.keep x m.traces) (one_optional m.limit n.limit limit) ∙ ap (λ x. made n.calls n.keep n.limit x) (one_list trace_json one_trace m.traces n.traces traces)

pub one_certificate : (v w : ℕ) (a b : List NodeRecord) → certificate_json v a ≡ certificate_json w b → (v ≡ w) × (a ≡ b)
one_certificate v w a b e =
    let version : v ≡ w = cc in
    let nodes : list_json node_json a ≡ list_json node_json b = cc in
    (version, one_list node_json one_node a b nodes)

pub spells_one : SpellsOne
spells_one bytes v w a b first second = one_certificate v w a b (some_same _ _ (sym first.1 ∙ second.1))

-- versions with one number are the same
one_version : (v w : Version) → version_number v ≡ version_number w → v ≡ w
one_version version.One version.One e = refl
one_version version.One version.Two e = absurd (omega (arith, e))
one_version version.Two version.One e = absurd (omega (arith, e))
one_version version.Two version.Two e = refl

one_record : (bytes : List ℕ) (a b : CertificateRecord) → Spells a bytes → Spells b bytes → a ≡ b
one_record bytes a b first second =
    let both = spells_one bytes (version_number a.version) (version_number b.version) a.nodes b.nodes first second in
    ap₂ (λ n v. record { nodes = n; version = v }) both.1 (one_version a.version b.version both.0)

-- a version that is read has no other number than 1 and 2
read_version : (v : Version) → version_number v ≢ 1 → version_number v ≢ 2 → ⊥
read_version version.One not_1 not_2 = not_1 refl
read_version version.Two not_1 not_2 = not_2 refl

refused_not : (bytes : List ℕ) (certificate : CertificateRecord) → Spells certificate bytes → (e : CertError) → HasCause e bytes → e ≡ error.OutOfMemory
refused_not bytes certificate spelled error.NotJson r = absurd (r _ spelled)
refused_not bytes certificate spelled error.Shape r = absurd (r.2 (version_number certificate.version) certificate.nodes (some_same _ _ (sym r.1.1 ∙ spelled.1)))
refused_not bytes certificate spelled error.Version r =
    let same : r.0 ≡ version_number certificate.version = (spells_one bytes r.0 (version_number certificate.version) r.1 certificate.nodes r.2 spelled).0 in
    absurd (read_version certificate.version (λ e. r.3 (same ∙ e)) (λ e. r.4 (same ∙ e)))
refused_not bytes certificate spelled error.OutOfMemory r = refl
refused_not bytes certificate spelled _ r = absurd r

pub is_read_back : IsReadBack
is_read_back bytes certificate spelled = (λ other h. one_record bytes other certificate h spelled, refused_not bytes certificate spelled)
