use Rattle.std.proofs.Common.{◌≡◌, refl, Some, None}
use Rattle.wd_certificate.specs.declared.error.CertError.{CertError}
use Rattle.wd_rules.proofs.Valid.{not_refused, valid}
use Rattle.wd_rules.proofs.laws.certificates_come_out.Goals as goal

none_refused : (refusal : CertError) → Some refusal ≡ None → ⊥
none_refused refusal e = cc

pub returns : goal.returns
returns c = record {
  numbered_fits = refl;
  unique = valid _ _ _ refl;
  later_version = valid _ _ _ refl;
  call_left_out = λ v. none_refused _ (not_refused _ _ _ v);
  target_not_reached = λ v. none_refused _ (not_refused _ _ _ v);
  use_not_reached = λ v. none_refused _ (not_refused _ _ _ v);
  two_exchanges = λ v. none_refused _ (not_refused _ _ _ v);
  early_use = refl;
  no_fact = refl;
  short_trace = refl;
  no_column = refl;
  from_input = refl;
  to_input = refl;
  no_trace = refl;
  no_peers = refl;
  missing_node = refl;
  missing_rule = refl;
  stray_rule = refl;
  stray_limit = refl;
  other_order = refl;
  exchange = valid _ _ _ refl;
  second_exchange = refl;
  full_key = valid _ _ _ refl;
  nullable_key = refl;
  stable_frame = valid _ _ _ refl;
  running_frame = refl;
  values = valid _ _ _ refl;
  join_fits = refl;
  both_sides = valid _ _ _ refl;
  one_side = refl;
  ties = valid _ _ _ refl;
  no_ties = refl;
  ties_after_an_offset = refl;
  keys = valid _ _ _ refl;
  other_keys = refl;
  map_facts = refl;
}
