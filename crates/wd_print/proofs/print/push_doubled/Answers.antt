use Rattle.std.proofs.Common.{◌≡◌, [], ◌∷◌, ◌++◌, Some, None, string_bytes, is_ok, sym, ap, ap₂, ◌∙◌}
use Rattle.std.proofs.ResultArms.{chosen}
use Rattle.std.proofs.lemmas.Str.Pattern.{split_parts}
use Rattle.wd_lex.specs.Pieces.{doubled}
use Rattle.wd_lex.proofs.Boundaries.{utf8_after}
use Rattle.wd_print.proofs.DoubledFacts.{doubled_none, doubled_step}
use Rattle.wd_print.proofs.print.push_doubled.Goals as goal

pub loop-before-preserved : goal.loop-before-preserved
loop-before-preserved c =
    let q = c.args.quote in
    let before = c.in-Some.before.now in
    let after = c.in-Some.after.now in
    let parts = split_parts q c.loop-before.rest.now (Some (c.in-Some.before, c.in-Some.after)) c.in-Some.ensures.cases c.requires in
    let front = chosen _ _ _ _ c.push_str.ensures.bytes (ap is_ok c.in_ok-push_str.was) in
    let one = chosen _ _ _ _ c.push.ensures.bytes (ap is_ok c.in_ok-push.was) in
    let two = chosen _ _ _ _ c.push-in-Some.ensures.bytes (ap is_ok c.in_ok-push-2.was) in
    let once : string_bytes c.push.new.self ≡ (string_bytes c.loop-before.text ++ before) ++ q ∷ [] = one ∙ ap₂ (λ a b. a ++ b) front (c.push.ensures.ascii c.requires) in
    let twice : string_bytes c.push-in-Some.new.self ≡ ((string_bytes c.loop-before.text ++ before) ++ q ∷ []) ++ q ∷ [] = two ∙ ap₂ (λ a b. a ++ b) once (c.push-in-Some.ensures.ascii c.requires) in (
      utf8_after c.loop-before.rest.now before after q c.loop-before.invariant.0 parts.0 c.requires,
      ap (λ l. l ++ doubled q after) twice ∙ doubled_step q (string_bytes c.loop-before.text) c.loop-before.rest.now before after parts.0 parts.1 ∙ c.loop-before.invariant.1,
    )

pub returns : goal.returns
returns c =
    let q = c.args.quote in
    let lacks = split_parts q c.loop-before.rest.now None c.in_default.ensures.cases c.requires in
    let last = chosen _ _ _ _ c.push_str-2.ensures.bytes (ap is_ok c.in_ok-push_str-2.was) in
    last ∙ ap (λ l. string_bytes c.loop-before.text ++ l) (sym (doubled_none q c.loop-before.rest.now lacks)) ∙ c.loop-before.invariant.1
