use Rattle.std.proofs.Common.{◌≡◌, [], ◌∷◌, ◌++◌, Some, None, string_bytes, is_ok, sym, ap, ap₂, ◌∙◌}
use Rattle.std.proofs.ResultArms.{chosen}
use Rattle.std.proofs.lemmas.Str.Pattern.{split_parts, strip_prefix_char}
use Rattle.wd_lex.specs.Reading as spec
use Rattle.wd_lex.proofs.QuoteFacts.{unquote_none, unquote_pair_step, unquote_close_step}
use Rattle.wd_lex.proofs.Boundaries.{utf8_after}
use Rattle.wd_lex.proofs.pieces.unquote.Goals as goal

pub loop-before-preserved : goal.loop-before-preserved
loop-before-preserved c =
    let q = c.args.quote in
    let before = c.in-Some.before.now in
    let after = c.in-Some.after.now in
    let more = c.in-Some-strip_prefix.more.now in
    let parts = split_parts q c.loop-before.rest.now (Some (c.in-Some.before, c.in-Some.after)) c.in-Some.ensures.cases c.requires in
    let pair = strip_prefix_char q after (Some c.in-Some-strip_prefix.more) c.in-Some-strip_prefix.ensures.cases c.requires in
    let front = chosen _ _ _ _ c.push_str.ensures.bytes (ap is_ok c.in_ok-push_str.was) in
    let longer = chosen _ _ _ _ c.push.ensures.bytes (ap is_ok c.in_ok-push-in-Some-strip_prefix.was) in
    let inside : string_bytes c.push.new.self ≡ (string_bytes c.loop-before.inside ++ before) ++ q ∷ [] = longer ∙ ap₂ (λ a b. a ++ b) front (c.push.ensures.ascii c.requires) in (
      utf8_after after [] more q (utf8_after c.loop-before.rest.now before after q c.loop-before.invariant.0 parts.0 c.requires) pair c.requires,
      ap (λ l. spec.following l (spec.unquote q more)) inside
          ∙ unquote_pair_step q (string_bytes c.loop-before.inside) c.loop-before.rest.now before after more parts.0 parts.1 pair ∙ c.loop-before.invariant.1,
    )

pub returns-in-None : goal.returns-in-None
returns-in-None c =
    let q = c.args.quote in
    let before = c.in-Some.before.now in
    let after = c.in-Some.after.now in
    let parts = split_parts q c.loop-before.rest.now (Some (c.in-Some.before, c.in-Some.after)) c.in-Some.ensures.cases c.requires in
    let ends = strip_prefix_char q after None c.in-None.ensures.cases c.requires in
    let front = chosen _ _ _ _ c.push_str.ensures.bytes (ap is_ok c.in_ok-push_str.was) in
    ap (λ l. Some (l, after)) (c.in_ok-new-in-None.ensures ∙ front)
    ∙ unquote_close_step q (string_bytes c.loop-before.inside) c.loop-before.rest.now before after parts.0 parts.1 ends ∙ c.loop-before.invariant.1

pub returns : goal.returns
returns c =
    let q = c.args.quote in
    let lacks = split_parts q c.loop-before.rest.now None c.in_default.ensures.cases c.requires in
    sym (ap (spec.following (string_bytes c.loop-before.inside)) (unquote_none q c.loop-before.rest.now lacks)) ∙ c.loop-before.invariant.1
