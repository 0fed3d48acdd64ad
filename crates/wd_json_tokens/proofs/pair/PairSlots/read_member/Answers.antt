use Rattle.std.proofs.Common.{◌≡◌, ◌≢◌, Some, option_map, sym, ◌∙◌, subst}
use Rattle.std.proofs.lemmas.Bool.Decides.{not_from_Decides}
use Rattle.std.proofs.lemmas.Slice.Eq.{bytes_eq-Decides}
use Rattle.serde_json.specs.Data.{put}
use Rattle.wd_json_tokens.specs.Pairs.{HoldsPair, slot_seen}
use Rattle.wd_json_tokens.proofs.Held.{put_first, put_second, put_other}
use Rattle.wd_json_tokens.proofs.pair.PairSlots.read_member.Goals as goal

pub returns-in_ok-read-clause-ok : goal.returns-in_ok-read-clause-ok
returns-in_ok-read-clause-ok g c =
    let s = c.args.self.now in
    let done = c.in_ok-read.ensures.ok in
    let k = s.first_name.now in
    let l = s.second_name.now in
    let a = slot_seen g.A.FromTokens.said s.first in
    let b = slot_seen g.B.FromTokens.said s.second in
    let x = option_map g.A.FromTokens.said c.in_ok-read.field-0 in
    let same : c.args.name.now ≡ k = (bytes_eq-Decides c.args.name.now k).0 (sym c.eq.ensures ∙ c.if-eq.true) in (
      done.0,
      done.1,
      λ ms h. (
        h.0,
        subst (λ n. HoldsPair k l g.A.FromTokens.json g.B.FromTokens.json (Some x) b s.has_other (put n done.0 ms)) (sym same)
            (put_first k l g.A.FromTokens.json g.B.FromTokens.json a b s.has_other x done.0 ms h.0 done.2 h.1),
      ),
    )

pub returns-in_ok-read-2-clause-ok : goal.returns-in_ok-read-2-clause-ok
returns-in_ok-read-2-clause-ok g c =
    let s = c.args.self.now in
    let done = c.in_ok-read-2.ensures.ok in
    let k = s.first_name.now in
    let l = s.second_name.now in
    let a = slot_seen g.A.FromTokens.said s.first in
    let b = slot_seen g.B.FromTokens.said s.second in
    let y = option_map g.B.FromTokens.said c.in_ok-read-2.field-0 in
    let same : c.args.name.now ≡ l = (bytes_eq-Decides c.args.name.now l).0 (sym c.eq-else-eq.ensures ∙ c.if-eq-2.true) in (
      done.0,
      done.1,
      λ ms h. (
        h.0,
        subst (λ n. HoldsPair k l g.A.FromTokens.json g.B.FromTokens.json a (Some y) s.has_other (put n done.0 ms)) (sym same)
            (put_second k l g.A.FromTokens.json g.B.FromTokens.json a b s.has_other y done.0 ms h.0 done.2 h.1),
      ),
    )

pub returns-in_ok-skip_value-clause-ok : goal.returns-in_ok-skip_value-clause-ok
returns-in_ok-skip_value-clause-ok g c =
    let s = c.args.self.now in
    let done = c.in_ok-skip_value.ensures.ok in
    let k = s.first_name.now in
    let l = s.second_name.now in
    let a = slot_seen g.A.FromTokens.said s.first in
    let b = slot_seen g.B.FromTokens.said s.second in
    let not_first : c.args.name.now ≢ k = not_from_Decides _ (bytes_eq-Decides c.args.name.now k) (sym c.eq.ensures ∙ c.if-eq.false) in
    let not_second : c.args.name.now ≢ l = not_from_Decides _ (bytes_eq-Decides c.args.name.now l) (sym c.eq-else-eq.ensures ∙ c.if-eq-2.false) in
    (done.0, done.1, λ ms h. (h.0, put_other k l g.A.FromTokens.json g.B.FromTokens.json c.args.name.now a b done.0 ms not_first not_second))
