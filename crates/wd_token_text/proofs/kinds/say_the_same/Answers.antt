use Rattle.std.proofs.Common.{◌≡◌, ◌<◌, ℕ, List, ap, length, get_or, sym, ◌∙◌, arith}
use Rattle.std.proofs.lemmas.List.{get_or-map}
use Rattle.wd_lex.specs.declared.token.Token.{Token}
use Rattle.wd_lex.specs.Lexed.{kinds_of}
use Rattle.wd_token_text.proofs.kinds.say_the_same.Goals as goal

-- tokens that say the same say so at each place
same_at : (xs ys : List Token) (i : ℕ) (x y : Token) → i < length xs → i < length ys → kinds_of xs ≡ kinds_of ys → (get_or xs i x).kind ≡ (get_or ys i y).kind
same_at xs ys i x y in_xs in_ys e =
    sym (get_or-map (λ (t : Token). t.kind) xs i x x.kind in_xs) ∙ ap (λ kinds. get_or kinds i x.kind) e ∙ get_or-map (λ (t : Token). t.kind) ys i y x.kind in_ys

pub returns-then-not-is_same : goal.returns-then-not-is_same
returns-then-not-is_same c = record {
  same = λ h. cc;
  other = λ h.
      sym c.if-not-is_same.true
      ∙ c.is_same.ensures.other (same_at c.args.tokens.now c.args.others.now c.loop-number.number c.index-tokens-number.result c.index-others-number.result c.loop-number-test.true (omega (arith, c.if-tokens-others.false)) h);
}
