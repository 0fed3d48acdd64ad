use Rattle.std.proofs.Common.{◌≡◌, Bool, true, false, ap, refl, rules, sym, ◌∙◌}
use denote.Enum.Bare.{sameb, same_false, same_true}
use Rattle.wd_lex.specs.contracts.token.Terminal.{the_type}
use Rattle.wd_lex.specs.declared.token.Terminal.{Terminal}
use Rattle.wd_lex.specs.declared.token.TokenKind.TheVariants as t
use Rattle.wd_token_text.proofs.kinds.is_same.Goals as goal

-- terminals that are one compare as the same
same_so : (x y : Terminal) (b : Bool) → b ≡ sameb the_type x y → x ≡ y → b ≡ true
same_so x y true e one = refl
same_so x y false e one = absurd (same_false the_type x y (sym e) one)

one_terminal : (x y : Terminal) → t.Terminal x ≡ t.Terminal y → x ≡ y
one_terminal x y e = cc

pub returns-in-Terminal-Terminal : goal.returns-in-Terminal-Terminal
returns-in-Terminal-Terminal c =
    let here = c.in-Terminal-Terminal in record {
      same = λ h. here.is-0 ∙ ap t.Terminal (same_true the_type (search rules) here.a here.b (sym c.eq.ensures ∙ h)) ∙ sym here.is-1;
      other = λ h. same_so here.a here.b c.eq.result c.eq.ensures (one_terminal here.a here.b (sym here.is-0 ∙ h ∙ here.is-1));
    }
