-- How the loop over the links of an operand goes on.
use Rattle.std.proofs.Common.{◌≡◌, ◌≢◌, ◌<◌, ◌+◌, ◌-◌, ℕ, zero, suc, eqb, false, List, drop, refl, rules, arith}
use Rattle.wd_lex.specs.declared.token.Token.{Token}
use Rattle.wd_operands.specs.Operands.{link_length, links_from}

pub links_end : (turns count : ℕ) (tokens : List Token) → link_length tokens ≡ 0 → links_from turns count tokens ≡ count
unfolding links_from
links_end zero count tokens e = refl
links_end (suc turns) count tokens e = rw e refl

not_none : (n : ℕ) → n ≢ 0 → eqb n 0 ≡ false
not_none n ne = search rules

pub links_more : (turns i count : ℕ) (tokens : List Token) → i < turns → link_length tokens ≢ 0
    → links_from (turns - i) count tokens ≡ links_from (turns - (i + 1)) (count + link_length tokens) (drop (link_length tokens) tokens)
unfolding links_from
links_more turns i count tokens lt ne =
    let k : turns - i ≡ suc (turns - (i + 1)) = omega arith in
    rw (k, not_none (link_length tokens) ne) refl
