-- How the loops over the terms of a sum and over the factors of a product go on.
use Rattle.std.proofs.Common.{◌≡◌, ◌≢◌, ◌∙◌, ◌<◌, ◌≤◌, ◌+◌, ◌-◌, ℕ, zero, suc, nat_eq, false, List, [], ◌∷◌, get_or, length, take, drop, Option, None, refl, ap, length-drop, arith}
use Rattle.std.proofs.lemmas.Bool.{eqb-false, ne_eqb}
use Rattle.std.proofs.lemmas.Grind.{common_steps}
use Rattle.wd_lex.specs.declared.token.Token.{Token}
use Rattle.wd_units.specs.declared.token.Stop.{Stop}
use Rattle.wd_units.specs.declared.token.Stop.TheVariants.{Factor, Sign}
use Rattle.wd_units.specs.declared.unit.Unit.{Unit as Counts}
use Rattle.wd_units.specs.Tokens.{part_length}
use Rattle.wd_units.specs.Units.{operation_unit}
use Rattle.wd_amounts.specs.Terms.{Join, Known, chain_from, chain_of, factor_unit, multiple_unit, term_unit, unit_within}

following : (token : Token) (tokens : List Token) → take (length (token ∷ tokens) - 1) tokens ≡ tokens
following token tokens = grind (arith, common_steps)

abbrev pub after : List Token → List Token
after tokens = take (length tokens - 1) (drop 1 tokens)

pub within_none : (known : Known) (depth : ℕ) (tokens : List Token) → depth ≡ 0 → unit_within known depth tokens ≡ None
unfolding unit_within
within_none known depth tokens e = rw e refl

within_some : (known : Known) (depth : ℕ) (tokens : List Token) → depth ≢ 0 → chain_of Sign operation_unit (term_unit (unit_within known (depth - 1)) known) tokens ≡ unit_within known depth tokens
unfolding unit_within
within_some known zero tokens ne = absurd (ne refl)
within_some known (suc depth) tokens ne = let k : suc depth - 1 ≡ depth = omega arith in rw k refl

-- the loop begins with the first part
pub chain_first : (stop : Stop) (join : Join) (part : List Token → Option Counts) (tokens : List Token)
    → chain_from stop join part (length tokens - 0) (part (take (part_length stop tokens) tokens)) (drop (part_length stop tokens) tokens) ≡ chain_of stop join part tokens
chain_first stop join part tokens = let none : length tokens - 0 ≡ length tokens = omega arith in rw none refl

pub within_first : (known : Known) (depth : ℕ) (tokens : List Token) → depth ≢ 0
    → chain_from Sign operation_unit (term_unit (unit_within known (depth - 1)) known) (length tokens - 0) (term_unit (unit_within known (depth - 1)) known (take (part_length Sign tokens) tokens)) (drop (part_length Sign tokens) tokens) ≡ unit_within known depth tokens
within_first known depth tokens ne = chain_first Sign operation_unit (term_unit (unit_within known (depth - 1)) known) tokens ∙ within_some known depth tokens ne

chain_more : (stop : Stop) (join : Join) (part : List Token → Option Counts) (turns i : ℕ) (unit : Option Counts) (tokens : List Token) (other : Token) → i < turns → 1 ≤ length tokens
    → chain_from stop join part (turns - (i + 1)) (join (get_or tokens 0 other).kind unit (part (take (part_length stop (after tokens)) (after tokens)))) (drop (part_length stop (after tokens)) (after tokens))
    ≡ chain_from stop join part (turns - i) unit tokens
unfolding chain_from
chain_more stop join part turns i unit [] other lt le = absurd (omega arith)
chain_more stop join part turns i unit (token ∷ tokens) other lt le =
    let k : turns - i ≡ suc (turns - (i + 1)) = omega arith in
    rw k (ap (λ more. chain_from stop join part (turns - (i + 1)) (join token.kind unit (part (take (part_length stop more) more))) (drop (part_length stop more) more)) (following token tokens))

-- with the operator at the start
pub chain_with : (stop : Stop) (join : Join) (part : List Token → Option Counts) (turns i : ℕ) (unit : Option Counts) (tokens : List Token) (operator : Token) → operator ≡ get_or tokens 0 operator → i < turns → 1 ≤ length tokens
    → chain_from stop join part (turns - (i + 1)) (join operator.kind unit (part (take (part_length stop (after tokens)) (after tokens)))) (drop (part_length stop (after tokens)) (after tokens))
    ≡ chain_from stop join part (turns - i) unit tokens
chain_with stop join part turns i unit tokens operator is lt le =
    ap (λ (s : Token). chain_from stop join part (turns - (i + 1)) (join s.kind unit (part (take (part_length stop (after tokens)) (after tokens)))) (drop (part_length stop (after tokens)) (after tokens))) is
    ∙ chain_more stop join part turns i unit tokens operator lt le

pub chain_none : (stop : Stop) (join : Join) (part : List Token → Option Counts) (turns : ℕ) (unit : Option Counts) (tokens : List Token) → length tokens < 1 → chain_from stop join part turns unit tokens ≡ unit
unfolding chain_from
chain_none stop join part zero unit [] lt = refl
chain_none stop join part (suc turns) unit [] lt = refl
chain_none stop join part turns unit (token ∷ tokens) lt = absurd (omega arith)

pub chain_over : (stop : Stop) (join : Join) (part : List Token → Option Counts) (turns i : ℕ) (unit : Option Counts) (tokens : List Token) → turns ≤ i → chain_from stop join part (turns - i) unit tokens ≡ unit
unfolding chain_from
chain_over stop join part turns i unit tokens le = let k : turns - i ≡ 0 = omega arith in rw k refl

-- there are two factors at least
pub multiple_some : (inner : List Token → Option Counts) (known : Known) (tokens : List Token) → nat_eq (length (drop (part_length Factor tokens) tokens)) 0 ≡ false
    → chain_of Factor operation_unit (factor_unit inner known) tokens ≡ multiple_unit inner known tokens
unfolding multiple_unit
multiple_some inner known tokens some =
    let more : length (drop (part_length Factor tokens) tokens) ≢ 0 = eqb-false (length (drop (part_length Factor tokens) tokens)) 0 some in
    let ne : part_length Factor tokens ≢ length tokens = (λ e. more (omega (arith, length-drop (part_length Factor tokens) tokens))) in
    rw (ne_eqb (part_length Factor tokens) (length tokens) ne) refl
