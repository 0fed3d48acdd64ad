use Rattle.std.proofs.Common.{arith, ◌≡◌, ◌<◌, ◌==◌, ℕ, List, false, true≢false, length, get_or, lit<, Option, Some, None, IfNone}
use Rattle.std.proofs.lemmas.List.{length-take, get_or-take}
use Rattle.std.proofs.lemmas.List.Sums.{fails_before_first}
use Rattle.std.specs.List.{before_first, position_or_len}
use Rattle.wd_command.specs.Words.{HasNoEquals}
use Rattle.wd_command.proofs.words.table_from.Goals as goal

-- before the place of the first `=` there is none
none_at : (word : List ℕ) (k : ℕ) → k < position_or_len (λ b. b == 61) word → get_or word k 61 ≡ 61 → ⊥
none_at word k below hit =
    let miss : (get_or word k 61 == 61) ≡ false = fails_before_first (λ b. b == 61) word k 61 below in
    let wrong : (61 == 61) ≡ false = rw hit at miss in
    absurd (true≢false wrong)

-- no `=` stands before the first one
none_before : (word : List ℕ) → HasNoEquals (before_first (λ b. b == 61) word)
none_before word (k, inside, is) =
    let n = position_or_len (λ b. b == 61) word in
    let below : k < n = omega (arith, length-take n word) in
    none_at word k below (rw (get_or-take n word k 61 below) at is)

-- a text whose first `=` would stand at its end has none
none_inside : (word : List ℕ) → position_or_len (λ b. b == 61) word ≡ length word → HasNoEquals word
none_inside word at_end (k, inside, is) = none_at word k (omega (arith, at_end, inside)) is

pub returns-clause-first : goal.returns-clause-first
returns-clause-first c =
    let parts = c.in_ok-name.ensures.byte (lit< tt) (λ w o found. found) in
    rw parts.0 (none_before c.args.word.now)

if_none : {X : Type 0} (r : Option X) (P : Type 0) → P → IfNone r P
if_none None P holds = holds
if_none (Some x) P holds = tt

pub returns-in_err-name-clause-none : goal.returns-in_err-name-clause-none
returns-in_err-name-clause-none c =
    if_none c.from_residual.result (HasNoEquals c.args.word.now) (none_inside c.args.word.now (c.in_err-name.ensures.byte (lit< tt) (λ w o found. found)))
