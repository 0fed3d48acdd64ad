-- What is open after one more bracket is opened.
use Rattle.std.proofs.Common.{◌≡◌, ◌<◌, ◌≤◌, ◌+◌, nat_lt, true, Some, tests, add-one, ℕ, zero, suc, List, ◌∷◌, length, refl, rules, arith}
use Rattle.std.proofs.Math.ListN.{set}
use Rattle.std.proofs.lemmas.List.{get_or-set_same, get_or-set_other}
use Rattle.wd_operands.specs.declared.nest.Bracket.{Bracket}
use Rattle.wd_operands.specs.declared.nest.Bracket.TheVariants.{Round}
use Rattle.wd_operands.specs.declared.nest.Step.TheVariants.{Opens}
use Rattle.wd_operands.specs.Nests.{open_after}
use Rattle.wd_operands.specs.Opened.{last_first}

pub length-last_first : (count : ℕ) (brackets : List Bracket) → length (last_first count brackets) ≡ count
length-last_first zero brackets = refl
length-last_first (suc count) brackets = omega (arith, length-last_first count brackets)

last_first-set : (count i : ℕ) (brackets : List Bracket) (bracket : Bracket) → count ≤ i → last_first count (set brackets i bracket) ≡ last_first count brackets
last_first-set zero i brackets bracket le = refl
last_first-set (suc count) i brackets bracket le =
    rw (get_or-set_other brackets i count bracket Round (λ e. omega arith), last_first-set count i brackets bracket (omega arith)) refl

pub last_first-more : (count : ℕ) (brackets : List Bracket) (bracket : Bracket) → count < length brackets → last_first (suc count) (set brackets count bracket) ≡ bracket ∷ last_first count brackets
last_first-more count brackets bracket lt =
    rw (get_or-set_same brackets count bracket Round lt, last_first-set count count brackets bracket (omega arith)) refl

fewer : (a b : ℕ) → a < b → nat_lt a b ≡ true
fewer a b lt = search (rules, tests)

pub last_first-pushed : (count : ℕ) (brackets : List Bracket) (bracket : Bracket) → count < 64 → 64 ≤ length brackets
    → open_after (last_first count brackets) (Opens bracket) ≡ Some (last_first (count + 1) (set brackets count bracket))
last_first-pushed count brackets bracket lt le =
    rw (length-last_first count brackets, fewer count 64 lt, add-one count, last_first-more count brackets bracket (omega arith)) refl
