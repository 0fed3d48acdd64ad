-- What is kept of names, use by use and level by level.
use Rattle.std.proofs.Common.{◌≡◌, ◌∙◌, ◌+◌, ◌-◌, ◌++◌, ℕ, suc, Bool, true, false, cond, List, [], ◌∷◌, Option, Some, None, String, refl, ap, arith}
use Rattle.std.specs.Cmp.Lexicographic.{bytes_decides}
use Rattle.std.specs.HashMap.{HashMap, get_by_text}
use Rattle.std.specs.Map.{update}
use Rattle.std.specs.Str.{bytes_eq}
use Rattle.wd_lex.specs.declared.token.Token.{Token}
use Rattle.wd_dialect_read.specs.declared.said.Statement.{Statement}
use Rattle.wd_units.specs.declared.unit.Unit.{Unit as Counts}
use Rattle.wd_units.specs.Units.{either, unit_of_kind}
use Rattle.wd_amounts.specs.declared.known.KnownNames.{KnownNames}
use Rattle.wd_amounts.specs.Names.{level_uses, uses_in}
use Rattle.wd_amounts.specs.Seen.{kept_seen, known_seen}
use Rattle.wd_amounts.specs.Terms.{unit_of}
use Rattle.wd_amounts.specs.Uses.{Use, agreed_from, column_uses, in_uses, known_by, with_next, with_use}

module _ {V : Type 0} (both : Option V → Option V → Option V) where
  -- what is kept of a name that is used once more
  pub used : {Y S : Type 0} (old new : HashMap (String Y) (Option V) S) (next : Use V) (value : Option V)
      → Some value ≡ with_use both (get_by_text old next.0) next.1
      → ((other : List ℕ) → get_by_text new other ≡ update bytes_eq (get_by_text old) next.0 (Some value) other)
      → (other : List ℕ) → get_by_text new other ≡ with_next both (get_by_text old other) next other
  used old new next value is sets other = sets other ∙ by_case (bytes_eq next.0 other) refl
    where
      by_case : (b : Bool) → bytes_eq next.0 other ≡ b → cond (bytes_eq next.0 other) (Some value) (get_by_text old other) ≡ with_next both (get_by_text old other) next other
      by_case true same = rw same (is ∙ ap (λ name. with_use both (get_by_text old name) next.1) ((bytes_decides next.0 other).0 same))
      by_case false differs = rw differs refl

  -- uses after others
  pub agreed_append : (so_far : Option (Option V)) (name : List ℕ) (uses others : List (Use V)) → agreed_from both (agreed_from both so_far name uses) name others ≡ agreed_from both so_far name (uses ++ others)
  unfolding agreed_from
  agreed_append so_far name [] others = refl
  agreed_append so_far name (x ∷ uses) others = agreed_append (with_next both so_far x name) name uses others

-- what is kept is what the uses come to
abbrev pub Keeps : KnownNames Counts → List (Use Counts) → Type 0
Keeps known uses = (name : List ℕ) → kept_seen known name ≡ agreed_from either None name uses

pub seen : (known : KnownNames Counts) (uses : List (Use Counts)) → Keeps known uses → known_seen known ≡ known_by either uses
seen known uses keeps = λ i name. ap in_uses (keeps name) i

-- the columns are kept first
pub first_kept : (known : KnownNames Counts) (old : List ℕ → Option (Option Counts)) (statements : List Statement) (tokens : List Token) (uses : List (Use Counts))
    → ((name : List ℕ) → old name ≡ None) → uses ≡ column_uses unit_of_kind statements → ((name : List ℕ) → kept_seen known name ≡ agreed_from either (old name) name uses)
    → Keeps known (uses_in statements tokens 0)
unfolding uses_in
first_kept known old statements tokens uses none are added name = added name ∙ ap (λ before. agreed_from either before name uses) (none name) ∙ ap (agreed_from either None name) are

-- and then those of a further level
pub level_kept : (old known : KnownNames Counts) (statements : List Statement) (tokens : List Token) (levels : ℕ) (uses : List (Use Counts))
    → Keeps old (uses_in statements tokens levels) → uses ≡ level_uses (unit_of (known_seen old)) (64 - levels) tokens
    → ((name : List ℕ) → kept_seen known name ≡ agreed_from either (kept_seen old name) name uses)
    → Keeps known (uses_in statements tokens (levels + 1))
unfolding uses_in
level_kept old known statements tokens levels uses keeps are added name =
    let before = uses_in statements tokens levels in
    let next : levels + 1 ≡ suc levels = omega arith in
    rw next (added name ∙ ap (λ so_far. agreed_from either so_far name uses) (keeps name) ∙ agreed_append either None name before uses
    ∙ ap (λ more. agreed_from either None name (before ++ more)) (are ∙ ap (λ k. level_uses (unit_of k) (64 - levels) tokens) (seen old before keeps)))
