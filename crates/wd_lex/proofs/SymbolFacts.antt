-- Facts of each spelling of a table.
use Rattle.std.proofs.Common.{◌≡◌, ℕ, ◌<◌, ◌≤◌, Bool, true, false, cond, List, [], ◌∷◌, length, Option, Some, is_some, refl, subst, arith, bytes_eq}
use Rattle.std.proofs.lemmas.Slice.Eq.{bytes_eq-Decides}
use Rattle.wd_lex.specs.declared.token.Terminal.{Terminal}
use Rattle.wd_lex.specs.Terminals.{lookup, symbols}

-- a fact of each spelling
abbrev pub Each : (List ℕ → Type 0) → List (List ℕ × Terminal) → Type 0
Each P [] = Unit {0}
Each P (entry ∷ table) = P entry.0 × Each P table

each_by : (P : List ℕ → Type 0) (entry : List ℕ × Terminal) (found : Option Terminal) (bytes : List ℕ) (t : Bool) → bytes_eq entry.0 bytes ≡ t
    → is_some (cond t (Some entry.1) found) ≡ true → P entry.0 → (is_some found ≡ true → P bytes) → P bytes
each_by P entry found bytes true same known here there = subst P ((bytes_eq-Decides entry.0 bytes).0 same) here
each_by P entry found bytes false other known here there = there known

-- what a table has, has the fact that each of its spellings has
pub each_spelling : (P : List ℕ → Type 0) (table : List (List ℕ × Terminal)) (bytes : List ℕ) → is_some (lookup table bytes) ≡ true → Each P table → P bytes
each_spelling P [] bytes known each = absurd cc
each_spelling P (entry ∷ table) bytes known each =
    each_by P entry (lookup table bytes) bytes (bytes_eq entry.0 bytes) refl known each.0 (λ found. each_spelling P table bytes found each.1)

-- a symbol has one byte or two, both ASCII
pub record IsShort (bytes : List ℕ) : Type 0 where
  pub least : 0 < length bytes
  pub most : length bytes ≤ 2

short_one : (b : ℕ) → IsShort (b ∷ [])
short_one b = record { least = omega arith; most = omega arith }

short_two : (b c : ℕ) → IsShort (b ∷ c ∷ [])
short_two b c = record { least = omega arith; most = omega arith }

pub symbol_short : (bytes : List ℕ) → is_some (lookup symbols bytes) ≡ true → IsShort bytes
symbol_short bytes known = each_spelling IsShort symbols bytes known (
  short_one 40,
  (
    short_one 41,
    (
      short_one 44,
      (
        short_one 46,
        (
          short_one 59,
          (
            short_one 42,
            (
              short_one 43,
              (
                short_one 45,
                (
                  short_one 47,
                  (
                    short_one 37,
                    (short_one 61, (short_two 60 62, (short_two 33 61, (short_one 60, (short_two 60 61, (short_one 62, (short_two 62 61, tt))))))),
                  ),
                ),
              ),
            ),
          ),
        ),
      ),
    ),
  ),
)
