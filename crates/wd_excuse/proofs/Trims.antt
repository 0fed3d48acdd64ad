-- White space at the end of bytes.
use Rattle.std.proofs.Common.{◌≡◌, ◌∙◌, ℕ, zero, suc, ◌-◌, ◌<◌, ◌≤◌, true, false, ◌&&◌, List, [], ◌∷◌, length, get_or, take, refl, sym, ap, ap₂, subst, arith}
use Rattle.std.proofs.lemmas.Bool.{cond-true, cond-false}
use Rattle.std.proofs.lemmas.Bool.Decides.{nat_tests}
use Rattle.std.proofs.lemmas.List.Folds.{list_all_at}
use Rattle.std.specs.Char.{is_ascii_whitespace}
use Rattle.std.specs.List.{list_all}
use Rattle.std.specs.Str.{IsTrimAsciiEnd}
use Rattle.wd_lex.specs.Characters.{is_blank}
use Rattle.wd_excuse.specs.Lines.{cut_after}

blank : (b : ℕ) → is_ascii_whitespace b ≡ true → is_blank b ≡ true
blank b e = grind (arith, nat_tests)

other : (b : ℕ) → is_ascii_whitespace b ≡ false → is_blank b ≡ false
other b e = grind (arith, nat_tests)

-- bytes are white space where each is
all_blank : (bytes : List ℕ) → ((i : ℕ) → i < length bytes → is_blank (get_or bytes i 0) ≡ true) → list_all is_blank bytes ≡ true
all_blank [] each = refl
all_blank (b ∷ bytes) each = ap₂ (λ s t. s && t) (each 0 (omega arith)) (all_blank bytes (λ i h. each (suc i) (omega arith)))

-- bytes are cut after the last one that is no white space
cut_at : (bytes : List ℕ) (n : ℕ) → n ≤ length bytes → ((i : ℕ) → n ≤ i → i < length bytes → is_blank (get_or bytes i 0) ≡ true) → ((m : ℕ) → n ≡ suc m → is_blank (get_or bytes m 0) ≡ false)
    → take n bytes ≡ cut_after bytes
cut_at [] zero within white last = refl
cut_at [] (suc n) within white last = absurd (omega arith)
cut_at (b ∷ bytes) zero within white last = sym (cond-true (list_all is_blank (b ∷ bytes)) _ _ (all_blank (b ∷ bytes) (λ i h. white i (omega arith) h)))
cut_at (b ∷ bytes) (suc n) within white last =
    let some : n < length (b ∷ bytes) = omega arith in
    let more : take n bytes ≡ cut_after bytes = cut_at bytes n (omega arith) (λ i h k. white (suc i) (omega arith) (omega arith)) (λ m e. last (suc m) (ap suc e)) in
    ap (λ l. b ∷ l) more ∙ sym (cond-false (list_all is_blank (b ∷ bytes)) _ _ (list_all_at is_blank (b ∷ bytes) n 0 some (last n refl)))

pub trim_end : (bytes r : List ℕ) → IsTrimAsciiEnd bytes r → r ≡ cut_after bytes
trim_end bytes r (n, is, long, within, white, last) =
    is ∙ cut_at bytes n within (λ i h k. blank (get_or bytes i 0) (white i h k))
    (λ m e. let some : 0 < n = omega arith in let before : n - 1 ≡ m = omega arith in other (get_or bytes m 0) (subst (λ k. is_ascii_whitespace (get_or bytes k 0) ≡ false) before (last some)))
