-- What an escaped text holds.
use Rattle.std.proofs.Common.{◌≡◌, ℕ, zero, suc, ◌+◌, ◌/◌, ◌%◌, ◌<◌, ◌≤◌, ◌++◌, Bool, true, false, not, ◌&&◌, ◌||◌, cond, nat_lt, nat_le, nat_eq, flat_map, All, List, [], ◌∷◌, chars, codes, arith, refl, subst, inl, inr}
use Rattle.std.specs.List.{list_all}
use Rattle.std.specs.Str.Lossy.{utf8_lossy}
use Rattle.std.proofs.lemmas.Bool.{and_parts, or_cases, cases_lt, cases_eq, leb-true, eqb-true}
use Rattle.std.proofs.lemmas.List.Elements.{All-append, All-cons, All-nil}
use lib.Utf8.{encode, next}
use Rattle.wd_markup.specs.Escapes.{IsPlainByte, escaped, escaped_char, escaped_chars, hex_digit, is_control, is_unseen, named, seen}

-- ---- a byte

abbrev is_plain : ℕ → Bool
is_plain b = (not (nat_eq b 60) && (not (nat_eq b 62) && (not (nat_eq b 34) && (not (nat_eq b 39) && not (nat_eq b 127))))) && (nat_le 32 b || (nat_eq b 9 || nat_eq b 10))

plain : (b : ℕ) → is_plain b ≡ true → IsPlainByte b
plain b h = record {
  no_less = λ e. (let absurd_is : false ≡ true = subst (λ n. is_plain n ≡ true) e h in cc);
  no_greater = λ e. (let absurd_is : false ≡ true = subst (λ n. is_plain n ≡ true) e h in cc);
  no_quote = λ e. (let absurd_is : false ≡ true = subst (λ n. is_plain n ≡ true) e h in cc);
  no_apostrophe = λ e. (let absurd_is : false ≡ true = subst (λ n. is_plain n ≡ true) e h in cc);
  no_delete = λ e. (let absurd_is : false ≡ true = subst (λ n. is_plain n ≡ true) e h in cc);
  no_control = elim (or_cases _ _ (and_parts _ _ h).1) [
    | inl e ↦ inl (leb-true 32 b e)
    | inr e ↦ inr (elim (or_cases _ _ e) [ inl t ↦ inl (eqb-true b 9 t) | inr t ↦ inr (eqb-true b 10 t) ])
  ];
}

-- a byte of a character that is not ASCII
high : (b : ℕ) → 128 ≤ b → IsPlainByte b
high b h = record {
  no_less = λ e. omega arith;
  no_greater = λ e. omega arith;
  no_quote = λ e. omega arith;
  no_apostrophe = λ e. omega arith;
  no_delete = λ e. omega arith;
  no_control = inl (omega arith);
}

all_plain : (bytes : List ℕ) → list_all is_plain bytes ≡ true → All IsPlainByte bytes
all_plain [] h = All-nil IsPlainByte
all_plain (b ∷ bytes) h =
    let both = and_parts (is_plain b) (list_all is_plain bytes) h in
    All-cons IsPlainByte b bytes (plain b both.0) (all_plain bytes both.1)

either : (t : Bool) (a b : List ℕ) → All IsPlainByte a → All IsPlainByte b → All IsPlainByte (cond t a b)
either true a b x y = x
either false a b x y = y

-- ---- a character that is ASCII: all 128 are tried

abbrev are_plain_below : (ℕ → List ℕ) → ℕ → Bool
are_plain_below f zero = true
are_plain_below f (suc n) = list_all is_plain (f n) && are_plain_below f n

below : (f : ℕ → List ℕ) (n : ℕ) → are_plain_below f n ≡ true → (x : ℕ) → x < n → All IsPlainByte (f x)
below f zero e x h = absurd (omega arith)
below f (suc n) e x h =
    let p = and_parts _ _ e in
    elim (cases_eq x n) [
      | inl same ↦ all_plain (f x) (subst (λ m. list_all is_plain (f m) ≡ true) (omega arith) p.0)
      | inr differ ↦ below f n p.1 x (omega arith)
    ]

ascii : are_plain_below escaped_char 128 ≡ true
unfolding encode
ascii = refl

-- ---- one that is not

abbrev digit : ℕ → List ℕ
digit d = hex_digit d ∷ []

digits : are_plain_below digit 16 ≡ true
digits = refl

named_plain : (c : ℕ) → All IsPlainByte (named c)
named_plain c =
    let one : (d : ℕ) → All IsPlainByte (digit (d % 16)) = λ d. below digit 16 digits (d % 16) (omega arith) in
    let last : All IsPlainByte (digit (c % 16) ++ codes "&#10215;") = All-append IsPlainByte (digit (c % 16)) (codes "&#10215;") (one c) (all_plain (codes "&#10215;") refl) in
    let two : All IsPlainByte (digit (c / 16 % 16) ++ (digit (c % 16) ++ codes "&#10215;")) = All-append IsPlainByte (digit (c / 16 % 16)) (digit (c % 16) ++ codes "&#10215;") (one (c / 16)) last in
    let three : All IsPlainByte (digit (c / 256 % 16) ++ (digit (c / 16 % 16) ++ (digit (c % 16) ++ codes "&#10215;"))) = All-append IsPlainByte (digit (c / 256 % 16)) (digit (c / 16 % 16) ++ (digit (c % 16) ++ codes "&#10215;")) (one (c / 256)) two in
    let four : All IsPlainByte (digit (c / 4096 % 16) ++ (digit (c / 256 % 16) ++ (digit (c / 16 % 16) ++ (digit (c % 16) ++ codes "&#10215;")))) = All-append IsPlainByte (digit (c / 4096 % 16)) (digit (c / 256 % 16) ++ (digit (c / 16 % 16) ++ (digit (c % 16) ++ codes "&#10215;"))) (one (c / 4096)) three in
    All-append IsPlainByte (codes "&#10214;U+") (digit (c / 4096 % 16) ++ (digit (c / 256 % 16) ++ (digit (c / 16 % 16) ++ (digit (c % 16) ++ codes "&#10215;")))) (all_plain (codes "&#10214;U+") refl) four

one_high : (b : ℕ) (bytes : List ℕ) → 128 ≤ b → All IsPlainByte bytes → All IsPlainByte (b ∷ bytes)
one_high b bytes h rest = All-cons IsPlainByte b bytes (high b h) rest

encoded_plain : (c : ℕ) → 128 ≤ c → All IsPlainByte (encode c)
unfolding encode
encoded_plain c h =
    let none = All-nil IsPlainByte in
    let last : All IsPlainByte (next c ∷ []) = one_high (next c) [] (omega arith) none in
    let two : All IsPlainByte (next (c / 64) ∷ next c ∷ []) = one_high (next (c / 64)) (next c ∷ []) (omega arith) last in
    either (nat_lt c 128) (c ∷ []) _ (one_high c [] h none)
    (either (nat_lt c 2048) ((192 + c / 64) ∷ next c ∷ []) _ (one_high (192 + c / 64) (next c ∷ []) (omega arith) last)
    (either (nat_lt c 65536) ((224 + c / 4096) ∷ next (c / 64) ∷ next c ∷ []) _ (one_high (224 + c / 4096) (next (c / 64) ∷ next c ∷ []) (omega arith) two)
    (one_high (240 + c / 262144) (next (c / 4096) ∷ next (c / 64) ∷ next c ∷ []) (omega arith) (one_high (next (c / 4096)) (next (c / 64) ∷ next c ∷ []) (omega arith) two))))

wide : (c : ℕ) → 128 ≤ c → All IsPlainByte (escaped_char c)
wide c h =
    either (nat_eq c 38) (codes "&amp;") _ (all_plain (codes "&amp;") refl)
    (either (nat_eq c 60) (codes "&lt;") _ (all_plain (codes "&lt;") refl)
    (either (nat_eq c 62) (codes "&gt;") _ (all_plain (codes "&gt;") refl)
    (either (nat_eq c 34) (codes "&quot;") _ (all_plain (codes "&quot;") refl)
    (either (nat_eq c 39) (codes "&#39;") _ (all_plain (codes "&#39;") refl)
    (either (nat_eq c 13) (codes " ") _ (all_plain (codes " ") refl)
    (either (is_control c || is_unseen c) (named c) (encode c) (named_plain c) (encoded_plain c h)))))))

-- ---- a text

pub escaped_char_plain : (c : ℕ) → All IsPlainByte (escaped_char c)
escaped_char_plain c = elim (cases_lt c 128) [
  | inl small ↦ below escaped_char 128 ascii c small
  | inr big ↦ wide c big
]

chars_plain : (cs : List ℕ) → All IsPlainByte (flat_map escaped_char cs)
chars_plain [] = All-nil IsPlainByte
chars_plain (c ∷ cs) = All-append IsPlainByte (escaped_char c) (flat_map escaped_char cs) (escaped_char_plain c) (chars_plain cs)

pub escaped_plain : (text : List ℕ) → All IsPlainByte (escaped text)
escaped_plain text = chars_plain (chars (utf8_lossy text))
