-- Texts as parts of commands, byte by byte.
use Rattle.std.proofs.Common.{◌≡◌, ◌∙◌, ℕ, ◌+◌, ◌<◌, ◌++◌, Bool, true, false, not, ◌&&◌, cond, All, List, [], ◌∷◌, get_or, length, nat_eq, refl, ap, subst, take, codes}
use Rattle.std.specs.List.{flat_map, list_all}
use Rattle.std.proofs.lemmas.Grind.{flat_map-append}
use Rattle.std.proofs.lemmas.List.{append-nil, take_more}
use Rattle.std.proofs.lemmas.List.Elements.{All-append, All-cons, All-nil}
use Rattle.wd_formats.specs.declared.github.Part.{Part}
use Rattle.wd_formats.specs.declared.github.Part.TheVariants.{Property, Message}
use Rattle.wd_formats.specs.Annotations.{StaysOnLine, message_byte, part_byte, property_byte}

-- one byte more
pub one_more : (f : ℕ → List ℕ) (text : List ℕ) (i : ℕ) → i < length text → flat_map f (take (i + 1) text) ≡ flat_map f (take i text) ++ f (get_or text i 0)
one_more f text i within =
    ap (flat_map f) (take_more text i 0 within) ∙ flat_map-append f (take i text) (get_or text i 0 ∷ []) ∙ ap (λ e. flat_map f (take i text) ++ e) (append-nil (f (get_or text i 0)))

-- ---- what a part holds

abbrev is_on_line : ℕ → Bool
is_on_line b = not (nat_eq b 10) && not (nat_eq b 13)

stays : (b : ℕ) → is_on_line b ≡ true → StaysOnLine b
stays b h = record {
  no_feed = λ e. (let impossible : false ≡ true = subst (λ n. is_on_line n ≡ true) e h in cc);
  no_return = λ e. (let impossible : false ≡ true = subst (λ n. is_on_line n ≡ true) e h in cc);
}

and_true : (a b : Bool) → (a && b) ≡ true → (a ≡ true) × (b ≡ true)
and_true true b h = (refl, h)
and_true false b h = (h, cc)

all_stay : (bytes : List ℕ) → list_all is_on_line bytes ≡ true → All StaysOnLine bytes
all_stay [] h = All-nil StaysOnLine
all_stay (b ∷ bytes) h =
    let both = and_true (is_on_line b) (list_all is_on_line bytes) h in
    All-cons StaysOnLine b bytes (stays b both.0) (all_stay bytes both.1)

itself : (b : ℕ) → nat_eq b 10 ≡ false → nat_eq b 13 ≡ false → All StaysOnLine (b ∷ [])
itself b feed back = all_stay (b ∷ []) (rw (feed, back) refl)

message_stays : (b : ℕ) → All StaysOnLine (message_byte b)
message_stays b = percent (nat_eq b 37) refl
  where
    feed : (t : Bool) → nat_eq b 10 ≡ t → nat_eq b 13 ≡ false → All StaysOnLine (cond t (codes "%0A") (b ∷ []))
    feed true e back = all_stay (codes "%0A") refl
    feed false e back = itself b e back

    back : (t : Bool) → nat_eq b 13 ≡ t → All StaysOnLine (cond t (codes "%0D") (cond (nat_eq b 10) (codes "%0A") (b ∷ [])))
    back true e = all_stay (codes "%0D") refl
    back false e = feed (nat_eq b 10) refl e

    percent : (t : Bool) → nat_eq b 37 ≡ t → All StaysOnLine (cond t (codes "%25") (cond (nat_eq b 13) (codes "%0D") (cond (nat_eq b 10) (codes "%0A") (b ∷ []))))
    percent true e = all_stay (codes "%25") refl
    percent false e = back (nat_eq b 13) refl

property_stays : (b : ℕ) → All StaysOnLine (property_byte b)
property_stays b = colon (nat_eq b 58)
  where
    comma : (t : Bool) → All StaysOnLine (cond t (codes "%2C") (message_byte b))
    comma true = all_stay (codes "%2C") refl
    comma false = message_stays b

    colon : (t : Bool) → All StaysOnLine (cond t (codes "%3A") (cond (nat_eq b 44) (codes "%2C") (message_byte b)))
    colon true = all_stay (codes "%3A") refl
    colon false = comma (nat_eq b 44)

part_stays : (part : Part) (b : ℕ) → All StaysOnLine (part_byte part b)
part_stays Property b = property_stays b
part_stays Message b = message_stays b

pub text_stays : (part : Part) (text : List ℕ) → All StaysOnLine (flat_map (part_byte part) text)
text_stays part [] = All-nil StaysOnLine
text_stays part (b ∷ text) = All-append StaysOnLine (part_byte part b) (flat_map (part_byte part) text) (part_stays part b) (text_stays part text)
