-- Texts of JSON without white space have no line feed, so that lines of them are read as they were written.
use Rattle.std.proofs.Common.{◌≡◌, ◌≢◌, ◌∙◌, ℕ, zero, suc, ◌+◌, ◌/◌, ◌%◌, ◌<◌, ◌==◌, Bool, true, false, cond, not, ◌&&◌, pos, negsuc, List, [], ◌∷◌, ◌++◌, length, map, take, drop, get_or, refl, sym, ap, ap₂, subst, arith, append_assoc, append-nil, length-append}
use Rattle.std.proofs.lemmas.Bool.{cond-true, and_parts}
use Rattle.std.proofs.lemmas.Bool.Decides.{nat_tests}
use Rattle.std.proofs.lemmas.Grind.{flat_map-append}
use Rattle.std.proofs.lemmas.List.{take_at, drop_at, take_more, map_push}
use Rattle.std.proofs.lemmas.List.Folds.{list_all-append}
use Rattle.std.specs.Fmt.{decimal, digit_glyph, digits, digits_onto}
use Rattle.std.specs.List.{flat_map, list_all}
use Rattle.json.specs.Print.{escape_byte, escape_letter, quoted}
use Rattle.serde_json.specs.Data.{Data, Num, unsigned, negative, float, null, boolean, number, string, array, object, Items, no_items, item, Members, no_members, member}
use Rattle.serde_json.specs.Written.{comma_if, compact_text, items_text, members_text, number_text}
use Rattle.wd_json.specs.Json.{IsJsonOf}
use Rattle.wd_json_lines.specs.Lines.{AreLines, after_line, first_line, line_len, line_text, lines_text}

abbrev is_no_feed : ℕ → Bool
is_no_feed b = not (b == 10)

-- ---- the parts

letter_ends_none : (b : ℕ) → is_no_feed (escape_letter b) ≡ true
letter_ends_none b = grind (arith, nat_tests)

byte_ends_none : (b : ℕ) → list_all is_no_feed (escape_byte b) ≡ true
unfolding escape_byte
byte_ends_none b = grind (arith, nat_tests, letter_ends_none b)

escape_ends_none : (s : List ℕ) → list_all is_no_feed (flat_map escape_byte s) ≡ true
escape_ends_none [] = refl
escape_ends_none (b ∷ s) = list_all-append is_no_feed (escape_byte b) (flat_map escape_byte s) ∙ ap₂ (λ x y. x && y) (byte_ends_none b) (escape_ends_none s)

quoted_ends_none : (s : List ℕ) → list_all is_no_feed (quoted s) ≡ true
quoted_ends_none s = list_all-append is_no_feed (flat_map escape_byte s) (34 ∷ []) ∙ ap (λ x. x && true) (escape_ends_none s)

both_end_none : (xs ys : List ℕ) → list_all is_no_feed xs ≡ true → list_all is_no_feed ys ≡ true → list_all is_no_feed (xs ++ ys) ≡ true
both_end_none xs ys h k = list_all-append is_no_feed xs ys ∙ ap₂ (λ x y. x && y) h k

glyph_ends_none : (d : ℕ) → is_no_feed (digit_glyph false d) ≡ true
glyph_ends_none d = grind (arith, nat_tests)

onto_ends_none : (k n : ℕ) (acc : List ℕ) → list_all is_no_feed acc ≡ true → list_all is_no_feed (digits_onto k 10 false n acc) ≡ true
onto_ends_none zero n acc h = h
onto_ends_none (suc k) n acc h =
    let more : list_all is_no_feed (digit_glyph false (n % 10) ∷ acc) ≡ true = ap₂ (λ x y. x && y) (glyph_ends_none (n % 10)) h in
    by_case (n / 10 == 0) _ _ more (onto_ends_none k (n / 10) (digit_glyph false (n % 10) ∷ acc) more)
  where
    by_case : (b : Bool) (xs ys : List ℕ) → list_all is_no_feed xs ≡ true → list_all is_no_feed ys ≡ true → list_all is_no_feed (cond b xs ys) ≡ true
    by_case true xs ys p q = p
    by_case false xs ys p q = q

decimal_ends_none : (n : ℕ) → list_all is_no_feed (decimal n) ≡ true
unfolding digits
decimal_ends_none n = onto_ends_none 64 n [] refl

number_ends_none : (n : Num) → list_all is_no_feed (number_text n) ≡ true
number_ends_none (unsigned n) = decimal_ends_none n
number_ends_none (negative (pos n)) = decimal_ends_none n
number_ends_none (negative (negsuc n)) = decimal_ends_none (suc n)
number_ends_none (float x) = refl

comma_ends_none : (later : Bool) → list_all is_no_feed (comma_if later) ≡ true
comma_ends_none true = refl
comma_ends_none false = refl

word_ends_none : (b : Bool) → list_all is_no_feed (compact_text (boolean b)) ≡ true
word_ends_none true = refl
word_ends_none false = refl

-- ---- all of a text

mutual
  text_ends_none : (d : Data) → list_all is_no_feed (compact_text d) ≡ true
  text_ends_none null = refl
  text_ends_none (boolean b) = word_ends_none b
  text_ends_none (number n) = number_ends_none n
  text_ends_none (string s) = quoted_ends_none s
  text_ends_none (array ds) = items_end_none false ds
  text_ends_none (object ms) = members_end_none false ms

  items_end_none : (later : Bool) (ds : Items) → list_all is_no_feed (items_text later ds) ≡ true
  items_end_none later no_items = refl
  items_end_none later (item d ds) = both_end_none (comma_if later) _ (comma_ends_none later) (both_end_none (compact_text d) _ (text_ends_none d) (items_end_none true ds))

  members_end_none : (later : Bool) (ms : Members) → list_all is_no_feed (members_text later ms) ≡ true
  members_end_none later no_members = refl
  members_end_none later (member k d ms) =
      both_end_none (comma_if later) _ (comma_ends_none later)
      (both_end_none (quoted k) _ (quoted_ends_none k) (both_end_none (compact_text d) _ (text_ends_none d) (members_end_none true ms)))

-- ---- the first line

len_of : (line rest : List ℕ) → list_all is_no_feed line ≡ true → line_len (line ++ 10 ∷ rest) ≡ length line
len_of [] rest h = refl
len_of (b ∷ line) rest h =
    let parts = and_parts (is_no_feed b) (list_all is_no_feed line) h in
    cond-true (is_no_feed b) _ _ parts.0 ∙ (let more = len_of line rest parts.1 in omega (arith, more))

pub first_of_text : (line rest : List ℕ) → list_all is_no_feed line ≡ true → first_line (line ++ 10 ∷ rest) ≡ line
first_of_text line rest h = take_at line (10 ∷ rest) (line_len (line ++ 10 ∷ rest)) (sym (len_of line rest h))

pub after_text : (line rest : List ℕ) → list_all is_no_feed line ≡ true → after_line (line ++ 10 ∷ rest) ≡ rest
after_text line rest h =
    ap (drop (line_len (line ++ 10 ∷ rest) + 1)) (sym (append_assoc line (10 ∷ []) rest))
    ∙ drop_at (line ++ 10 ∷ []) rest (line_len (line ++ 10 ∷ rest) + 1) (let e = len_of line rest h in omega (arith, e, length-append line (10 ∷ [])))

some_text : (line rest : List ℕ) → line ++ 10 ∷ rest ≢ []
some_text [] rest e = cc
some_text (b ∷ line) rest e = cc

-- ---- all lines

-- each value's text is JSON of it
abbrev pub AreSpelled : {A : Type 0} → (A → Data) → List A → Type 0
AreSpelled json [] = Unit {0}
AreSpelled json (x ∷ xs) = IsJsonOf (json x) (compact_text (json x)) × AreSpelled json xs

module _ {A : Type 0} (json : A → Data) where
  pub are_lines : (xs : List A) → AreSpelled json xs → AreLines json xs (lines_text json xs)
  are_lines [] all = refl
  are_lines (x ∷ xs) all =
      let text = compact_text (json x) in
      let rest = lines_text json xs in
      let none = text_ends_none (json x) in
      subst (AreLines json (x ∷ xs)) (sym (append_assoc text (10 ∷ []) rest))
      (some_text text rest, subst (IsJsonOf (json x)) (sym (first_of_text text rest none)) all.0, subst (AreLines json xs) (sym (after_text text rest none)) (are_lines xs all.1))

  spelled_push : (xs : List A) (x : A) → AreSpelled json xs → IsJsonOf (json x) (compact_text (json x)) → AreSpelled json (xs ++ x ∷ [])
  spelled_push [] x all is = (is, tt)
  spelled_push (y ∷ ys) x all is = (all.0, spelled_push ys x all.1 is)

  -- so far these lines are written
  pub record AreWritten (xs : List A) (text : List ℕ) : Type 0 where
    pub text_is : text ≡ lines_text json xs
    pub spelled : AreSpelled json xs

  pub none_written : (xs : List A) (text : List ℕ) → xs ≡ [] → text ≡ [] → AreWritten xs text
  none_written xs text none empty = rw (none, empty) (record { text_is = refl; spelled = tt })

  -- one line more, and its line feed
  pub line_more : {X : Type 0} (said : X → A) (items : List X) (i : ℕ) (d : X) (text line between after : List ℕ) → AreWritten (map said (take i items)) text → i < length items
      → line ≡ compact_text (json (said (get_or items i d))) → IsJsonOf (json (said (get_or items i d))) line → between ≡ text ++ line → after ≡ between ++ 10 ∷ [] → AreWritten (map said (take (i + 1) items)) after
  line_more said items i d text line between after h within is spells added ended =
      let x = said (get_or items i d) in
      let more : map said (take (i + 1) items) ≡ map said (take i items) ++ x ∷ [] = ap (map said) (take_more items i d within) ∙ map_push said (take i items) (get_or items i d) in
      rw more (record {
        text_is = ended ∙ ap (λ t. t ++ 10 ∷ []) (added ∙ ap₂ (λ t l. t ++ l) h.text_is is) ∙ append_assoc (lines_text json (map said (take i items))) (compact_text (json x)) (10 ∷ [])
            ∙ sym (flat_map-append (λ y. line_text (json y)) (map said (take i items)) (x ∷ []) ∙ ap (λ e. lines_text json (map said (take i items)) ++ e) (append-nil (line_text (json x))));
        spelled = spelled_push (map said (take i items)) x h.spelled (subst (IsJsonOf (json x)) is spells);
      })
