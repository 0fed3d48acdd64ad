-- What is read is spelled so, and no tree goes on where reading stops.
use Rattle.std.proofs.Common.{◌≡◌, ◌∙◌, ◌⊎◌, inl, inr, ℕ, suc, ◌≤◌, sym, ap, subst, List, [], ◌∷◌, length, Option, Some, None, Ok, Err, refl, arith}
use Rattle.std.specs.Prelude.{⊤}
use Rattle.wd_lex.specs.declared.token.Terminal.{Terminal}
use Rattle.wd_lex.specs.declared.token.TokenKind.{TokenKind}
use Rattle.wd_lex.specs.declared.token.TokenKind.TheVariants as k
use Rattle.wd_read_cursor.specs.declared.words.KeyWord.{KeyWord}
use Rattle.wd_read_cursor.specs.Tokens.{letters}
use Rattle.wd_read_cursor.specs.Cursor.{Unexpected, Limit, ◌>>=◌, Reads, choose, some_or_unexpected, eat, eat_word}
use Rattle.wd_read_cursor.proofs.Eaten.{eat_is, eat_same, eat_word_is, eat_word_same}

-- The first list is the same as the second up to and with the token from which on so many are left.
abbrev pub Agree : ℕ → List TokenKind → List TokenKind → Type 0
Agree left [] [] = ⊤
Agree left (x ∷ xs) [] = ⊥
Agree left [] (y ∷ ys) = ⊥
Agree left (x ∷ xs) (y ∷ ys) = (x ≡ y) × (left ≤ length ys → Agree left xs ys)

-- The first list is the same as the second before the token from which on so many are left.
abbrev pub Before : ℕ → List TokenKind → List TokenKind → Type 0
Before left xs [] = ⊤
Before left [] (y ∷ ys) = left ≤ length ys → ⊥
Before left (x ∷ xs) (y ∷ ys) = left ≤ length ys → (x ≡ y) × Before left xs ys

-- What was read is spelled so, and another that is spelled alike past it is the same.
pub record IsRead {A : Type 0} (spell : A → List TokenKind → List TokenKind) (Whole : A → Type 0) (May : A → List TokenKind → Type 0) (kinds : List TokenKind) (x : A) (rest : List TokenKind) : Type 0 where
  pub spelled : kinds ≡ spell x rest
  pub whole : Whole x
  pub shorter : length rest ≤ length kinds
  pub same : (left : ℕ) (y : A) (after : List TokenKind) → Whole y → May y after → left ≤ length rest → Agree left (spell y after) kinds → (y ≡ x) × Agree left after rest
  pub carries : (left : ℕ) (after : List TokenKind) → Before left after rest → Before left (spell x after) kinds

-- One is spelled alike before the place where reading stops, and none up to and with it.
pub record IsRefused {A : Type 0} (spell : A → List TokenKind → List TokenKind) (Whole : A → Type 0) (May : A → List TokenKind → Type 0) (kinds : List TokenKind) (left : ℕ) : Type 0 where
  pub within : left ≤ length kinds
  pub none : (y : A) (after : List TokenKind) → Whole y → May y after → Agree left (spell y after) kinds → ⊥
  pub near : (y : A) × Whole y × ((after : List TokenKind) → Before left (spell y after) kinds)

abbrev pub Exact : {A : Type 0} → (A → List TokenKind → List TokenKind) → (A → Type 0) → (A → List TokenKind → Type 0) → List TokenKind → Reads A → Type 0
Exact spell Whole May kinds (Ok x) = IsRead spell Whole May kinds x.0 x.1
Exact spell Whole May kinds (Err (Unexpected left)) = IsRefused spell Whole May kinds left
Exact spell Whole May kinds (Err (Limit left)) = ⊥

-- ---- one item, and what follows it

module _ {A C : Type 0} (spell : A → List TokenKind → List TokenKind) (Whole : A → Type 0) (May : A → List TokenKind → Type 0)
    (spell_all : C → List TokenKind → List TokenKind) (WholeAll : C → Type 0) (MayAll : C → List TokenKind → Type 0)
    (first : C → A) (others : C → List TokenKind → List TokenKind)
    (is : (y : C) (after : List TokenKind) → WholeAll y → spell_all y after ≡ spell (first y) (others y after))
    (whole : (y : C) → WholeAll y → Whole (first y))
    (may : (y : C) (after : List TokenKind) → WholeAll y → MayAll y after → May (first y) (others y after))
    (complete : (x : A) → Whole x → (y : C) × WholeAll y × (first y ≡ x)) where
  before_all : (left : ℕ) (y : C) (x : A) (after kinds : List TokenKind) → WholeAll y → first y ≡ x → Before left (spell x (others y after)) kinds → Before left (spell_all y after) kinds
  before_all left y x after kinds w e before = subst (λ ks. Before left ks kinds) (sym (is y after w)) (subst (λ z. Before left (spell z (others y after)) kinds) (sym e) before)

  second_exact : (kinds : List TokenKind) (x : A) (rest : List TokenKind) (r : Reads C) → IsRead spell Whole May kinds x rest → Exact others (λ y. WholeAll y × (first y ≡ x)) MayAll rest r → Exact spell_all WholeAll MayAll kinds r
  second_exact kinds x rest (Err (Limit left)) read refused = absurd refused
  second_exact kinds x rest (Err (Unexpected left)) read refused = record {
    within = omega (arith, read.shorter, refused.within);
    none = λ y after w may_all agree.
        let both = read.same left (first y) (others y after) (whole y w) (may y after w may_all) refused.within (subst (λ ks. Agree left ks kinds) (is y after w) agree) in
        refused.none y after (w, both.0) may_all both.1;
    near = (refused.near.0, refused.near.1.0, λ after. before_all left refused.near.0 x after kinds refused.near.1.0 refused.near.1.1 (read.carries left (others refused.near.0 after) (refused.near.2 after)));
  }
  second_exact kinds x rest (Ok z) read others_read = record {
    spelled = read.spelled ∙ ap (spell x) others_read.spelled ∙ ap (λ a. spell a (others z.0 z.1)) (sym others_read.whole.1) ∙ sym (is z.0 z.1 others_read.whole.0);
    whole = others_read.whole.0;
    shorter = omega (arith, read.shorter, others_read.shorter);
    same = λ left y after w may_all lt agree.
        let both = read.same left (first y) (others y after) (whole y w) (may y after w may_all) (omega (arith, lt, others_read.shorter)) (subst (λ ks. Agree left ks kinds) (is y after w) agree) in
        others_read.same left y after (w, both.0) may_all lt both.1;
    carries = λ left after before. before_all left z.0 x after kinds others_read.whole.0 others_read.whole.1 (read.carries left (others z.0 after) (others_read.carries left after before));
  }

  pub then_exact : (kinds : List TokenKind) (r : Reads A) (f : A × List TokenKind → Reads C) → Exact spell Whole May kinds r
      → ((x : A) (rest : List TokenKind) → Whole x → kinds ≡ spell x rest → length rest ≤ length kinds → Exact others (λ y. WholeAll y × (first y ≡ x)) MayAll rest (f (x, rest))) → Exact spell_all WholeAll MayAll kinds (r >>= f)
  then_exact kinds (Err (Limit left)) f refused next = absurd refused
  then_exact kinds (Err (Unexpected left)) f refused next = record {
    within = refused.within;
    none = λ y after w may_all agree. refused.none (first y) (others y after) (whole y w) (may y after w may_all) (subst (λ ks. Agree left ks kinds) (is y after w) agree);
    near = let whole_one = complete refused.near.0 refused.near.1 in (whole_one.0, whole_one.1, λ after. before_all left whole_one.0 refused.near.0 after kinds whole_one.1 whole_one.2 (refused.near.2 (others whole_one.0 after)));
  }
  then_exact kinds (Ok x) f read next = second_exact kinds x.0 x.1 (f x) read (next x.0 x.1 read.whole read.spelled read.shorter)

-- nothing is left to read: one alone may be spelled, and it by no token
pub empty_exact : {C : Type 0} (spell : C → List TokenKind → List TokenKind) (Whole : C → Type 0) (May : C → List TokenKind → Type 0) (z : C) (kinds : List TokenKind) → ((after : List TokenKind) → spell z after ≡ after) → Whole z → ((y : C) → Whole y → y ≡ z) → Exact spell Whole May kinds (Ok (z, kinds))
empty_exact spell Whole May z kinds is whole one = record {
  spelled = sym (is kinds);
  whole = whole;
  shorter = omega arith;
  same = λ left y after w may lt agree. (one y w, subst (λ ks. Agree left ks kinds) (ap (λ x. spell x after) (one y w) ∙ is after) agree);
  carries = λ left after before. subst (λ ks. Before left ks kinds) (sym (is after)) before;
}

pub done_exact : {C : Type 0} (Whole : C → Type 0) (May : C → List TokenKind → Type 0) (z : C) (kinds : List TokenKind) → Whole z → ((y : C) → Whole y → y ≡ z) → Exact (λ y after. after) Whole May kinds (Ok (z, kinds))
done_exact {C = C} Whole May z kinds whole one = empty_exact (λ (y : C) after. after) Whole May z kinds (λ after. refl) whole one

-- those that may be spelled here are fewer
pub narrow_exact : {C : Type 0} (spell : C → List TokenKind → List TokenKind) (Whole Narrow : C → Type 0) (May : C → List TokenKind → Type 0) (kinds : List TokenKind) (r : Reads C) → ((left : ℕ) (y : C) (after : List TokenKind) → Whole y → May y after → Agree left (spell y after) kinds → Narrow y) → ((y : C) → Narrow y → Whole y) → Exact spell Narrow May kinds r → Exact spell Whole May kinds r
narrow_exact spell Whole Narrow May kinds (Err (Limit left)) to from refused = absurd refused
narrow_exact spell Whole Narrow May kinds (Err (Unexpected left)) to from refused = record {
  within = refused.within;
  none = λ y after w may agree. refused.none y after (to left y after w may agree) may agree;
  near = (refused.near.0, from refused.near.0 refused.near.1, refused.near.2);
}
narrow_exact spell Whole Narrow May kinds (Ok z) to from read = record {
  spelled = read.spelled;
  whole = from z.0 read.whole;
  shorter = read.shorter;
  same = λ left y after w may lt agree. read.same left y after (to left y after w may agree) may lt agree;
  carries = read.carries;
}

-- ---- a token

-- the token does not stand first
abbrev pub Without : TokenKind → List TokenKind → Type 0
Without token kinds = (rest : List TokenKind) → kinds ≡ token ∷ rest → ⊥

pub agree_first : (left : ℕ) (x : TokenKind) (xs kinds : List TokenKind) → Agree left (x ∷ xs) kinds → (rest : List TokenKind) × (kinds ≡ x ∷ rest) × (left ≤ length rest → Agree left xs rest)
agree_first left x xs [] agree = absurd agree
agree_first left x xs (y ∷ ys) agree = (ys, ap (λ z. z ∷ ys) (sym agree.0), agree.1)

agree_head : (left : ℕ) (xs : List TokenKind) (y : TokenKind) (ys : List TokenKind) → Agree left xs (y ∷ ys) → (rest : List TokenKind) × (xs ≡ y ∷ rest)
agree_head left [] y ys agree = absurd agree
agree_head left (x ∷ xs) y ys agree = (xs, ap (λ z. z ∷ xs) agree.0)

-- nothing stands before the first token
pub before_first : (xs kinds : List TokenKind) → Before (length kinds) xs kinds
before_first xs [] = tt
before_first [] (y ∷ ys) = λ le. absurd (omega arith)
before_first (x ∷ xs) (y ∷ ys) = λ le. absurd (omega arith)

tail_is : (x : TokenKind) (xs ys : List TokenKind) → x ∷ xs ≡ x ∷ ys → xs ≡ ys
tail_is x xs ys e = cc

-- a reader of one token: it finds the token where that stands first, and only there
pub record Eats (token : TokenKind) (found : List TokenKind → Option (List TokenKind)) : Type 0 where
  pub is : (kinds rest : List TokenKind) → found kinds ≡ Some rest → kinds ≡ token ∷ rest
  pub none : (kinds rest : List TokenKind) → found kinds ≡ None → kinds ≡ token ∷ rest → ⊥

module _ (token : TokenKind) (found : List TokenKind → Option (List TokenKind)) (eats : Eats token found)
    {C : Type 0} (spell_all : C → List TokenKind → List TokenKind) (Whole : C → Type 0) (May : C → List TokenKind → Type 0) (others : C → List TokenKind → List TokenKind) where
  following : (left : ℕ) (after kinds rest all : List TokenKind) → kinds ≡ token ∷ rest → all ≡ token ∷ after → Before left after rest → Before left all kinds
  following left after kinds rest all e f before = subst (λ ks. Before left ks kinds) (sym f) (subst (λ ks. Before left (token ∷ after) ks) (sym e) (λ le. (refl, before)))

  token_exact : ((y : C) (after : List TokenKind) → Whole y → spell_all y after ≡ token ∷ others y after) → (kinds rest : List TokenKind) (r : Reads C) → kinds ≡ token ∷ rest → Exact others Whole May rest r → Exact spell_all Whole May kinds r
  token_exact is kinds rest (Err (Limit left)) e refused = absurd refused
  token_exact is kinds rest (Err (Unexpected left)) e refused = record {
    within = let n : length kinds ≡ suc (length rest) = ap length e in omega (arith, refused.within);
    none = λ y after w may agree.
        let found = agree_first left token (others y after) kinds (subst (λ ks. Agree left ks kinds) (is y after w) agree) in
        let same : found.0 ≡ rest = tail_is token found.0 rest (sym found.1 ∙ e) in
        refused.none y after w may (subst (Agree left (others y after)) same (found.2 (rw same refused.within)));
    near = (refused.near.0, refused.near.1, λ after. following left (others refused.near.0 after) kinds rest (spell_all refused.near.0 after) e (is refused.near.0 after refused.near.1) (refused.near.2 after));
  }
  token_exact is kinds rest (Ok z) e read = record {
    spelled = e ∙ ap (λ ks. token ∷ ks) read.spelled ∙ sym (is z.0 z.1 read.whole);
    whole = read.whole;
    shorter = let n : length kinds ≡ suc (length rest) = ap length e in omega (arith, read.shorter);
    same = λ left y after w may lt agree.
        let found = agree_first left token (others y after) kinds (subst (λ ks. Agree left ks kinds) (is y after w) agree) in
        let same : found.0 ≡ rest = tail_is token found.0 rest (sym found.1 ∙ e) in
        read.same left y after w may lt (subst (Agree left (others y after)) same (found.2 (rw same (omega (arith, lt, read.shorter)))));
    carries = λ left after before. following left (others z.0 after) kinds rest (spell_all z.0 after) e (is z.0 after read.whole) (read.carries left after before);
  }

  pub expect_exact : ((y : C) (after : List TokenKind) → Whole y → spell_all y after ≡ token ∷ others y after) → (y : C) × Whole y → (kinds : List TokenKind) (f : List TokenKind → Reads C) → ((rest : List TokenKind) → Exact others Whole May rest (f rest)) → Exact spell_all Whole May kinds (some_or_unexpected (length kinds) (found kinds) >>= f)
  expect_exact is some kinds f next = by (found kinds) refl
    where
      by : (o : Option (List TokenKind)) → found kinds ≡ o → Exact spell_all Whole May kinds (some_or_unexpected (length kinds) o >>= f)
      by (Some rest) e = token_exact is kinds rest (f rest) (eats.is kinds rest e) (next rest)
      by None e = record {
        within = omega arith;
        none = λ y after w may agree.
            let first = agree_first (length kinds) token (others y after) kinds (subst (λ ks. Agree (length kinds) ks kinds) (is y after w) agree) in
            eats.none kinds first.0 e first.1;
        near = (some.0, some.1, λ after. before_first (spell_all some.0 after) kinds);
      }

module _ (token : TokenKind) (found : List TokenKind → Option (List TokenKind)) (eats : Eats token found)
    {C : Type 0} (spell_all : C → List TokenKind → List TokenKind) (Whole : C → Type 0) (May : C → List TokenKind → Type 0) (others : C → List TokenKind → List TokenKind) where
  pub choose_exact : (Yes No : C → Type 0) → ((y : C) → Whole y → Yes y ⊎ No y) → ((y : C) (after : List TokenKind) → Whole y → Yes y → spell_all y after ≡ token ∷ others y after)
      → ((y : C) (after : List TokenKind) → Whole y → No y → May y after → Without token (spell_all y after))
      → (kinds : List TokenKind) (f : List TokenKind → Reads C) (other : Reads C)
      → ((rest : List TokenKind) → kinds ≡ token ∷ rest → Exact others (λ y. Whole y × Yes y) May rest (f rest)) → Exact spell_all (λ y. Whole y × No y) May kinds other
      → Exact spell_all Whole May kinds (choose (found kinds) f other)
  choose_exact Yes No cases is isnt kinds f other next elsewhere = by (found kinds) refl
    where
      to_yes : (rest : List TokenKind) → kinds ≡ token ∷ rest → (left : ℕ) (y : C) (after : List TokenKind) → Whole y → May y after → Agree left (spell_all y after) kinds → Whole y × Yes y
      to_yes rest e left y after w may agree = elim (cases y w) [
        | inl it ↦ (w, it)
        | inr other ↦ let head = agree_head left (spell_all y after) token rest (subst (Agree left (spell_all y after)) e agree) in absurd (isnt y after w other may head.0 head.1)
      ]

      to_no : found kinds ≡ None → (left : ℕ) (y : C) (after : List TokenKind) → Whole y → May y after → Agree left (spell_all y after) kinds → Whole y × No y
      to_no e left y after w may agree = elim (cases y w) [
        | inl it ↦ let first = agree_first left token (others y after) kinds (subst (λ ks. Agree left ks kinds) (is y after w it) agree) in absurd (eats.none kinds first.0 e first.1)
        | inr other ↦ (w, other)
      ]

      by : (o : Option (List TokenKind)) → found kinds ≡ o → Exact spell_all Whole May kinds (choose o f other)
      by (Some rest) e = narrow_exact spell_all Whole (λ y. Whole y × Yes y) May kinds (f rest) (to_yes rest (eats.is kinds rest e)) (λ y h. h.0)
          (token_exact token found eats spell_all (λ y. Whole y × Yes y) May others (λ y after w. is y after w.0 w.1) kinds rest (f rest) (eats.is kinds rest e) (next rest (eats.is kinds rest e)))
      by None e = narrow_exact spell_all Whole (λ y. Whole y × No y) May kinds other (to_no e) (λ y h. h.0) elsewhere

some≢none : (kinds : List TokenKind) → Some kinds ≡ None → ⊥
some≢none kinds e = cc

pub eats_terminal : (x : Terminal) → Eats (k.Terminal x) (eat x)
eats_terminal x = record { is = eat_is x; none = λ kinds rest e at. some≢none rest (sym (eat_same x rest) ∙ ap (eat x) (sym at) ∙ e) }

pub eats_word : (x : KeyWord) → Eats (k.Word (letters x)) (eat_word x)
eats_word x = record { is = eat_word_is x; none = λ kinds rest e at. some≢none rest (sym (eat_word_same x rest) ∙ ap (eat_word x) (sym at) ∙ e) }
