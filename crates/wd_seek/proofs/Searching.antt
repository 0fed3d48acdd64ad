-- Searches one after another, and how far a search comes that finds nothing.
use Rattle.std.proofs.Common.{◌≡◌, ◌⊎◌, ℕ, suc, ◌+◌, ◌*◌, ◌/◌, ◌<◌, ◌≤◌, All, List, [], ◌∷◌, ◌++◌, length, take, refl, sym, ◌∙◌, ap, subst, arith, inl, inr, append_assoc}
use Rattle.std.proofs.Math.Nat.{suc-mul}
use Rattle.std.proofs.lemmas.List.{append-nil, take-append-le}
use Rattle.std.proofs.lemmas.List.Elements.{All-cons, All-nil, All-take}
use Rattle.std.proofs.lemmas.Nat.{div_below}
use Rattle.wd_value.specs.Rows.{Instance}
use Rattle.wd_plan.specs.Plans.{PlanTree}
use Rattle.wd_partition.specs.declared.turn.Turn.{Turn}
use Rattle.wd_seek.specs.Evaluations.{ShowNothing, ShowsNothing, evaluations, most_evaluations}
use Rattle.wd_seek.specs.Search.{Begun, FindsNothing, FindsTwo, FirstShowNothing}
use Rattle.wd_seek.proofs.Passing.{none_pass}

-- ---- a search that makes no evaluation

begun_none : (turn : Turn) (plan : PlanTree) (instances : List Instance) → Begun turn plan instances 0
begun_none turn plan [] = refl
begun_none turn plan (i ∷ is) = (none_pass turn plan i, omega arith)

-- there is nothing to try
pub nothing_to_try : (turn : Turn) (plan : PlanTree) (start : ℕ) → FindsNothing turn plan [] start start
nothing_to_try turn plan start = record { before = []; rest = []; spent = 0; part = 0; parts = refl; nothing = refl; begun = refl; total = omega arith; whole = inl refl }

-- no evaluation is left
pub none_left_for : (turn : Turn) (plan : PlanTree) (instances : List Instance) → FindsNothing turn plan instances most_evaluations most_evaluations
none_left_for turn plan instances = record { before = []; rest = instances; spent = 0; part = 0; parts = refl; nothing = refl; begun = begun_none turn plan instances; total = omega arith; whole = inr refl }

-- ---- one search after another

show_both : (turn : Turn) (plan : PlanTree) (xs ys : List Instance) (a b : ℕ) → ShowNothing turn plan xs a → ShowNothing turn plan ys b → ShowNothing turn plan (xs ++ ys) (a + b)
show_both turn plan [] ys a b h g = subst (ShowNothing turn plan ys) (omega (arith, h)) g
show_both turn plan (x ∷ xs) ys a b h g = (h.0, h.1 + b, (let e = h.2 in omega arith), h.3, show_both turn plan xs ys h.1 b h.4 g)

pub begun_end : (turn : Turn) (plan : PlanTree) (rest : List Instance) (n : ℕ) → rest ≡ [] → Begun turn plan rest n → n ≡ 0
begun_end turn plan [] n e h = h
begun_end turn plan (i ∷ is) n e h = absurd cc

module _ (turn : Turn) (plan : PlanTree) (xs ys : List Instance) (start mid end : ℕ) (few : end ≤ most_evaluations) where
  -- the first search went through all that it had
  module _ (a : FindsNothing turn plan xs start mid) (through : a.rest ≡ []) where
    all_gone : xs ≡ a.before
    all_gone = a.parts ∙ ap (λ r. a.before ++ r) through ∙ append-nil a.before

    no_part : a.part ≡ 0
    no_part = begun_end turn plan a.rest a.part through a.begun

    then_nothing : FindsNothing turn plan ys mid end → FindsNothing turn plan (xs ++ ys) start end
    then_nothing b = record {
      before = a.before ++ b.before;
      rest = b.rest;
      spent = a.spent + b.spent;
      part = b.part;
      parts = (λ i. all_gone i ++ b.parts i) ∙ sym (append_assoc a.before b.before b.rest);
      nothing = show_both turn plan a.before b.before a.spent b.spent a.nothing b.nothing;
      begun = b.begun;
      total = let e = a.total in let f = b.total in let g = no_part in omega arith;
      whole = b.whole;
    }

    then_two : (i : Instance) (first second : List (List ℕ)) → FindsTwo turn plan ys mid end i first second → FindsTwo turn plan (xs ++ ys) start end i first second
    then_two i first second b = record {
      before = a.before ++ b.before;
      after = b.after;
      spent = a.spent + b.spent;
      flipped = b.flipped;
      parts = (λ k. all_gone k ++ b.parts k) ∙ sym (append_assoc a.before b.before (i ∷ b.after));
      nothing = show_both turn plan a.before b.before a.spent b.spent a.nothing b.nothing;
      two = b.two;
      total = let e = a.total in let f = b.total in let g = no_part in omega arith;
    }

  -- the first search made the most evaluations
  cut_short : (a : FindsNothing turn plan xs start mid) (rest : List Instance) → a.rest ≡ rest → Begun turn plan rest a.part → mid ≡ most_evaluations → FindsNothing turn plan ys mid end → FindsNothing turn plan (xs ++ ys) start end
  cut_short a [] r g e b = then_nothing a r b
  cut_short a (i ∷ is) r g e b = record {
    before = a.before;
    rest = (i ∷ is) ++ ys;
    spent = a.spent;
    part = a.part;
    parts = ap (λ l. l ++ ys) (a.parts ∙ ap (λ l. a.before ++ l) r) ∙ append_assoc a.before (i ∷ is) ys;
    nothing = a.nothing;
    begun = g;
    total = let t = a.total in let u = b.total in omega arith;
    whole = inr (let u = b.total in omega arith);
  }

  pub nothing_then : FindsNothing turn plan xs start mid → FindsNothing turn plan ys mid end → FindsNothing turn plan (xs ++ ys) start end
  nothing_then a b = by a.whole
    where
      by : (a.rest ≡ []) ⊎ (mid ≡ most_evaluations) → FindsNothing turn plan (xs ++ ys) start end
      by (inl through) = then_nothing a through b
      by (inr e) = cut_short a a.rest refl a.begun e b

  pub two_then : (i : Instance) (first second : List (List ℕ)) → FindsNothing turn plan xs start mid → FindsTwo turn plan ys mid end i first second → FindsTwo turn plan (xs ++ ys) start end i first second
  two_then i first second a b = by a.whole
    where
      by : (a.rest ≡ []) ⊎ (mid ≡ most_evaluations) → FindsTwo turn plan (xs ++ ys) start end i first second
      by (inl through) = then_two a through i first second b
      by (inr e) = absurd (let u = b.total in omega arith)

-- what comes after a candidate that shows two answers does not matter
pub two_before : (turn : Turn) (plan : PlanTree) (xs ys : List Instance) (start end : ℕ) (i : Instance) (first second : List (List ℕ)) → FindsTwo turn plan xs start end i first second → FindsTwo turn plan (xs ++ ys) start end i first second
two_before turn plan xs ys start end i first second a = record {
  before = a.before;
  after = a.after ++ ys;
  spent = a.spent;
  flipped = a.flipped;
  parts = ap (λ l. l ++ ys) a.parts ∙ append_assoc a.before (i ∷ a.after) ys;
  nothing = a.nothing;
  two = a.two;
  total = a.total;
}

-- ---- how far a search comes

abbrev ShowsNone : Turn → PlanTree → Instance → Type 0
ShowsNone turn plan i = (n : ℕ) × ShowsNothing turn plan i n

each_shows : (turn : Turn) (plan : PlanTree) (xs : List Instance) (n : ℕ) → ShowNothing turn plan xs n → All (ShowsNone turn plan) xs
each_shows turn plan [] n h = All-nil (ShowsNone turn plan)
each_shows turn plan (x ∷ xs) n h = All-cons (ShowsNone turn plan) x xs (h.0, h.3) (each_shows turn plan xs h.1 h.4)

at_most : (turn : Turn) (plan : PlanTree) (i : Instance) (n : ℕ) → ShowsNothing turn plan i n → n ≤ evaluations plan
at_most turn plan i n (inl all) = let e = all.0 in omega arith
at_most turn plan i n (inr large) = let e = large.1 in let w = large.2.within in omega arith

all_at_most : (turn : Turn) (plan : PlanTree) (xs : List Instance) (n : ℕ) → ShowNothing turn plan xs n → n ≤ length xs * evaluations plan
all_at_most turn plan [] n h = omega (arith, h)
all_at_most turn plan (x ∷ xs) n h =
    let a = at_most turn plan x h.0 h.3 in
    let b = all_at_most turn plan xs h.1 h.4 in
    let e = h.2 in
    let s = suc-mul (length xs) (evaluations plan) in
    omega arith

part_below : (turn : Turn) (plan : PlanTree) (rest : List Instance) (n : ℕ) → Begun turn plan rest n → n < evaluations plan
part_below turn plan [] n h = omega (arith, h)
part_below turn plan (i ∷ is) n h = h.1

pub first_show_nothing : (turn : Turn) (plan : PlanTree) (instances : List Instance) (end : ℕ) → FindsNothing turn plan instances 0 end → FirstShowNothing turn plan instances
first_show_nothing turn plan instances end h = by h.whole
  where
    count : ℕ
    count = most_evaluations / evaluations plan

    all : All (ShowsNone turn plan) (take count h.before)
    all = All-take (ShowsNone turn plan) count h.before (each_shows turn plan h.before h.spent h.nothing)

    by : (h.rest ≡ []) ⊎ (end ≡ most_evaluations) → FirstShowNothing turn plan instances
    by (inl through) = subst (λ is. All (ShowsNone turn plan) (take count is)) (sym (h.parts ∙ ap (λ r. h.before ++ r) through ∙ append-nil h.before)) all
    by (inr e) =
        let a = all_at_most turn plan h.before h.spent h.nothing in
        let b = part_below turn plan h.rest h.part h.begun in
        let t = h.total in
        let s = suc-mul (length h.before) (evaluations plan) in
        let below : most_evaluations < suc (length h.before) * evaluations plan = omega arith in
        let few : count < suc (length h.before) = div_below most_evaluations (evaluations plan) (suc (length h.before)) (omega arith) below in
        subst (All (ShowsNone turn plan)) (sym (ap (take count) h.parts ∙ take-append-le count h.before h.rest (omega (arith, few)))) all
