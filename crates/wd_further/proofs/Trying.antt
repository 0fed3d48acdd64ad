-- The tries of a size, and the searches of all sizes, one after another.
use Rattle.std.proofs.Common.{◌≡◌, ℕ, ◌+◌, ◌-◌, ◌<◌, ◌≤◌, Bool, true, false, List, [], ◌∷◌, ◌++◌, drop, flat_map, map, length, get_or, take, ap, sym, subst, ◌∙◌, refl, arith, inl, inr, IfSome, Option, None, Some}
use Rattle.std.proofs.lemmas.Grind.{flat_map-append}
use Rattle.std.proofs.lemmas.List.{append-nil, length-map, take_all, take_more, take-append-drop}
use Rattle.std.proofs.lemmas.List.FromFn.{get_or-map-range_with_len, get_or-range_with_len, length-range_with_len}
use Rattle.wd_value.specs.Bags.{positions}
use Rattle.wd_value.specs.Rows.{Row, table_at}
use Rattle.wd_schema.specs.Tables.{TableRule}
use Rattle.wd_plan.specs.Plans.{PlanTree, is_scanned}
use Rattle.wd_facts.specs.Given.{table_rule}
use Rattle.wd_candidates.specs.Fixed.{fixed_value}
use Rattle.wd_witness_text.specs.Witnesses.{witness_of}
use Rattle.wd_witness_text.specs.declared.witness.Witness.{Witness}
use Rattle.wd_refute.specs.Laws.{IsShown}
use Rattle.wd_seek.specs.Evaluations.{most_evaluations}
use Rattle.wd_seek.specs.Witnesses.{HasFewRows}
use Rattle.wd_seek.proofs.Shown.{found_is_shown}
use Rattle.wd_varied.specs.Suggested.{hints}
use Rattle.wd_varied.specs.Varied.{fillings, filled_row, rows_in, varied}
use Rattle.wd_further.specs.Finds.{EndsWith, IsSoughtBy, IsSoughtIn, Search, searches, to_try}

-- ---- one after another

pub position_at : (n i d : ℕ) → i < n → get_or (positions n) i d ≡ i
position_at n i d within = get_or-range_with_len 0 n i d within ∙ omega arith

-- elements one by one
pub one_by_one : {X Y : Type 0} (f : X → Y) (xs : List X) → flat_map (λ x. f x ∷ []) xs ≡ map f xs
one_by_one f [] = refl
one_by_one f (x ∷ xs) = ap (λ ys. f x ∷ ys) (one_by_one f xs)

module _ (tables : List TableRule) (plan : PlanTree) where
  -- a witness that is found shows two answers
  shown_by : (w : Witness) (ss : List Search) → IsSoughtBy (Some w) tables plan ss → IsShown tables plan (witness_of w)
  shown_by w [] e = absurd cc
  shown_by w (s ∷ ss) (inl h) = found_is_shown s.turn tables plan (to_try tables plan s.rows) (most_evaluations - s.most) h.0 (witness_of w) h.1
  shown_by w (s ∷ ss) (inr h) = shown_by w ss h.1

  -- a search that gives none, and then others
  pub then_others : (o : Option Witness) (s : Search) (ss : List Search) → EndsWith None tables plan s → IsSoughtBy o tables plan ss → IsSoughtBy o tables plan (s ∷ ss)
  then_others None s ss h g = (h, g)
  then_others (Some w) s ss h g = inr (h, g)

  -- the last search
  pub then_none : (o : Option Witness) (s : Search) → EndsWith o tables plan s → IsSoughtBy o tables plan (s ∷ [])
  then_none None s h = (h, refl)
  then_none (Some w) s h = inl h

  pub shown_of : (o : Option Witness) → IsSoughtIn o tables plan → IfSome o (λ w. IsShown tables plan (witness_of w))
  shown_of None h = tt
  shown_of (Some w) h = shown_by w (searches plan) h

  -- searches that give none, and then others
  after_none : (o : Option Witness) (xs ys : List Search) → IsSoughtBy None tables plan xs → IsSoughtBy o tables plan ys → IsSoughtBy o tables plan (xs ++ ys)
  after_none o [] ys h g = g
  after_none o (x ∷ xs) ys h g = then_others o x (xs ++ ys) h.0 (after_none o xs ys h.1 g)

  -- what is found is found whatever searches come after
  found_before : (w : Witness) (xs ys : List Search) → IsSoughtBy (Some w) tables plan xs → IsSoughtBy (Some w) tables plan (xs ++ ys)
  found_before w [] ys h = absurd cc
  found_before w (x ∷ xs) ys (inl h) = inl h
  found_before w (x ∷ xs) ys (inr h) = inr (h.0, found_before w xs ys h.1)

-- the searches of a list's sizes, those of the first of which give none
module _ (tables : List TableRule) (plan : PlanTree) (f : ℕ → List Search) (xs : List ℕ) (i : ℕ) (none : IsSoughtBy None tables plan (flat_map f (take i xs))) where
  module _ (within : i < length xs) where
    one_more : flat_map f (take (i + 1) xs) ≡ flat_map f (take i xs) ++ f (get_or xs i 0)
    one_more = ap (flat_map f) (take_more xs i 0 within) ∙ flat_map-append f (take i xs) (get_or xs i 0 ∷ []) ∙ ap (λ ys. flat_map f (take i xs) ++ ys) (append-nil (f (get_or xs i 0)))

    rest : flat_map f xs ≡ flat_map f (take (i + 1) xs) ++ flat_map f (drop (i + 1) xs)
    rest = ap (flat_map f) (sym (take-append-drop (i + 1) xs)) ∙ flat_map-append f (take (i + 1) xs) (drop (i + 1) xs)

    with_one_more : (o : Option Witness) → IsSoughtBy o tables plan (f (get_or xs i 0)) → IsSoughtBy o tables plan (flat_map f (take (i + 1) xs))
    with_one_more o h = subst (IsSoughtBy o tables plan) (sym one_more) (after_none tables plan o (flat_map f (take i xs)) (f (get_or xs i 0)) none h)

    pub none_in_one_more : IsSoughtBy None tables plan (f (get_or xs i 0)) → IsSoughtBy None tables plan (flat_map f (take (i + 1) xs))
    none_in_one_more h = with_one_more None h

    pub found_in_one_more : (w : Witness) → IsSoughtBy (Some w) tables plan (f (get_or xs i 0)) → IsSoughtBy (Some w) tables plan (flat_map f xs)
    found_in_one_more w h = subst (IsSoughtBy (Some w) tables plan) (sym rest) (found_before tables plan w (flat_map f (take (i + 1) xs)) (flat_map f (drop (i + 1) xs)) (with_one_more (Some w) h))

  pub none_in_all : length xs ≤ i → IsSoughtBy None tables plan (flat_map f xs)
  none_in_all all = subst (λ ys. IsSoughtBy None tables plan (flat_map f ys)) (take_all i xs all) none

-- ---- few rows

module _ (tables : List TableRule) (plan : PlanTree) (rows number : ℕ) (small : rows ≤ 64) where
  abbrev rows_of_table : ℕ → List Row
  rows_of_table t = rows_in (is_scanned plan t) (fixed_value (table_rule tables t).columns plan t)
      (fillings (hints plan) (table_rule tables t) t rows number) rows

  rows_are : (t : ℕ) → t < length tables → table_at (varied tables plan rows number) t ≡ rows_of_table t
  rows_are t within = get_or-map-range_with_len rows_of_table 0 (length tables) t t [] within (omega arith)

  few_of : (b : Bool) (t : ℕ) → length (rows_in b (fixed_value (table_rule tables t).columns plan t) (fillings (hints plan) (table_rule tables t) t rows number) rows) ≤ 64
  few_of true t =
      let f = filled_row (fixed_value (table_rule tables t).columns plan t) (fillings (hints plan) (table_rule tables t) t rows number) rows in
      let n = length-map (positions rows) f in
      let m = length-range_with_len 0 rows in
      omega (arith, n, m, small)
  few_of false t = omega arith

  none_of : (t : ℕ) → is_scanned plan t ≡ false → rows_of_table t ≡ []
  none_of t e = rw e refl

  pub few_rows : HasFewRows tables plan (varied tables plan rows number)
  few_rows = record {
    few = λ t within. subst (λ rows. length rows ≤ 64) (sym (rows_are t within)) (few_of (is_scanned plan t) t);
    none = λ t within e. rows_are t within ∙ none_of t e;
  }
