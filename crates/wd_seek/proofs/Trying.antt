-- What is found over one instance, and over one after another.
use Rattle.std.proofs.Common.{◌≡◌, ℕ, ◌+◌, ◌<◌, ◌≤◌, Bool, true, false, List, [], ◌∷◌, ◌++◌, filter, flat_map, length, get_or, take, drop, Option, Some, None, refl, sym, subst, ap, ◌∙◌}
use Rattle.std.proofs.lemmas.Grind.{flat_map-append}
use Rattle.std.proofs.lemmas.List.{append-nil, take_all, take_more, take-append-drop}
use Rattle.std.proofs.lemmas.List.Elements.{filter-append}
use Rattle.wd_value.specs.Rows.{Instance}
use Rattle.wd_schema.specs.Meets.{Meets}
use Rattle.wd_schema.specs.Tables.{TableRule}
use Rattle.wd_plan.specs.Plans.{PlanTree}
use Rattle.wd_partition.specs.declared.turn.Turn.{Turn}
use Rattle.wd_witness_text.specs.declared.witness.Witness.{Witness}
use Rattle.wd_candidates.specs.Outlines.{IsOutline}
use Rattle.wd_candidates.specs.declared.outline.Outline.{Outline}
use Rattle.wd_seek.specs.Evaluations.{most_evaluations}
use Rattle.wd_seek.specs.Search.{FindsNothing}
use Rattle.wd_seek.proofs.Searching.{nothing_then, nothing_to_try, two_before, two_then}
use Rattle.wd_seek.specs.Sought.{IsSought, is_meeting}
use Rattle.wd_seek.specs.Tried.{IsTried}
use Rattle.wd_seek.specs.Witnesses.{HasFewRows}
use Rattle.wd_seek.proofs.Meeting.{meets_from_test, test_from_meets}
use Rattle.wd_seek.proofs.Over.{all_fit, all_tables, has_name, is_name, is_over}

pub not_met : (turn : Turn) (tables : List TableRule) (plan : PlanTree) (instance : Instance) (start : ℕ) → (Meets tables instance → ⊥) → FindsNothing turn plan (filter (is_meeting tables) (instance ∷ [])) start start
not_met turn tables plan instance start other = by (is_meeting tables instance) refl
  where
    by : (b : Bool) → is_meeting tables instance ≡ b → FindsNothing turn plan (filter (is_meeting tables) (instance ∷ [])) start start
    by true e = absurd (other (meets_from_test tables instance e))
    by false e = rw e (nothing_to_try turn plan start)

pub met : (turn : Turn) (tables : List TableRule) (plan : PlanTree) (outline : Outline) (instance : Instance) (start end : ℕ) (found : Option Witness) → IsOutline tables plan outline → HasFewRows tables plan instance
    → Meets tables instance → IsTried turn tables plan outline instance start found end
    → IsSought turn tables plan (filter (is_meeting tables) (instance ∷ [])) start found end
met turn tables plan outline instance start end None is_outline small meets h = rw (test_from_meets tables instance meets) h
met turn tables plan outline instance start end (Some w) is_outline small meets h =
    rw (test_from_meets tables instance meets) (record {
      instance = instance;
      meets = meets;
      two = h.two;
      over = record {
        of_tables = all_tables tables plan outline instance _ h.differ is_outline small meets h.rows;
        named = λ name. (is_name tables plan outline instance _ h.differ is_outline small meets h.rows name, has_name tables plan outline instance _ h.differ is_outline small meets h.rows name);
        is = is_over tables plan outline instance _ h.differ is_outline small meets h.rows;
      };
      fits = all_fit tables plan outline instance _ h.differ is_outline small meets h.rows;
    })

-- ---- one candidate after another

-- what is found in more instances, after nothing was found in the first
pub then_sought : (turn : Turn) (tables : List TableRule) (plan : PlanTree) (xs ys : List Instance) (start mid end : ℕ) (found : Option Witness) → end ≤ most_evaluations
    → FindsNothing turn plan xs start mid → IsSought turn tables plan ys mid found end → IsSought turn tables plan (xs ++ ys) start found end
then_sought turn tables plan xs ys start mid end None few before h = nothing_then turn plan xs ys start mid end few before h
then_sought turn tables plan xs ys start mid end (Some w) few before h =
    record { instance = h.instance; meets = h.meets; two = two_then turn plan xs ys start mid end few h.instance _ _ before h.two; over = h.over; fits = h.fits }

-- what was found is found whatever comes after
pub sought_before : (turn : Turn) (tables : List TableRule) (plan : PlanTree) (xs ys : List Instance) (start end : ℕ) (w : Witness) → IsSought turn tables plan xs start (Some w) end → IsSought turn tables plan (xs ++ ys) start (Some w) end
sought_before turn tables plan xs ys start end w h =
    record { instance = h.instance; meets = h.meets; two = two_before turn plan xs ys start end h.instance _ _ h.two; over = h.over; fits = h.fits }

-- the candidates of a list's elements, of which the first were tried
module _ {X : Type 0} (tables : List TableRule) (f : X → List Instance) where
  abbrev pub tried_by : List X → List Instance
  tried_by xs = filter (is_meeting tables) (flat_map f xs)

  one_more_tried : (xs : List X) (i : ℕ) (d : X) → i < length xs → tried_by (take (i + 1) xs) ≡ tried_by (take i xs) ++ filter (is_meeting tables) (f (get_or xs i d))
  one_more_tried xs i d within =
      ap tried_by (take_more xs i d within) ∙ ap (filter (is_meeting tables)) (flat_map-append f (take i xs) (get_or xs i d ∷ [])) ∙ filter-append (is_meeting tables) (flat_map f (take i xs)) (flat_map f (get_or xs i d ∷ []))
      ∙ ap (λ ys. tried_by (take i xs) ++ filter (is_meeting tables) ys) (append-nil (f (get_or xs i d)))

  rest_tried : (xs : List X) (i : ℕ) → tried_by xs ≡ tried_by (take i xs) ++ tried_by (drop i xs)
  rest_tried xs i = ap tried_by (sym (take-append-drop i xs)) ∙ ap (filter (is_meeting tables)) (flat_map-append f (take i xs) (drop i xs)) ∙ filter-append (is_meeting tables) (flat_map f (take i xs)) (flat_map f (drop i xs))

module _ {X : Type 0} (turn : Turn) (tables : List TableRule) (plan : PlanTree) (f : X → List Instance) where
  module _ (xs : List X) (i : ℕ) (d : X) (start mid end : ℕ) (few : end ≤ most_evaluations) (within : i < length xs) (before : FindsNothing turn plan (tried_by tables f (take i xs)) start mid) where
    pub nothing_in_one_more : FindsNothing turn plan (filter (is_meeting tables) (f (get_or xs i d))) mid end → FindsNothing turn plan (tried_by tables f (take (i + 1) xs)) start end
    nothing_in_one_more h = subst (λ is. FindsNothing turn plan is start end) (sym (one_more_tried tables f xs i d within)) (nothing_then turn plan _ _ start mid end few before h)

    pub found_in_one_more : (w : Witness) → IsSought turn tables plan (filter (is_meeting tables) (f (get_or xs i d))) mid (Some w) end → IsSought turn tables plan (tried_by tables f xs) start (Some w) end
    found_in_one_more w h =
        subst (λ is. IsSought turn tables plan is start (Some w) end) (sym (rest_tried tables f xs (i + 1)))
        (sought_before turn tables plan (tried_by tables f (take (i + 1) xs)) (tried_by tables f (drop (i + 1) xs)) start end w
        (subst (λ is. IsSought turn tables plan is start (Some w) end) (sym (one_more_tried tables f xs i d within)) (then_sought turn tables plan _ _ start mid end (Some w) few before h)))

  pub nothing_in_all : (xs : List X) (i : ℕ) (start end : ℕ) → length xs ≤ i → FindsNothing turn plan (tried_by tables f (take i xs)) start end → FindsNothing turn plan (tried_by tables f xs) start end
  nothing_in_all xs i start end h nothing = subst (λ ys. FindsNothing turn plan (tried_by tables f ys) start end) (take_all i xs h) nothing
