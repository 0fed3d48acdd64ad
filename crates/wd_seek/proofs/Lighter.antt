-- What the evaluations over a lighter plan show, those over the plan show too.
use Rattle.std.proofs.Common.{◌≡◌, ℕ, ◌+◌, ◌<◌, All, List, [], ◌∷◌, ◌++◌, Option, Some, None, sym, ◌∙◌, ap, subst, inl, inr}
use Rattle.std.proofs.lemmas.List.Elements.{All-cons, All-head, All-nil, All-tail}
use Rattle.wd_value.specs.Rows.{Instance}
use Rattle.wd_plan.specs.Outcomes.{Agree, outcome}
use Rattle.wd_plan.specs.Plans.{PlanTree, ordering_count}
use Rattle.wd_eval.specs.Tied.{IsValidTurnedChoice, turned_at}
use Rattle.wd_eval.specs.Windows.{orderings_of}
use Rattle.wd_eval.specs.declared.turned.Turned.{Turned}
use Rattle.wd_partition.specs.declared.turn.Turn.{Turn}
use Rattle.wd_lighter.specs.Lighter.{AreSearchedAlike}
use Rattle.wd_seek.specs.Evaluations.{AllPass, IsTooLargeAt, Passes, ShowNothing, ShowsNothing, ShowsTwo, evaluations, flip_of}
use Rattle.wd_seek.specs.Search.{Begun, FindsNothing, FindsTwo}
use Rattle.wd_seek.specs.Probed.{IsProbed}
use Rattle.wd_seek.specs.declared.probed.Pair.{Pair}

-- ---- outcomes that agree

module _ (plan other : PlanTree) (instance : Instance) (alike : AreSearchedAlike plan other instance) (a b : Option Turned) (first second : List (List ℕ))
    (first_valid : IsValidTurnedChoice other instance a first) (second_valid : IsValidTurnedChoice other instance b second) where
  first_same : outcome plan instance first ≡ outcome other instance first
  first_same = alike.same a first first_valid

  second_same : outcome plan instance second ≡ outcome other instance second
  second_same = alike.same b second second_valid

  agree_here : Agree (outcome other instance first) (outcome other instance second) → Agree (outcome plan instance first) (outcome plan instance second)
  agree_here h = subst (λ o. Agree o (outcome plan instance second)) (sym first_same) (subst (Agree (outcome other instance first)) (sym second_same) h)

  agree_there : Agree (outcome plan instance first) (outcome plan instance second) → Agree (outcome other instance first) (outcome other instance second)
  agree_there h = subst (λ o. Agree o (outcome other instance second)) first_same (subst (Agree (outcome plan instance first)) second_same h)

-- ---- one instance

module _ (turn : Turn) (plan other : PlanTree) (count : ordering_count other ≡ ordering_count plan) where
  as_many : evaluations other ≡ evaluations plan
  as_many = ap (λ n. n + 1) count

  module _ (instance : Instance) (alike : AreSearchedAlike plan other instance) where
    passes : (k : ℕ) → Passes turn other instance k → Passes turn plan instance k
    passes k p = record {
      first = p.first;
      choice = p.choice;
      first_valid = alike.valid None p.first p.first_valid;
      valid = alike.valid (flip_of turn k) p.choice p.valid;
      agree = agree_here plan other instance alike None (flip_of turn k) p.first p.choice p.first_valid p.valid p.agree;
    }

    all_pass : (n : ℕ) → AllPass turn other instance n → AllPass turn plan instance n
    all_pass n all k below = passes k (all k below)

    too_large : (k : ℕ) → IsTooLargeAt turn other instance k → IsTooLargeAt turn plan instance k
    too_large k h = record { within = subst (λ n. k < n) as_many h.within; passed = all_pass k h.passed; large = alike.large (flip_of turn k) h.large }

    shows_nothing : (n : ℕ) → ShowsNothing turn other instance n → ShowsNothing turn plan instance n
    shows_nothing n (inl all) = inl (all.0 ∙ as_many, all_pass n all.1)
    shows_nothing n (inr large) = inr (large.0, large.1, too_large large.0 large.2)

    shows_two : (flipped : ℕ) (first second : List (List ℕ)) → ShowsTwo turn other instance flipped first second → ShowsTwo turn plan instance flipped first second
    shows_two flipped first second h = record {
      within = subst (λ n. flipped < n) count h.within;
      passed = all_pass (flipped + 1) h.passed;
      first_valid = alike.valid None first h.first_valid;
      second_valid = alike.valid (Some (turned_at turn flipped)) second h.second_valid;
      differ = λ agree. h.differ (agree_there plan other instance alike None (Some (turned_at turn flipped)) first second h.first_valid h.second_valid agree);
    }

  -- ---- one instance after another

  abbrev Alike : Instance → Type 0
  Alike instance = AreSearchedAlike plan other instance

  show_nothing : (before rest : List Instance) (n : ℕ) → All Alike (before ++ rest) → ShowNothing turn other before n → ShowNothing turn plan before n
  show_nothing [] rest n alike h = h
  show_nothing (i ∷ is) rest n alike h =
      (h.0, h.1, h.2, shows_nothing i (All-head Alike i (is ++ rest) alike) h.0 h.3, show_nothing is rest h.1 (All-tail Alike i (is ++ rest) alike) h.4)

  begun : (before rest : List Instance) (n : ℕ) → All Alike (before ++ rest) → Begun turn other rest n → Begun turn plan rest n
  begun [] [] n alike h = h
  begun [] (i ∷ is) n alike h = (all_pass i (All-head Alike i is alike) n h.0, subst (λ m. n < m) as_many h.1)
  begun (b ∷ bs) rest n alike h = begun bs rest n (All-tail Alike b (bs ++ rest) alike) h

  finds_nothing : (instances : List Instance) (start end : ℕ) → All Alike instances → FindsNothing turn other instances start end → FindsNothing turn plan instances start end
  finds_nothing instances start end alike h =
      let parts = subst (All Alike) h.parts alike in
      record {
        before = h.before;
        rest = h.rest;
        spent = h.spent;
        part = h.part;
        parts = h.parts;
        nothing = show_nothing h.before h.rest h.spent parts h.nothing;
        begun = begun h.before h.rest h.part parts h.begun;
        total = h.total;
        whole = h.whole;
      }

  finds_two : (instances : List Instance) (start end : ℕ) (instance : Instance) (first second : List (List ℕ)) → All Alike instances → Alike instance
      → FindsTwo turn other instances start end instance first second → FindsTwo turn plan instances start end instance first second
  finds_two instances start end instance first second alike here h = record {
    before = h.before;
    after = h.after;
    spent = h.spent;
    flipped = h.flipped;
    parts = h.parts;
    nothing = show_nothing h.before (instance ∷ h.after) h.spent (subst (All Alike) h.parts alike) h.nothing;
    two = shows_two instance here h.flipped first second h.two;
    total = h.total;
  }

pub probed_alike : (turn : Turn) (plan other : PlanTree) (instance : Instance) → ordering_count other ≡ ordering_count plan → AreSearchedAlike plan other instance
    → (start end : ℕ) (pair : Option Pair) → IsProbed turn other instance start end pair → IsProbed turn plan instance start end pair
probed_alike turn plan other instance count alike start end pair h = by pair h
  where
    alone : All (Alike turn plan other count) (instance ∷ [])
    alone = All-cons (Alike turn plan other count) instance [] alike (All-nil (Alike turn plan other count))

    by : (pair : Option Pair) → IsProbed turn other instance start end pair → IsProbed turn plan instance start end pair
    by None h = finds_nothing turn plan other count (instance ∷ []) start end alone h
    by (Some pair) h = finds_two turn plan other count (instance ∷ []) start end instance (orderings_of pair.first.orderings.items) (orderings_of pair.second.orderings.items) alone alike h
