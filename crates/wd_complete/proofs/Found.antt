-- Where no rule justifies the call of a plain plan, the first candidate shows two answers, and the search finds them.
use Rattle.std.proofs.Common.{◌≡◌, ◌≢◌, ◌⊎◌, inl, inr, ℕ, zero, suc, ◌+◌, ◌<◌, Bool, true, false, cond, List, [], ◌∷◌, ◌++◌, drop, filter, length, map, nat_eq, refl, sym, ◌∙◌, ap, subst, arith, true≢false, None, Some, Ok, Err}
use Rattle.wd_value.specs.Bags.{EachOnce, times}
use Rattle.wd_value.specs.Rows.{Instance, Row, columns_of}
use Rattle.wd_value.specs.Keys.{compare_keys, key_columns}
use Rattle.wd_value.proofs.KeyLaws.{compare_keys-ties}
use Rattle.wd_schema.specs.Tables.{TableRule}
use Rattle.std.specs.Ordering.{is_gt}
use Rattle.wd_plan.specs.Choices.{AreOrderingsOver, IsValidChoice}
use Rattle.wd_plan.specs.Outcomes.{Agree, RowsOrFault, class_at, ordering_at, outcome}
use Rattle.wd_plan.specs.Plans.{ClassRule, Window, Scan, Over}
use Rattle.wd_plan.specs.Sorting.{IsOrdering, class_columns, order_columns}
use Rattle.wd_rules.specs.Laws.{IsTrueWitness}
use Rattle.wd_analyse.specs.declared.analysis.Analysis.TheVariants.{Certified, Open}
use Rattle.wd_analyse.specs.declared.analysis.Reason.{Reason}
use Rattle.wd_candidates.specs.Candidates.{candidate, shapes}
use Rattle.wd_eval.specs.Steps.{has_large_step}
use Rattle.wd_eval.specs.Tied.{IsStableChoice, IsTurnedTooLarge}
use Rattle.wd_partition.specs.declared.turn.Turn.TheVariants.{Reversed}
use Rattle.wd_seek.specs.Evaluations.{ShowNothing, ShowsNothing, flip_of, most_evaluations}
use Rattle.wd_seek.specs.Search.{Begun, FindsNothing}
use Rattle.wd_seek.specs.Sought.{is_meeting, to_try}
use Rattle.wd_seek.proofs.Meeting.{test_from_meets}
use Rattle.wd_complete.specs.Laws.{IsPlainOver, OpenIsFound, OpenShowsTwo, two_rows}
use Rattle.wd_complete.specs.Plain.{PlainPlan, input_of, plan_by, window_rule}
use Rattle.wd_complete.proofs.Lists.{among_back, among_from}
use Rattle.wd_complete.proofs.Opened.{IsLacking, left_open, the_reason}
use Rattle.wd_complete.proofs.Evaluated.{Tie, columns_same, first_choice, flipped_choice, input_outcome, not_alike, numbered, outcome_first, outcome_flipped, small, window_first, window_flipped}
use Rattle.wd_complete.proofs.Meeting.{differ, first, meets, missing_shown, missing_within, rows_are, second, tie}

-- ---- the two choices are valid

module _ (class : ClassRule) (a b : Row) (same : Tie (class_columns class) a b) where
  not_greater : (x y : Row) → Tie (class_columns class) x y → is_gt (compare_keys class.order x y) ≡ false
  not_greater x y h = ap is_gt (compare_keys-ties class.order x y (columns_same (key_columns class.order) x y (λ c at. h c (among_back c class.partition (order_columns class) at))))

  in_first : IsOrdering class (a ∷ b ∷ []) (0 ∷ 1 ∷ [])
  in_first = record { once = λ x. refl; in_order = ((λ e. not_greater a b same, tt), (tt, tt)) }

  flipped_once : EachOnce 2 (1 ∷ 0 ∷ [])
  flipped_once x = by (nat_eq x 0) refl (nat_eq x 1) refl
    where
      by : (p : Bool) → nat_eq x 0 ≡ p → (q : Bool) → nat_eq x 1 ≡ q → times nat_eq x (0 ∷ 1 ∷ []) ≡ times nat_eq x (1 ∷ 0 ∷ [])
      by true e true f = rw (e, f) refl
      by true e false f = rw (e, f) refl
      by false e true f = rw (e, f) refl
      by false e false f = rw (e, f) refl

  in_flipped : IsOrdering class (a ∷ b ∷ []) (1 ∷ 0 ∷ [])
  in_flipped = record { once = flipped_once; in_order = ((λ e. not_greater b a (λ c at. sym (same c at)), tt), (tt, tt)) }

-- over any input no classes have no orderings
none_over : (r : RowsOrFault) → AreOrderingsOver [] r []
none_over (Ok rows) = record { number = refl; each = λ n h. absurd (omega arith) }
none_over (Err fault) = tt

module _ (p : PlainPlan) (instance : Instance) (a b : Row) (input : (choice : List (List ℕ)) → outcome (input_of p) instance choice ≡ Ok (a ∷ b ∷ [])) where
  valid_by : (o : List ℕ) → IsOrdering p.class (a ∷ b ∷ []) o → IsValidChoice (plan_by p) instance (o ∷ [])
  valid_by o is = record {
    number = refl;
    lawful = (((tt, none_over (outcome (Scan p.table p.columns) instance (o ∷ []))), subst (λ (x : RowsOrFault). AreOrderingsOver (window_rule p).classes x (o ∷ [])) (sym (input (o ∷ []))) (record { number = refl; each = each })), none_over (outcome (Over (Window (window_rule p)) (input_of p)) instance (o ∷ [])));
  }
    where
      each : (n : ℕ) → n < length (window_rule p).classes → IsOrdering (class_at (window_rule p) n) (a ∷ b ∷ []) (ordering_at (o ∷ []) n)
      each zero h = is
      each (suc n) h = absurd (omega (arith, h))

-- ---- over the two-row table

module _ (tables : List TableRule) (p : PlainPlan) (over : IsPlainOver tables p) (lacking : IsLacking tables p) where
  abbrev instance : Instance
  instance = two_rows tables p

  abbrev r : Row
  r = first tables p over lacking

  abbrev q : Row
  q = second tables p over lacking

  abbrev a : Row
  a = columns_of p.read r

  abbrev b : Row
  b = columns_of p.read q

  abbrev tied : Tie (class_columns p.class) a b
  tied = tie tables p over lacking

  first_is : (choice : List (List ℕ)) → IsStableChoice (plan_by p) instance None choice → choice ≡ (0 ∷ 1 ∷ []) ∷ []
  first_is = first_choice p instance r q (rows_are tables p over lacking) tied

  flipped_is : (choice : List (List ℕ)) → IsStableChoice (plan_by p) instance (Some 0) choice → choice ≡ (1 ∷ 0 ∷ []) ∷ []
  flipped_is = flipped_choice p instance r q (rows_are tables p over lacking) tied

  two_answers : Agree (outcome (plan_by p) instance ((0 ∷ 1 ∷ []) ∷ [])) (outcome (plan_by p) instance ((1 ∷ 0 ∷ []) ∷ [])) → ⊥
  two_answers agree =
      not_alike p r q (among_from (length p.read) p.shown over.plain.number) lacking.column (missing_within tables p over lacking) (missing_shown tables p over lacking) (differ tables p over lacking)
      (subst (Agree (Ok (columns_of p.shown (numbered a 1) ∷ columns_of p.shown (numbered b 2) ∷ []))) (outcome_flipped p instance r q (rows_are tables p over lacking) tied) (subst (λ (x : RowsOrFault). Agree x (outcome (plan_by p) instance ((1 ∷ 0 ∷ []) ∷ []))) (outcome_first p instance r q (rows_are tables p over lacking) tied) agree))

  pub true_witness : IsTrueWitness tables (plan_by p) instance ((0 ∷ 1 ∷ []) ∷ []) ((1 ∷ 0 ∷ []) ∷ [])
  true_witness = record {
    meets = meets tables p over lacking;
    first = valid_by p instance a b (input_outcome p instance r q (rows_are tables p over lacking)) (0 ∷ 1 ∷ []) (in_first p.class a b tied);
    second = valid_by p instance a b (input_outcome p instance r q (rows_are tables p over lacking)) (1 ∷ 0 ∷ []) (in_flipped p.class a b tied);
    differ = two_answers;
  }

  -- ---- the search

  small_first : has_large_step (plan_by p) instance ((0 ∷ 1 ∷ []) ∷ []) ≡ false
  small_first = small p instance r q (rows_are tables p over lacking) tied (0 ∷ 1 ∷ []) 1 2 (window_first p a b tied)

  small_flipped : has_large_step (plan_by p) instance ((1 ∷ 0 ∷ []) ∷ []) ≡ false
  small_flipped = small p instance r q (rows_are tables p over lacking) tied (1 ∷ 0 ∷ []) 2 1 (window_flipped p a b tied)

  not_large : (k : ℕ) → k < 2 → IsTurnedTooLarge (plan_by p) instance (flip_of Reversed k) → ⊥
  not_large zero h l = true≢false (sym l.large ∙ ap (has_large_step (plan_by p) instance) (first_is l.choice l.tied) ∙ small_first)
  not_large (suc zero) h l = true≢false (sym l.large ∙ ap (has_large_step (plan_by p) instance) (flipped_is l.choice l.tied) ∙ small_flipped)
  not_large (suc (suc k)) h l = absurd (omega (arith, h))

  shows_two : (n : ℕ) → ShowsNothing Reversed (plan_by p) instance n → ⊥
  shows_two n (inl (e, all)) =
      let two : n ≡ 2 = e in
      let s = all 1 (omega (arith, two)) in
      two_answers (subst (Agree (outcome (plan_by p) instance ((0 ∷ 1 ∷ []) ∷ []))) (ap (outcome (plan_by p) instance) (flipped_is s.choice s.valid.tied))
      (subst (λ c. Agree (outcome (plan_by p) instance c) (outcome (plan_by p) instance s.choice)) (first_is s.first s.first_valid.tied) s.agree))
  shows_two n (inr (k, e, large)) = not_large k large.within large.large

  cons_nil : (x : Instance) (xs : List Instance) → [] ≡ x ∷ xs → ⊥
  cons_nil x xs h = cc

  ends : (more before rest : List Instance) (spent part end : ℕ) → before ++ rest ≡ instance ∷ more → ShowNothing Reversed (plan_by p) before spent → Begun Reversed (plan_by p) rest part → end ≡ 0 + (spent + part) → (rest ≡ []) ⊎ (end ≡ most_evaluations) → ⊥
  ends more [] rest spent part end parts none begun total (inl e) = cons_nil instance more (sym e ∙ parts)
  ends more [] rest spent part end parts none begun total (inr e) =
      let is = subst (λ l. Begun Reversed (plan_by p) l part) parts begun in
      let few : part < 2 = is.1 in
      let last : end ≡ 2000 = e in
      omega (arith, none, few, total, last)
  ends more (b ∷ before) rest spent part end parts none begun total whole =
      let head : b ≡ instance = cc in
      shows_two none.0 (subst (λ (i : Instance). ShowsNothing Reversed (plan_by p) i none.0) head none.3)

  keep_head : (test : Instance → Bool) (x : Instance) (xs : List Instance) → test x ≡ true → filter test (x ∷ xs) ≡ x ∷ filter test xs
  keep_head test x xs e = ap (λ c. cond c (x ∷ filter test xs) (filter test xs)) e

  -- the candidates after the first
  abbrev others : List Instance
  others = map (candidate tables (plan_by p) (record { node = input_of p; columns = class_columns p.class })) (drop 1 shapes) ++ []

  pub finds : (n : ℕ) → FindsNothing Reversed (plan_by p) (to_try tables (plan_by p) (the_reason ∷ [])) 0 n → ⊥
  finds n f =
      ends (filter (is_meeting tables) others) f.before f.rest f.spent f.part n (sym f.parts ∙ keep_head (is_meeting tables) instance others (test_from_meets tables instance (meets tables p over lacking))) f.nothing f.begun f.total f.whole

-- ---- the laws

some_reason : (xs : List Reason) (ys : List Reason) → xs ≡ ys → xs ≢ [] → ys ≢ []
some_reason xs ys e h f = h (e ∙ f)

pub open_shows_two : OpenShowsTwo
open_shows_two tables p (Certified certificate) over answer is = absurd is
open_shows_two tables p (Open reasons marks) over answer is =
    let x = answer.exact in
    let o = left_open tables p x.found x.are (some_reason reasons.items _ x.tells.1 x.tells.0) in
    true_witness tables p over o.lacking

pub open_is_found : OpenIsFound
open_is_found tables p (Certified certificate) end over answer is sought = absurd is
open_is_found tables p (Open reasons marks) end over answer is sought =
    let x = answer.exact in
    let o = left_open tables p x.found x.are (some_reason reasons.items _ x.tells.1 x.tells.0) in
    finds tables p over o.lacking end (subst (λ rs. FindsNothing Reversed (plan_by p) (to_try tables (plan_by p) rs) 0 end) (x.tells.1 ∙ o.one) sought)
