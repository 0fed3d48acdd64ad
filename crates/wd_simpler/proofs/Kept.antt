-- Steps that keep no row, and steps over no rows.
use Rattle.std.proofs.Common.{◌≡◌, ℕ, Bool, true, false, List, [], ◌∷◌, map, refl, sym, ◌∙◌, ap, arith, Option, Ok, Err}
use Rattle.std.specs.List.{AllByRecursion}
use Rattle.wd_value.specs.declared.value.Value.TheVariants.{Bool as TruthValue}
use Rattle.wd_value.specs.Rows.{Row, rows_at}
use Rattle.wd_plan.specs.declared.expression.ValueKind.TheVariants.{Truth}
use Rattle.wd_plan.specs.Choices.{AreOrderingsOver, AtRows}
use Rattle.wd_plan.specs.Expressions.{Expression, Literal}
use Rattle.wd_plan.specs.Facts.{HasWidth}
use Rattle.wd_plan.specs.Outcomes.{RowsOrFault, limited_rows, filter_outcome, ordering_at, window_outcome}
use Rattle.wd_plan.specs.Plans.{ClassRule, LimitRule, WindowRule}
use Rattle.wd_step_facts.specs.Steps.{used}
use Rattle.wd_value.specs.Keys.{key_columns}
use Rattle.wd_simpler.proofs.Alike.{AreAlikeOn, AreSameOn}
use Rattle.wd_simpler.proofs.Empty.{AreNone, HasNone, cut_none, cut_of_none, none_are, ordering_of_none}
use Rattle.wd_simpler.proofs.Masks.{mask}
use Rattle.wd_simpler.proofs.Results.{over}
use Rattle.wd_simpler.proofs.Steps.{filter_alike, limit_alike, plain_cut}
use Rattle.wd_simpler.proofs.Conditions.{IsAmong, IsUnmetAt, all_unmet, keeps_none}
use Rattle.wd_simpler.proofs.Windows.{window_alike}
use Rattle.wd_simpler.specs.Simpler.{Read, after, and_also, is_unmet, kept_reads, plain_limit, read_condition, read_limit, read_window, takes_none, whole_limit, window_reads}
use Rattle.wd_simpler.specs.declared.numbers.Numbers.{Numbers}

-- two steps that both give no row
both_none : (read : Read) (a b : RowsOrFault) → a ≡ Ok [] → b ≡ Ok [] → AreAlikeOn read a b
both_none read a b e f = ap (over (map (mask read))) e ∙ sym (ap (over (map (mask read))) f)

-- what is the same as no rows is no rows
others_none : (more : Read) (rows others : List Row) → AreNone rows → AreSameOn more rows others → others ≡ []
others_none more rows others a e = by others (sym (ap (map (mask more)) (none_are rows a)) ∙ e)
  where
    by : (others : List Row) → ◌≡◌ {A = List Row} [] (map (mask more) others) → others ≡ []
    by [] h = refl
    by (o ∷ others) h = absurd cc

-- ---- conditions

never_true : (rows : List Row) → AllByRecursion (IsUnmetAt (Literal (TruthValue false) Truth)) rows
never_true [] = tt
never_true (row ∷ rows) = (record { value = TruthValue false; is = refl; untrue = refl }, never_true rows)

pub condition_alike : (read : Read) (numbers : ℕ → Option Numbers) (condition : Expression) (unmet : Bool) → is_unmet numbers condition ≡ unmet → (rows others : List Row) → AllByRecursion (IsAmong numbers) rows
    → AreSameOn (and_also (kept_reads unmet read) (used (read_condition unmet condition))) rows others → AreAlikeOn read (filter_outcome condition rows) (filter_outcome (read_condition unmet condition) others)
condition_alike read numbers condition true h rows others from e =
    both_none read (filter_outcome condition rows) (filter_outcome (Literal (TruthValue false) Truth) others) (keeps_none condition rows (all_unmet numbers condition h rows from)) (keeps_none (Literal (TruthValue false) Truth) others (never_true others))
condition_alike read numbers condition false h rows others from e = filter_alike read condition rows others e

-- ---- Windows

pub window_kept : (none : Bool) (read : Read) (n : ℕ) (w : WindowRule) (orderings : List (List ℕ)) (rows others : List Row) → HasWidth n rows → (none ≡ true → AreNone rows)
    → AreSameOn (and_also read (window_reads (read_window none (after n read) w))) rows others → AreAlikeOn read (window_outcome w rows orderings) (window_outcome (read_window none (after n read) w) others orderings)
window_kept true read n w orderings rows others wide none e =
    let own = read_window true (after n read) w in
    both_none read (window_outcome w rows orderings) (window_outcome own others orderings)
    (ap (λ x. window_outcome w x orderings) (none_are rows (none refl)))
    (ap (λ x. window_outcome own x orderings) (others_none (and_also read (window_reads own)) rows others (none refl) e))
window_kept false read n w orderings rows others wide none e = window_alike read n w orderings rows others wide e

-- ---- Limits

-- no rows, and their one ordering
abbrev pub AreNoneIn : List ℕ → List Row → Type 0
AreNoneIn ordering rows = AreNone rows × (ordering ≡ [])

pub none_in : (class : ClassRule) (own : List (List ℕ)) (none : Bool) (r : RowsOrFault) → (none ≡ true → HasNone r) → AreOrderingsOver (class ∷ []) r own → AtRows r (λ rows. none ≡ true → AreNoneIn (ordering_at own 0) rows) (Unit {0})
none_in class own none (Ok rows) h lawful = λ e. (h e, ordering_of_none class rows (ordering_at own 0) (h e) (lawful.each 0 (omega arith)))
none_in class own none (Err fault) h lawful = tt

cut_empty : (limit : LimitRule) (rows : List Row) (ordering : List ℕ) → rows ≡ [] → ordering ≡ [] → limited_rows limit (rows_at rows ordering) ≡ []
cut_empty limit rows ordering e f = (λ i. limited_rows limit (rows_at (e i) (f i))) ∙ cut_of_none limit

plain_alike : (takes : Bool) (read : Read) (limit : LimitRule) → takes_none limit.count ≡ takes → (ordering : List ℕ) (rows others : List Row)
    → AreSameOn (and_also (kept_reads takes read) (key_columns limit.keys)) rows others → AreAlikeOn read (Ok (limited_rows limit (rows_at rows ordering))) (Ok (limited_rows (plain_limit limit) (rows_at others ordering)))
plain_alike true read limit h ordering rows others e =
    both_none read (Ok (limited_rows limit (rows_at rows ordering))) (Ok (limited_rows (plain_limit limit) (rows_at others ordering))) (ap (λ x. Ok x) (cut_none limit (rows_at rows ordering) h)) (ap (λ x. Ok x) (sym (plain_cut limit (rows_at others ordering)) ∙ cut_none limit (rows_at others ordering) h))
plain_alike false read limit h ordering rows others e = limit_alike read limit ordering rows others e

pub limit_kept : (none takes : Bool) (read : Read) (limit : LimitRule) → takes_none limit.count ≡ takes → (ordering : List ℕ) (rows others : List Row) → (none ≡ true → AreNoneIn ordering rows)
    → AreSameOn (and_also (kept_reads takes read) (key_columns limit.keys)) rows others → AreAlikeOn read (Ok (limited_rows limit (rows_at rows ordering))) (Ok (limited_rows (read_limit none limit) (rows_at others ordering)))
limit_kept true takes read limit h ordering rows others none e =
    let is = none refl in
    let more = and_also (kept_reads takes read) (key_columns limit.keys) in
    both_none read (Ok (limited_rows limit (rows_at rows ordering))) (Ok (limited_rows (whole_limit limit) (rows_at others ordering))) (ap (λ x. Ok x) (cut_empty limit rows ordering (none_are rows is.0) is.1)) (ap (λ x. Ok x) (cut_empty (whole_limit limit) others ordering (others_none more rows others is.0 e) is.1))
limit_kept false takes read limit h ordering rows others none e = plain_alike takes read limit h ordering rows others e
