-- A node over inputs that fit: whether it fits is what its own rule says.
use Rattle.std.proofs.Common.{◌≡◌, ◌+◌, ◌-◌, ◌<◌, ◌≤◌, ◌∙◌, sym, ap, arith, ℕ, suc, Bool, true, false, cond, ◌&&◌, List, Option, option_and_then, slice_get, nat_lt}
use Rattle.std.proofs.lemmas.Bool.{le-ltb}
use Rattle.std.specs.List.{list_all, range_with_len}
use Rattle.wd_schema.specs.Tables.{TableRule}
use Rattle.wd_plan.specs.Expressions.{Expression}
use Rattle.wd_plan.specs.Fits.{Kinds, fits, kind_of, kinds_of, width, is_join, is_step, kind_of_group_call}
use Rattle.wd_plan.specs.declared.fits.KindSource.{KindSource}
use Rattle.wd_plan.specs.Sources.{kind_from}
use Rattle.wd_plan.specs.Plans.{GroupRule, Step, Map, Group, PlanTree, Join, Over}

-- a first answer that is true leaves the second
second : (a b r : Bool) → a ≡ true → r ≡ b → r ≡ (a && b)
second a b r first e = e ∙ ap (λ t. t && b) (sym first)

pub fits-over : (tables : List TableRule) (plan input : PlanTree) (step : Step) (r : Bool) → plan ≡ Over step input → fits tables input ≡ true → r ≡ is_step (kinds_of tables input) (width input) step → r ≡ fits tables plan
fits-over tables plan input step r is h own = second (fits tables input) (is_step (kinds_of tables input) (width input) step) r h own ∙ ap (fits tables) (sym is)

pub fits-join : (tables : List TableRule) (plan left right : PlanTree) (condition : Option Expression) (r : Bool) → plan ≡ Join condition left right → fits tables left ≡ true → fits tables right ≡ true → r ≡ is_join (kinds_of tables plan) (width plan) condition → r ≡ fits tables plan
fits-join tables plan left right condition r is h k own =
    let own' : r ≡ is_join (kinds_of tables (Join condition left right)) (width left + width right) condition = own ∙ ap (λ p. is_join (kinds_of tables p) (width p) condition) is in
    second (fits tables left && fits tables right) (is_join (kinds_of tables (Join condition left right)) (width left + width right) condition) r (sym (second (fits tables left) (fits tables right) true h (sym k))) own' ∙ ap (fits tables) (sym is)

-- the kind of a Map's output, where a source gives the kind of each of them
pub kinds-map : (tables : List TableRule) (plan input : PlanTree) (outputs : List Expression) (column : ℕ) (source : Option KindSource) → plan ≡ Over (Map outputs) input
    → ((kinds : Kinds) → option_and_then (kind_from kinds) source ≡ option_and_then (kind_of kinds) (slice_get outputs column))
    → option_and_then (kind_from (kinds_of tables input)) source ≡ kinds_of tables plan column
kinds-map tables plan input outputs column source is gives = gives (kinds_of tables input) ∙ ap (λ p. kinds_of tables p column) (sym is)

-- and of a Group's call
pub kinds-group : (tables : List TableRule) (plan input : PlanTree) (g : GroupRule) (column : ℕ) (source : Option KindSource) → plan ≡ Over (Group g) input → g.columns ≤ column
    → ((kinds : Kinds) → option_and_then (kind_from kinds) source ≡ option_and_then (kind_of_group_call kinds) (slice_get g.calls (column - g.columns)))
    → option_and_then (kind_from (kinds_of tables input)) source ≡ kinds_of tables plan column
kinds-group tables plan input g column source is past gives =
    let call = option_and_then (kind_of_group_call (kinds_of tables input)) (slice_get g.calls (column - g.columns)) in
    let at : nat_lt column g.columns ≡ false = le-ltb column g.columns past in
    gives (kinds_of tables input) ∙ ap (λ b. cond b (kinds_of tables input column) call) (sym at) ∙ ap (λ p. kinds_of tables p column) (sym is)

-- a test of the numbers from one on that passes it goes by the numbers after it
pub range_tested : (test : ℕ → Bool) (i n : ℕ) → i < n → test i ≡ true → list_all test (range_with_len (i + 1) (n - (i + 1))) ≡ list_all test (range_with_len i (n - i))
range_tested test i n h e =
    let more : n - i ≡ suc (n - (i + 1)) = omega arith in
    sym (ap (λ k. list_all test (range_with_len i k)) more ∙ ap (λ b. b && list_all test (range_with_len (i + 1) (n - (i + 1)))) e)
