-- Rules that are decided for calls are not refused.
use Rattle.std.proofs.Common.{◌≡◌, ℕ, zero, suc, ◌+◌, Bool, true, false, cond, not, ◌&&◌, ◌||◌, List, [], ◌∷◌, map, slice_get, slice_index_or, refl, sym, ◌∙◌, ap, subst, Option, Some, None, is_some, nat_eq, eq-eqb}
use Rattle.std.specs.List.{AllByRecursion, list_all}
use Rattle.std.proofs.lemmas.Bool.{and_parts, false≢true, eqb-true}
use Rattle.wd_plan.specs.declared.window.Call.{Call}
use Rattle.wd_plan.specs.Frames.{is_stable}
use Rattle.wd_plan.specs.Outcomes.{class_at}
use Rattle.wd_plan.specs.Plans.{ClassRule, WindowRule}
use Rattle.wd_plan.specs.Settled.{is_by_peers}
use Rattle.wd_plan.specs.Sorting.{class_columns}
use Rattle.wd_certificate.specs.declared.certificate.Rule.{Rule}
use Rattle.wd_certificate.specs.declared.certificate.Rule.TheVariants.{Peers, Unique, Values, Exchange}
use Rattle.wd_certificate.specs.declared.error.CertError.{CertError}
use Rattle.wd_certificate.specs.declared.error.CertError.TheVariants.{SecondExchange, UnjustifiedCall}
use Rattle.wd_step_facts.specs.declared.facts.Member.{Member}
use Rattle.wd_step_facts.specs.declared.facts.Member.TheVariants as member
use Rattle.wd_step_facts.specs.Facts.{FactList, columns_named}
use Rattle.wd_step_facts.specs.Steps.{all_columns}
use Rattle.wd_sets.specs.Sets.{is_in}
use Rattle.wd_rules.specs.Rules.{EvidenceRecord, call_refusal, calls_refusal, exchange_class, exchange_only, has_one_exchange, is_exchange, or_else, refuse_unless, refuse_unless_shown, shows, shows_column, shows_value, taken_column, window_refusal}
use Rattle.wd_rules.specs.Traces.{Traced}
use Rattle.wd_analyse.specs.Decisions.{all_by, by_exchange, decide, decide_of, decided_calls, gives_all, gives_value, has_taken, is_by, lack_of, missing_of, next_exchange, rules_in, with_rule}
use Rattle.wd_analyse.specs.declared.decided.Decided.{Decided}
use Rattle.wd_analyse.specs.declared.decided.Decided.TheVariants.{By, Open}
use Rattle.wd_analyse.specs.declared.decided.Lack.TheVariants as lack
use Rattle.wd_analyse.specs.Evidence.{Closing, IsClosing, once}
use Rattle.wd_analyse.proofs.Once.{once_all}
use Rattle.wd_analyse.proofs.Traces.{each_reached, shown}

-- ---- lists

among_itself : (X Y : List ℕ) → ((c : ℕ) → is_in X c ≡ true → is_in Y c ≡ true) → list_all (is_in Y) X ≡ true
among_itself [] Y h = refl
among_itself (c ∷ X) Y h = λ i. h c (ap (λ b. b || is_in X c) (eq-eqb c c refl)) i && among_itself X Y (λ d e. h d (after (nat_eq d c) (is_in X d) e)) i
  where
    after : (a b : Bool) → b ≡ true → (a || b) ≡ true
    after true b e = refl
    after false b e = e

pub all_among : (X : List ℕ) → list_all (is_in X) (once X) ≡ true
all_among X = once_all (is_in X) X (among_itself X X (λ c e. e))

pub none_missing : (has : Member → Bool) (X : List ℕ) → missing_of has X ≡ None → list_all has (columns_named X) ≡ true
none_missing has [] e = refl
none_missing has (c ∷ X) e = by (λ f. none_missing has X f) (has (member.Column c)) refl e
  where
    by : (missing_of has X ≡ None → list_all has (columns_named X) ≡ true) → (b : Bool) → has (member.Column c) ≡ b → cond b (missing_of has X) (Some c) ≡ None → list_all has (columns_named (c ∷ X)) ≡ true
    by later true f g = λ i. f i && later g i
    by later false f g = cc

gives_each : (has : Member → Bool) (columns : ℕ) → gives_all has columns ≡ true → list_all has (columns_named (all_columns columns)) ≡ true
gives_each has columns e = none_missing has (all_columns columns) (by (missing_of has (all_columns columns)) refl e)
  where
    by : (o : Option ℕ) → missing_of has (all_columns columns) ≡ o → not (is_some o) ≡ true → missing_of has (all_columns columns) ≡ None
    by None f g = f
    by (Some c) f g = absurd (false≢true g)

all_at : {X : Type 0} (P : X → Type 0) (xs : List X) (i : ℕ) (x : X) → AllByRecursion P xs → slice_get xs i ≡ Some x → P x
all_at P [] i x a e = cc
all_at P (y ∷ xs) zero x a e = let f : y ≡ x = cc in subst P f a.0
all_at P (y ∷ xs) (suc i) x a e = all_at P xs i x a.1 e

-- the columns of the class with a number
from_at : (cs : List Closing) (classes : List ClassRule) (i : ℕ) (c : Closing) → map (λ (c : Closing). c.from) cs ≡ map class_columns classes → slice_get cs i ≡ Some c → c.from ≡ class_columns (slice_index_or classes i (record { partition = []; order = [] }))
from_at [] classes i c e f = cc
from_at (x ∷ cs) [] i c e f = cc
from_at (x ∷ cs) (y ∷ classes) zero c e f =
    let g : x ≡ c = cc in
    let h : x.from ≡ class_columns y = cc in
    ap (λ (t : Closing). t.from) (sym g) ∙ h
from_at (x ∷ cs) (y ∷ classes) (suc i) c e f = from_at cs classes i c (let g : map (λ (c : Closing). c.from) cs ≡ map class_columns classes = cc in g) f

-- ---- a call

-- what the traces of closings show
abbrev pub evidence : ℕ → FactList → List Traced → EvidenceRecord
evidence node facts all = record { node = node; facts = facts; shown = all }

module _ (node : ℕ) (facts : FactList) (columns : ℕ) (all : List Traced) where
  abbrev Passes : ℕ → (X : List ℕ) → Call → Rule → Type 0
  Passes n X call r = call_refusal (evidence node facts all) columns (is_in X) call r ≡ None

  module _ (c : Closing) (is : IsClosing facts c) (n : ℕ) (there : slice_get all n ≡ Some (shown node facts c)) (call : Call) where
    refused_not : (refusal : CertError) (test : Traced → Bool) → test (shown node facts c) ≡ true → refuse_unless_shown node refusal test (slice_get all n) ≡ None
    refused_not refusal test e = ap (refuse_unless_shown node refusal test) there ∙ ap (λ b. refuse_unless b refusal) e

    shows_members : (members : List Member) → list_all c.has members ≡ true → shows facts (is_in c.from) members (shown node facts c) ≡ true
    shows_members members e = λ i. all_among c.from i && each_reached node facts c is members e i

    shows_taken : (o : Option ℕ) → has_taken c.has o ≡ true → shows_column facts (is_in c.from) o (shown node facts c) ≡ true
    shows_taken None e = absurd (false≢true e)
    shows_taken (Some d) e = shows_members (member.Column d ∷ []) (λ i. e i && true)

    of_exchange : (o : Option ℕ) (class : ℕ) (r : Rule) → gives_all c.has columns ≡ true → by_exchange o class n ≡ By r → Passes n c.from call r
    of_exchange None class r a e =
        let f : Exchange n ≡ r = cc in
        subst (Passes n c.from call) f (refused_not (UnjustifiedCall node) (shows facts (is_in c.from) (columns_named (all_columns columns))) (shows_members (columns_named (all_columns columns)) (gives_each c.has columns a)))
    of_exchange (Some k) class r a e = by (nat_eq k class) e
      where
        by : (b : Bool) → cond b (By (Exchange n)) (Open lack.SecondClass) ≡ By r → Passes n c.from call r
        by true g =
            let f : Exchange n ≡ r = cc in
            subst (Passes n c.from call) f (refused_not (UnjustifiedCall node) (shows facts (is_in c.from) (columns_named (all_columns columns))) (shows_members (columns_named (all_columns columns)) (gives_each c.has columns a)))
        by false g = cc

    decided_passes : (o : Option ℕ) (r : Rule) → decide c.has n columns o call ≡ By r → Passes n c.from call r
    decided_passes o r e = by (is_by_peers call.frame call.function) (c.has member.Row) (gives_value c.has call) (gives_all c.has columns) refl refl refl refl e
      where
        by : (p q g a : Bool) → is_by_peers call.frame call.function ≡ p → c.has member.Row ≡ q → gives_value c.has call ≡ g → gives_all c.has columns ≡ a → cond p (By Peers) (cond q (By (Unique n)) (cond g (By (Values n)) (cond a (by_exchange o call.class n) (Open (lack_of call))))) ≡ By r → Passes n c.from call r
        by true q g a p_is q_is g_is a_is f =
            let h : Peers ≡ r = cc in
            subst (Passes n c.from call) h (ap (λ b. refuse_unless b (UnjustifiedCall node)) p_is)
        by false true g a p_is q_is g_is a_is f =
            let h : Unique n ≡ r = cc in
            subst (Passes n c.from call) h (refused_not (UnjustifiedCall node) (shows facts (is_in c.from) (member.Row ∷ [])) (shows_members (member.Row ∷ []) (λ i. q_is i && true)))
        by false false true a p_is q_is g_is a_is f =
            let h : Values n ≡ r = cc in
            let parts = and_parts (is_stable call.frame) (has_taken c.has (taken_column call.function)) g_is in
            subst (Passes n c.from call) h (refused_not (UnjustifiedCall node) (shows_value facts (is_in c.from) call) (λ i. parts.0 i && shows_taken (taken_column call.function) parts.1 i))
        by false false false true p_is q_is g_is a_is f = of_exchange o call.class r a_is f
        by false false false false p_is q_is g_is a_is f = cc

-- a class that has the rule `exchange` keeps it
exchange_kept : (k class n : ℕ) (r : Rule) → by_exchange (Some k) class n ≡ By r → nat_eq class k ≡ true
exchange_kept k class n r e = by (nat_eq k class) refl e
  where
    by : (b : Bool) → nat_eq k class ≡ b → cond b (By (Exchange n)) (Open lack.SecondClass) ≡ By r → nat_eq class k ≡ true
    by true f g = eq-eqb class k (sym (eqb-true k class f))
    by false f g = cc

decided_class : (has : Member → Bool) (n columns k : ℕ) (call : Call) (r : Rule) → decide has n columns (Some k) call ≡ By r → is_exchange r ≡ true → nat_eq call.class k ≡ true
decided_class has n columns k call r e x = by (is_by_peers call.frame call.function) (has member.Row) (gives_value has call) (gives_all has columns) e
  where
    by : (p q g a : Bool) → cond p (By Peers) (cond q (By (Unique n)) (cond g (By (Values n)) (cond a (by_exchange (Some k) call.class n) (Open (lack_of call))))) ≡ By r → nat_eq call.class k ≡ true
    by true q g a f = let h : Peers ≡ r = cc in absurd (false≢true (ap is_exchange h ∙ x))
    by false true g a f = let h : Unique n ≡ r = cc in absurd (false≢true (ap is_exchange h ∙ x))
    by false false true a f = let h : Values n ≡ r = cc in absurd (false≢true (ap is_exchange h ∙ x))
    by false false false true f = exchange_kept k call.class n r f
    by false false false false f = cc

of_class : (o : Option Closing) (n columns k : ℕ) (call : Call) (r : Rule) → decide_of o n columns (Some k) call ≡ By r → is_exchange r ≡ true → nat_eq call.class k ≡ true
of_class None n columns k call r e x = cc
of_class (Some c) n columns k call r e x = decided_class c.has n columns k call r e x

-- ---- all calls of a Window

module _ (node : ℕ) (facts : FactList) (columns : ℕ) (all : List Traced) (w : WindowRule) (cs : List Closing) (first : ℕ) (closings : AllByRecursion (IsClosing facts) cs) (froms : map (λ (c : Closing). c.from) cs ≡ map class_columns w.classes) (there : (i : ℕ) (c : Closing) → slice_get cs i ≡ Some c → slice_get all (first + i) ≡ Some (shown node facts c)) where
  one_passes : (o : Option Closing) (exchange : Option ℕ) (call : Call) (r : Rule) → slice_get cs call.class ≡ o → decide_of o (first + call.class) columns exchange call ≡ By r → call_refusal (evidence node facts all) columns (is_in (class_columns (class_at w call.class))) call r ≡ None
  one_passes None exchange call r e f = cc
  one_passes (Some c) exchange call r e f =
      subst (λ X. call_refusal (evidence node facts all) columns (is_in X) call r ≡ None) (from_at cs w.classes call.class c froms e)
      (decided_passes node facts columns all c (all_at (IsClosing facts) cs call.class c closings e) (first + call.class) (there call.class c e) call exchange r f)

  calls_step : (exchange : Option ℕ) (call : Call) (calls : List Call) (d : Decided) (rest : List Decided) → decide_of (slice_get cs call.class) (first + call.class) columns exchange call ≡ d → (is_by d && all_by rest) ≡ true → (all_by rest ≡ true → calls_refusal (evidence node facts all) columns w calls (rules_in rest) ≡ None) → calls_refusal (evidence node facts all) columns w (call ∷ calls) (with_rule d (rules_in rest)) ≡ None
  calls_step exchange call calls (By r) rest is e later =
      let own = one_passes (slice_get cs call.class) exchange call r refl is in
      λ i. or_else (own i) (later e i)
  calls_step exchange call calls (Open lacking) rest is e later = absurd (false≢true e)

  pub calls_pass : (exchange : Option ℕ) (calls : List Call) → all_by (decided_calls cs first columns exchange calls) ≡ true → calls_refusal (evidence node facts all) columns w calls (rules_in (decided_calls cs first columns exchange calls)) ≡ None
  calls_pass exchange [] e = refl
  calls_pass exchange (call ∷ calls) e =
      let d = decide_of (slice_get cs call.class) (first + call.class) columns exchange call in
      calls_step exchange call calls d (decided_calls cs first columns (next_exchange exchange call.class d) calls) refl e (calls_pass (next_exchange exchange call.class d) calls)

  -- no two classes have the rule `exchange`
  abbrev OneClass : Option ℕ → List Call → List Rule → Type 0
  OneClass None calls rules = has_one_exchange calls rules ≡ true
  OneClass (Some k) calls rules = exchange_only k calls rules ≡ true

  class_step : (exchange : Option ℕ) (call : Call) (calls : List Call) (d : Decided) (rest : List Decided) → decide_of (slice_get cs call.class) (first + call.class) columns exchange call ≡ d → (is_by d && all_by rest) ≡ true → (all_by rest ≡ true → OneClass (next_exchange exchange call.class d) calls (rules_in rest)) → OneClass exchange (call ∷ calls) (with_rule d (rules_in rest))
  class_step exchange call calls (Open lacking) rest is e later = absurd (false≢true e)
  class_step (Some k) call calls (By r) rest is e later = by (is_exchange r) refl
    where
      by : (b : Bool) → is_exchange r ≡ b → ((not (is_exchange r) || nat_eq call.class k) && exchange_only k calls (rules_in rest)) ≡ true
      by true x = λ i. (not (x i) || of_class (slice_get cs call.class) (first + call.class) columns k call r is x i) && later e i
      by false x = λ i. (not (x i) || nat_eq call.class k) && later e i
  class_step None call calls (By r) rest is e later = by (is_exchange r) refl (later e)
    where
      by : (b : Bool) → is_exchange r ≡ b → OneClass (cond (is_exchange r) (Some call.class) None) calls (rules_in rest) → has_one_exchange (call ∷ calls) (r ∷ rules_in rest) ≡ true
      by true x h =
          let only : exchange_only call.class calls (rules_in rest) ≡ true = subst (λ b. OneClass (cond b (Some call.class) None) calls (rules_in rest)) x h in
          subst (λ b. ((not b || nat_eq call.class (cond b call.class (exchange_class calls (rules_in rest)))) && exchange_only (cond b call.class (exchange_class calls (rules_in rest))) calls (rules_in rest)) ≡ true) (sym x) (λ i. eq-eqb call.class call.class refl i && only i)
      by false x h =
          let only : has_one_exchange calls (rules_in rest) ≡ true = subst (λ b. OneClass (cond b (Some call.class) None) calls (rules_in rest)) x h in
          subst (λ b. ((not b || nat_eq call.class (cond b call.class (exchange_class calls (rules_in rest)))) && exchange_only (cond b call.class (exchange_class calls (rules_in rest))) calls (rules_in rest)) ≡ true) (sym x) only

  pub one_class : (exchange : Option ℕ) (calls : List Call) → all_by (decided_calls cs first columns exchange calls) ≡ true → OneClass exchange calls (rules_in (decided_calls cs first columns exchange calls))
  one_class None [] e = refl
  one_class (Some k) [] e = refl
  one_class exchange (call ∷ calls) e =
      let d = decide_of (slice_get cs call.class) (first + call.class) columns exchange call in
      class_step exchange call calls d (decided_calls cs first columns (next_exchange exchange call.class d) calls) refl e (one_class (next_exchange exchange call.class d) calls)

  -- where each call has a rule, the rules are not refused
  pub window_passes : all_by (decided_calls cs first columns None w.calls) ≡ true → window_refusal (evidence node facts all) columns w (rules_in (decided_calls cs first columns None w.calls)) ≡ None
  window_passes e =
      let calls = calls_pass None w.calls e in
      let one = one_class None w.calls e in
      λ i. or_else (calls i) (refuse_unless (one i) (SecondExchange node))
