-- Facts that are reached and reach alike, and the given facts of a node whose children keep such ones.
use Rattle.std.proofs.Common.{◌≡◌, ℕ, ◌+◌, Bool, true, false, cond, List, [], ◌∷◌, ◌++◌, map, filter, flat_map, refl, sym, ◌∙◌, ap, Option, Some, None, option_map, slice_get, length, nat_eq}
use Rattle.std.specs.List.{list_all}
use Rattle.std.proofs.lemmas.Option.{slice_get-map}
use Rattle.wd_schema.specs.Tables.{TableRule}
use Rattle.wd_plan.specs.Fits.{width}
use Rattle.wd_plan.specs.Plans.{PlanTree, Scan, Join, Over, Filter, Map, Group, Window, Distinct, Limit, GroupRule}
use Rattle.wd_certificate.specs.Certificates.{KeptRecord, NodeRecord, TraceRecord}
use Rattle.wd_step_facts.specs.declared.facts.Member.{Member}
use Rattle.wd_step_facts.specs.declared.facts.Member.TheVariants as member
use Rattle.wd_step_facts.specs.Facts.{Fact, columns_named, is_column, is_plain, key_fact, moved, moved_facts}
use Rattle.wd_step_facts.specs.Steps.{all_columns, restrict_fact, facts_of_group}
use Rattle.wd_facts.specs.Given.{given}
use Rattle.wd_rules.specs.Rules.{kept_fact, kept_facts, trace_or}
use Rattle.wd_verify.specs.Lean.{lean_entry, lean_kept}
use Rattle.wd_traces.specs.Once.{columns_once, lean_trace}
use Rattle.wd_traces.proofs.AlikeFacts.{AreAlike, alike_self, with_list}
use Rattle.wd_traces.proofs.Once.{IsAlike, alike_filter, alike_map, columns_alike, targets_alike}

alike_append : (fs gs xs ys : List Fact) → AreAlike fs gs → AreAlike xs ys → AreAlike (fs ++ xs) (gs ++ ys)
alike_append [] [] xs ys a b = b
alike_append [] (g ∷ gs) xs ys a b = absurd a
alike_append (f ∷ fs) [] xs ys a b = absurd a
alike_append (f ∷ fs) (g ∷ gs) xs ys a b = (a.0, alike_append fs gs xs ys a.1 b)

alike_moved : (by : ℕ → ℕ) (row : Member) (fs gs : List Fact) → AreAlike fs gs → AreAlike (moved_facts by row fs) (moved_facts by row gs)
alike_moved by row [] [] a = tt
alike_moved by row [] (g ∷ gs) a = absurd a
alike_moved by row (f ∷ fs) [] a = absurd a
alike_moved by row (f ∷ fs) (g ∷ gs) a =
    (record { from = alike_map (moved by row) f.from g.from a.0.from; to = alike_map (moved by row) f.to g.to a.0.to }, alike_moved by row fs gs a.1)

alike_cut : (columns : ℕ) (fs gs : List Fact) → AreAlike fs gs → AreAlike (flat_map (restrict_fact columns) fs) (flat_map (restrict_fact columns) gs)
alike_cut columns [] [] a = tt
alike_cut columns [] (g ∷ gs) a = absurd a
alike_cut columns (f ∷ fs) [] a = absurd a
alike_cut columns (f ∷ fs) (g ∷ gs) a = alike_append (restrict_fact columns f) (restrict_fact columns g) _ _ (by _ _ (a.0.from (is_column columns))) (alike_cut columns fs gs a.1)
  where
    cut : Fact → Fact
    cut x = record { from = x.from; to = filter (is_plain columns) x.to }

    by : (b c : Bool) → b ≡ c → AreAlike (cond b (cut f ∷ []) []) (cond c (cut g ∷ []) [])
    by true true e = (record { from = a.0.from; to = alike_filter (is_plain columns) f.to g.to a.0.to }, tt)
    by false false e = tt
    by true false e = cc
    by false true e = cc

alike_of_group : (g : GroupRule) (fs gs : List Fact) → AreAlike fs gs → AreAlike (facts_of_group g fs) (facts_of_group g gs)
alike_of_group g fs gs a = by (nat_eq (length g.sets) 1)
  where
    by : (b : Bool) → AreAlike (cond b (flat_map (restrict_fact g.columns) fs) []) (cond b (flat_map (restrict_fact g.columns) gs) [])
    by true = alike_cut g.columns fs gs a
    by false = tt

-- what is given at a node
pub given_alike : (tables : List TableRule) (plan : PlanTree) (kept others more rest : List Fact) → AreAlike kept others → AreAlike more rest → AreAlike (given tables plan kept more).list (given tables plan others rest).list
given_alike tables (Scan table columns) kept others more rest a b = alike_self _
given_alike tables (Join condition left right) kept others more rest a b =
    alike_append _ _ _ _ (alike_append _ _ _ _ (alike_append _ _ _ _ (alike_append _ _ _ _ (alike_moved (λ c. c) member.Left kept others a) (alike_moved (λ c. width left + c) member.Right more rest b)) (alike_self _)) (alike_self _)) (alike_self _)
given_alike tables (Over (Filter condition) input) kept others more rest a b = alike_append _ _ _ _ (alike_append _ _ _ _ a (alike_self _)) (alike_self _)
given_alike tables (Over (Map outputs) input) kept others more rest a b = alike_append _ _ _ _ (alike_moved (λ c. length outputs + c) member.Row kept others a) (alike_self _)
given_alike tables (Over (Group g) input) kept others more rest a b = alike_append _ _ _ _ (alike_self _) (alike_of_group g kept others a)
given_alike tables (Over (Window w) input) kept others more rest a b = alike_append _ _ _ _ a (alike_self _)
given_alike tables (Over Distinct input) kept others more rest a b = alike_append _ _ _ _ a (alike_self (key_fact member.Row (all_columns (width input)) ∷ []))
given_alike tables (Over (Limit limit) input) kept others more rest a b = a

pub given_with : (tables : List TableRule) (plan : PlanTree) (kept others more rest : List Fact) → given tables plan others rest ≡ with_list (given tables plan kept more) (given tables plan others rest).list
given_with tables (Scan table columns) kept others more rest = refl
given_with tables (Join condition left right) kept others more rest = refl
given_with tables (Over step input) kept others more rest = refl

-- what an entry keeps
pub lean_from : (traces : List TraceRecord) (n : ℕ) → columns_once (trace_or (slice_get traces n)).from ≡ (trace_or (slice_get (map lean_trace traces) n)).from
lean_from traces n = by (slice_get traces n) ∙ ap (λ o. (trace_or o).from) (sym (slice_get-map lean_trace traces n))
  where
    by : (o : Option TraceRecord) → columns_once (trace_or o).from ≡ (trace_or (option_map lean_trace o)).from
    by None = refl
    by (Some trace) = refl

kept_alike : (traces : List TraceRecord) (keep : List KeptRecord) → AreAlike (map (kept_fact traces) keep) (map (kept_fact (map lean_trace traces)) (map lean_kept keep))
kept_alike traces [] = tt
kept_alike traces (kept ∷ keep) = (record { from = from; to = targets_alike kept.to }, kept_alike traces keep)
  where
    columns : List ℕ
    columns = (trace_or (slice_get traces kept.trace)).from

    from : IsAlike (columns_named columns) (columns_named (trace_or (slice_get (map lean_trace traces) kept.trace)).from)
    from t = columns_alike columns t ∙ ap (λ X. list_all t (columns_named X)) (lean_from traces kept.trace)

pub entry_alike : (entry : NodeRecord) → AreAlike (kept_facts entry) (kept_facts (lean_entry entry))
entry_alike entry = kept_alike entry.traces entry.keep
