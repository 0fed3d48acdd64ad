-- A narrowed plan goes by what is read of the plan's own columns.
use Rattle.std.proofs.Common.{◌≡◌, ℕ, suc, ◌+◌, ◌<◌, ◌||◌, Bool, true, false, cond, List, [], ◌∷◌, ◌++◌, flat_map, map, length, refl, ◌∙◌, ap, arith}
use Rattle.wd_value.specs.Keys.{key_columns}
use Rattle.wd_schema.specs.Tables.{TableRule}
use Rattle.wd_plan.specs.Expressions.{Expression}
use Rattle.wd_plan.specs.Fits.{width}
use Rattle.wd_plan.specs.Plans.{GroupCall, GroupRule, LimitRule, PlanTree, Scan, Join, Over, Filter, Map, Group, Window, WindowRule, Distinct, Limit, has}
use Rattle.wd_plan.specs.declared.window.Call.{Call}
use Rattle.wd_step_facts.specs.Steps.{used}
use Rattle.wd_simpler.proofs.SortKeys.{calls_stay}
use Rattle.wd_simpler.specs.Keyed.{keyed_limit, keyed_window}
use Rattle.wd_simpler.specs.Simpler.{Read, after, and_also, condition_reads, count_of, group_reads, is_empty, is_unmet, kept_reads, narrowed, next, read_condition, read_limit, takes_none, read_call, read_calls, read_group_call, read_group_calls, read_output, read_outputs, read_window, window_reads}
use Rattle.wd_simpler.specs.Numbers.{numbers_of}

kept_same : (none : Bool) (read other : Read) (c : ℕ) → read c ≡ other c → kept_reads none read c ≡ kept_reads none other c
kept_same true read other c h = refl
kept_same false read other c h = h

module _ (read other : Read) where
  and_same : (n : ℕ) (columns : List ℕ) → ((c : ℕ) → c < n → read c ≡ other c) → (c : ℕ) → c < n → and_also read columns c ≡ and_also other columns c
  and_same n columns h c k = ap (λ b. b || has columns c) (h c k)

outputs_same : (read other : Read) (outputs : List Expression) → ((c : ℕ) → c < length outputs → read c ≡ other c) → read_outputs read outputs ≡ read_outputs other outputs
outputs_same read other [] h = refl
outputs_same read other (e ∷ outputs) h = λ i. read_output (h 0 (omega arith) i) e ∷ outputs_same (next read) (next other) outputs (λ c k. h (suc c) (omega arith)) i

calls_same : (read other : Read) (calls : List Call) → ((c : ℕ) → c < length calls → read c ≡ other c) → read_calls read calls ≡ read_calls other calls
calls_same read other [] h = refl
calls_same read other (call ∷ calls) h = λ i. read_call (h 0 (omega arith) i) call ∷ calls_same (next read) (next other) calls (λ c k. h (suc c) (omega arith)) i

group_calls_same : (read other : Read) (calls : List GroupCall) → ((c : ℕ) → c < length calls → read c ≡ other c) → read_group_calls read calls ≡ read_group_calls other calls
group_calls_same read other [] h = refl
group_calls_same read other (call ∷ calls) h = λ i. read_group_call (h 0 (omega arith) i) call ∷ group_calls_same (next read) (next other) calls (λ c k. h (suc c) (omega arith)) i

pub narrow_same : (tables : List TableRule) (plan : PlanTree) (read other : Read) → ((c : ℕ) → c < width plan → read c ≡ other c) → narrowed tables plan read ≡ narrowed tables plan other
narrow_same tables (Scan table columns) read other h = refl
narrow_same tables (Join condition left right) read other h =
    let columns = condition_reads condition in
    let both = and_same read other (width left + width right) columns h in
    λ i. Join condition
    (narrow_same tables left (and_also read columns) (and_also other columns) (λ c k. both c (omega arith)) i)
    (narrow_same tables right (after (width left) (and_also read columns)) (after (width left) (and_also other columns)) (λ c k. both (width left + c) (omega arith)) i)
narrow_same tables (Over (Filter condition) input) read other h =
    let unmet = is_unmet (numbers_of tables input) condition in
    let own = read_condition unmet condition in
    let kept = λ (c : ℕ) (k : c < width input). kept_same unmet read other c (h c k) in
    ap (Over (Filter own)) (narrow_same tables input (and_also (kept_reads unmet read) (used own)) (and_also (kept_reads unmet other) (used own)) (and_same (kept_reads unmet read) (kept_reads unmet other) (width input) (used own) kept))
narrow_same tables (Over (Map outputs) input) read other h = ap (λ own. Over (Map own) (narrowed tables input (has (flat_map used own)))) (outputs_same read other outputs h)
narrow_same tables (Over (Group rule) input) read other h =
    let calls = group_calls_same (after rule.columns read) (after rule.columns other) rule.calls (λ c k. h (rule.columns + c) (omega arith)) in
    λ i. let own : GroupRule = record { columns = rule.columns; sets = rule.sets; calls = calls i } in Over (Group own) (narrowed tables input (has (group_reads own)))
narrow_same tables (Over (Window w) input) read other h =
    let keyed = keyed_window input w in
    let own = read_window (is_empty tables input) (after (width input) other) keyed in
    let long = ap length (calls_stay input w) in
    let calls = calls_same (after (width input) read) (after (width input) other) keyed.calls (λ c k. h (width input + c) (omega (arith, k, long))) in
    (λ i. let own : WindowRule = record { classes = keyed.classes; calls = cond (is_empty tables input) (map count_of keyed.calls) (calls i) } in Over (Window own) (narrowed tables input (and_also read (window_reads own))))
    ∙ ap (Over (Window own)) (narrow_same tables input (and_also read (window_reads own)) (and_also other (window_reads own)) (and_same read other (width input) (window_reads own) (λ c k. h c (omega arith))))
narrow_same tables (Over Distinct input) read other h = refl
narrow_same tables (Over (Limit limit) input) read other h =
    let none = takes_none limit.count in
    let kept = λ (c : ℕ) (k : c < width input). kept_same none read other c (h c k) in
    let own = keyed_limit input limit in
    ap (Over (Limit (read_limit (is_empty tables input) own))) (narrow_same tables input (and_also (kept_reads none read) (key_columns own.keys)) (and_also (kept_reads none other) (key_columns own.keys)) (and_same (kept_reads none read) (kept_reads none other) (width input) (key_columns own.keys) kept))

-- ---- one output, and one call more

pub outputs_push : (read : Read) (outputs : List Expression) (e : Expression) → read_outputs read (outputs ++ e ∷ []) ≡ read_outputs read outputs ++ read_output (read (length outputs)) e ∷ []
outputs_push read [] e = refl
outputs_push read (o ∷ outputs) e = ap (λ l. read_output (read 0) o ∷ l) (outputs_push (next read) outputs e)

pub calls_push : (read : Read) (calls : List Call) (call : Call) → read_calls read (calls ++ call ∷ []) ≡ read_calls read calls ++ read_call (read (length calls)) call ∷ []
calls_push read [] call = refl
calls_push read (first ∷ calls) call = ap (λ l. read_call (read 0) first ∷ l) (calls_push (next read) calls call)

pub group_calls_push : (read : Read) (calls : List GroupCall) (call : GroupCall) → read_group_calls read (calls ++ call ∷ []) ≡ read_group_calls read calls ++ read_group_call (read (length calls)) call ∷ []
group_calls_push read [] call = refl
group_calls_push read (first ∷ calls) call = ap (λ l. read_group_call (read 0) first ∷ l) (group_calls_push (next read) calls call)

-- by what is read alike of every column
pub narrow_alike : (tables : List TableRule) (plan : PlanTree) (read other : Read) → ((c : ℕ) → read c ≡ other c) → narrowed tables plan read ≡ narrowed tables plan other
narrow_alike tables plan read other h = λ i. narrowed tables plan (λ c. h c i)

-- ---- the parts of a narrowed step

pub filter_made : (tables : List TableRule) (input below : PlanTree) (condition own : Expression) (unmet : Bool) (read more : Read) → unmet ≡ is_unmet (numbers_of tables input) condition → own ≡ read_condition unmet condition
    → ((c : ℕ) → more c ≡ and_also (kept_reads unmet read) (used own) c) → below ≡ narrowed tables input more → Over (Filter own) below ≡ narrowed tables (Over (Filter condition) input) read
filter_made tables input below condition own unmet read more e f g h =
    ap (Over (Filter own)) (h ∙ narrow_alike tables input more (and_also (kept_reads unmet read) (used own)) g)
    ∙ ap (λ o. Over (Filter o) (narrowed tables input (and_also (kept_reads unmet read) (used o)))) f
    ∙ ap (λ u. Over (Filter (read_condition u condition)) (narrowed tables input (and_also (kept_reads u read) (used (read_condition u condition))))) e

pub window_made : (tables : List TableRule) (input below : PlanTree) (w keyed own : WindowRule) (none : Bool) (columns : ℕ) (read more : Read) → none ≡ is_empty tables input → keyed ≡ keyed_window input w → columns ≡ width input → own ≡ read_window none (after columns read) keyed
    → ((c : ℕ) → more c ≡ and_also read (window_reads own) c) → below ≡ narrowed tables input more → Over (Window own) below ≡ narrowed tables (Over (Window w) input) read
window_made tables input below w keyed own none columns read more e k f is g h =
    ap (Over (Window own)) (h ∙ narrow_alike tables input more (and_also read (window_reads own)) g)
    ∙ ap (λ o. Over (Window o) (narrowed tables input (and_also read (window_reads o)))) (is ∙ (λ i. read_window (e i) (after (f i) read) (k i)))

pub limit_made : (tables : List TableRule) (input below : PlanTree) (limit keyed own : LimitRule) (none takes : Bool) (read more : Read) → none ≡ is_empty tables input → keyed ≡ keyed_limit input limit → takes ≡ takes_none keyed.count → own ≡ read_limit none keyed
    → ((c : ℕ) → more c ≡ and_also (kept_reads takes read) (key_columns keyed.keys) c) → below ≡ narrowed tables input more → Over (Limit own) below ≡ narrowed tables (Over (Limit limit) input) read
limit_made tables input below limit keyed own none takes read more e k f is g h =
    ap (Over (Limit own)) (h ∙ narrow_alike tables input more (and_also (kept_reads takes read) (key_columns keyed.keys)) g)
    ∙ (λ i. Over (Limit (is i)) (narrowed tables input (and_also (kept_reads (f i) read) (key_columns keyed.keys))))
    ∙ (λ i. Over (Limit (read_limit (e i) (k i))) (narrowed tables input (and_also (kept_reads (takes_none (k i).count) read) (key_columns (k i).keys))))
