-- The table columns from which wanted columns are computed, node by node.
use Rattle.std.proofs.Common.{◌≡◌, ℕ, zero, suc, ◌+◌, ◌<◌, ◌≤◌, Bool, true, false, ◌||◌, ◌&&◌, List, [], ◌∷◌, ◌-◌, length, take, drop, get_or, map, nat_eq, nat_lt, refl, sym, ◌∙◌, ap, subst, arith, Option}
use Rattle.std.specs.declared.alloc.Global.{Global}
use Rattle.std.specs.declared.vec.Vec.{Vec}
use Rattle.std.proofs.lemmas.Bool.{ltb-false, ltb-true}
use Rattle.std.proofs.lemmas.List.{get_or-append_right, get_or-drop, get_or-map, get_or_append_left, length-append, length-map, length-take-le}
use Rattle.std.proofs.lemmas.List.FromFn.{get_or-map-range_with_len, length-map-range_with_len}
use Rattle.wd_value.specs.Bags.{positions}
use Rattle.wd_plan.specs.declared.group.GroupCall.{GroupCall as CodeGroupCall}
use Rattle.wd_schema.specs.Tables.{TableRule}
use Rattle.wd_plan.specs.declared.expression.Expr.{Expr}
use Rattle.wd_plan.specs.declared.window.Call.{Call}
use Rattle.wd_plan.specs.Expressions.{Expression, expression_of}
use Rattle.wd_plan.specs.Fits.{width}
use Rattle.wd_plan.specs.Plans.{GroupRule, WindowRule, PlanTree, Scan, Join, Over, Filter, Map, Group, Window, Distinct, Limit, group_call_of, has}
use Rattle.wd_facts.specs.Given.{table_rule}
use Rattle.wd_step_facts.specs.Steps.{used}
use Rattle.wd_candidates.specs.Marks.{MarkMore, MarksMore, is_marked, marks_of}
use Rattle.wd_candidates.specs.Origins.{call_columns, group_call_columns, group_columns, is_in_wanted, is_source}
use Rattle.wd_candidates.specs.Outlines.{AreTied, tied_in}
use Rattle.wd_candidates.specs.declared.tied.TiedColumns.{TiedColumns}
use Rattle.wd_candidates.proofs.Marked.{marks_both, marks_same}
use Rattle.wd_candidates.proofs.Wanted.{wanted_same}

-- a column past a Scan's last is no source
scan_same : (of columns : ℕ) (v w : ℕ → Bool) → ((n : ℕ) → n < columns → v n ≡ w n) → (table c : ℕ) → is_source (Scan of columns) v table c ≡ is_source (Scan of columns) w table c
scan_same of columns v w same table c = ap (λ b. nat_eq of table && b) (by (nat_lt c columns) refl)
  where
    by : (e : Bool) → nat_lt c columns ≡ e → (e && v c) ≡ (e && w c)
    by true h = same c (ltb-true c columns h)
    by false h = refl

pub group_columns_long : (g : GroupRule) → length (group_columns g) ≡ g.columns + length g.calls
group_columns_long g = length-append (map (λ (c : ℕ). c ∷ []) (positions g.columns)) (map group_call_columns g.calls) ∙ (λ i. length-map-range_with_len (λ (c : ℕ). c ∷ []) 0 g.columns i + length-map g.calls group_call_columns i)

-- it goes by which of the node's own columns are wanted
pub source_same : (plan : PlanTree) (v w : ℕ → Bool) → ((n : ℕ) → n < width plan → v n ≡ w n) → (table c : ℕ) → is_source plan v table c ≡ is_source plan w table c
source_same (Scan of columns) v w same table c = scan_same of columns v w same table c
source_same (Join condition left right) v w same table c =
    let of_left : is_source left v table c ≡ is_source left w table c = source_same left v w (λ n h. same n (omega arith)) table c in
    let of_right : is_source right (λ n. v (width left + n)) table c ≡ is_source right (λ n. w (width left + n)) table c = source_same right (λ n. v (width left + n)) (λ n. w (width left + n)) (λ n h. same (width left + n) (omega arith)) table c in
    λ i. of_left i || of_right i
source_same (Over (Filter condition) input) v w same table c = source_same input v w same table c
source_same (Over (Map outputs) input) v w same table c =
    source_same input (is_in_wanted (map used outputs) v) (is_in_wanted (map used outputs) w)
    (λ n h. wanted_same (map used outputs) v w n (λ k l. same k (let e = length-map outputs used in omega arith))) table c
source_same (Over (Group g) input) v w same table c =
    source_same input (is_in_wanted (group_columns g) v) (is_in_wanted (group_columns g) w)
    (λ n h. wanted_same (group_columns g) v w n (λ k l. same k (let e = group_columns_long g in omega arith))) table c
source_same (Over (Window rule) input) v w same table c =
    source_same input (λ n. v n || is_in_wanted (map (call_columns rule) rule.calls) (λ call. v (width input + call)) n) (λ n. w n || is_in_wanted (map (call_columns rule) rule.calls) (λ call. w (width input + call)) n)
    (λ n h.
    let own : v n ≡ w n = same n (omega arith) in
    let calls : is_in_wanted (map (call_columns rule) rule.calls) (λ call. v (width input + call)) n ≡ is_in_wanted (map (call_columns rule) rule.calls) (λ call. w (width input + call)) n = wanted_same (map (call_columns rule) rule.calls) (λ call. v (width input + call)) (λ call. w (width input + call)) n (λ k l. same (width input + k) (let e = length-map rule.calls (call_columns rule) in omega arith)) in
    λ i. own i || calls i) table c
source_same (Over Distinct input) v w same table c = source_same input v w same table c
source_same (Over (Limit limit) input) v w same table c = source_same input v w same table c

module _ (a b : List (Vec Bool Global)) where
  pub mark_same_as : (f g : ℕ → ℕ → Bool) → ((table c : ℕ) → f table c ≡ g table c) → MarkMore a f b → MarkMore a g b
  mark_same_as f g same m table = marks_same (marks_of a table) (marks_of b table) (f table) (g table) (λ c h. same table c) (m table)

  past : (wanted : List Bool) (c : ℕ) → length wanted ≤ c → is_marked wanted c ≡ false
  past [] c h = refl
  past (x ∷ wanted) zero h = absurd (omega arith)
  past (x ∷ wanted) (suc c) h = past wanted c (omega arith)

  pub sources_scan : (of columns : ℕ) (wanted : List Bool) → length wanted ≡ columns → MarkMore a (λ table c. nat_eq of table && is_marked wanted c) b → MarkMore a (is_source (Scan of columns) (is_marked wanted)) b
  sources_scan of columns wanted long m = mark_same_as (λ table c. nat_eq of table && is_marked wanted c) (is_source (Scan of columns) (is_marked wanted)) (λ table c. ap (λ e. nat_eq of table && e) (by c (nat_lt c columns) refl)) m
    where
      by : (c : ℕ) (e : Bool) → nat_lt c columns ≡ e → is_marked wanted c ≡ (e && is_marked wanted c)
      by c true h = refl
      by c false h = past wanted c (let k = ltb-false c columns h in omega arith)

  pub sources_map : (outputs : List Expression) (input : PlanTree) (wanted v : List Bool) → ((c : ℕ) → c < width input → is_marked v c ≡ is_in_wanted (map used outputs) (is_marked wanted) c) → MarkMore a (is_source input (is_marked v)) b → MarkMore a (is_source (Over (Map outputs) input) (is_marked wanted)) b
  sources_map outputs input wanted v is m = mark_same_as (is_source input (is_marked v)) (is_source (Over (Map outputs) input) (is_marked wanted)) (source_same input (is_marked v) (is_in_wanted (map used outputs) (is_marked wanted)) is) m

  pub sources_group : (g : GroupRule) (input : PlanTree) (wanted v : List Bool) → ((c : ℕ) → c < width input → is_marked v c ≡ is_in_wanted (group_columns g) (is_marked wanted) c) → MarkMore a (is_source input (is_marked v)) b → MarkMore a (is_source (Over (Group g) input) (is_marked wanted)) b
  sources_group g input wanted v is m = mark_same_as (is_source input (is_marked v)) (is_source (Over (Group g) input) (is_marked wanted)) (source_same input (is_marked v) (is_in_wanted (group_columns g) (is_marked wanted)) is) m

  pub sources_window : (w : WindowRule) (input : PlanTree) (wanted v : List Bool) → ((c : ℕ) → c < width input → is_marked v c ≡ (is_marked wanted c || is_in_wanted (map (call_columns w) w.calls) (λ call. is_marked wanted (width input + call)) c)) → MarkMore a (is_source input (is_marked v)) b → MarkMore a (is_source (Over (Window w) input) (is_marked wanted)) b
  sources_window w input wanted v is m =
      mark_same_as (is_source input (is_marked v)) (is_source (Over (Window w) input) (is_marked wanted))
      (source_same input (is_marked v) (λ n. is_marked wanted n || is_in_wanted (map (call_columns w) w.calls) (λ call. is_marked wanted (width input + call)) n) is) m

-- ---- a list of marks in two parts

pub marked_before : (marks : List Bool) (k n : ℕ) → n < k → is_marked (take k marks) n ≡ is_marked marks n
marked_before [] zero n h = refl
marked_before [] (suc k) n h = refl
marked_before (x ∷ marks) zero n h = absurd (omega arith)
marked_before (x ∷ marks) (suc k) zero h = refl
marked_before (x ∷ marks) (suc k) (suc n) h = marked_before marks k n (omega arith)

pub marked_after : (marks : List Bool) (k n : ℕ) → is_marked (drop k marks) n ≡ is_marked marks (k + n)
marked_after marks k n = get_or-drop k marks n false

pub sources_join : (a b d : List (Vec Bool Global)) (condition : Option Expression) (left right : PlanTree) (wanted : List Bool) → MarkMore a (is_source left (is_marked (take (width left) wanted))) b → MarkMore b (is_source right (is_marked (drop (width left) wanted))) d → MarkMore a (is_source (Join condition left right) (is_marked wanted)) d
sources_join a b d condition left right wanted m n table =
    marks_both (marks_of a table) (marks_of b table) (marks_of d table)
    (is_source left (is_marked (take (width left) wanted)) table) (is_source right (is_marked (drop (width left) wanted)) table) (is_source (Join condition left right) (is_marked wanted) table)
    (λ c.
    let first : is_source left (is_marked (take (width left) wanted)) table c ≡ is_source left (is_marked wanted) table c = source_same left (is_marked (take (width left) wanted)) (is_marked wanted) (λ k h. marked_before wanted (width left) k h) table c in
    let second : is_source right (is_marked (drop (width left) wanted)) table c ≡ is_source right (λ k. is_marked wanted (width left + k)) table c = source_same right (is_marked (drop (width left) wanted)) (λ k. is_marked wanted (width left + k)) (λ k h. marked_after wanted (width left) k) table c in
    λ i. first i || second i)
    (m table) (n table)

-- ---- the same, where what a node has is known by equations

pub join_marked : (a b d : List (Vec Bool Global)) (condition : Option Expression) (left right p l r : PlanTree) (wanted v w : List Bool) → p ≡ left → l ≡ left → r ≡ right → v ≡ take (width p) wanted → w ≡ drop (width p) wanted → MarkMore a (is_source l (is_marked v)) b → MarkMore b (is_source r (is_marked w)) d → MarkMore a (is_source (Join condition left right) (is_marked wanted)) d
join_marked a b d condition left right p l r wanted v w of_p of_l of_r front back m k =
    sources_join a b d condition left right wanted
    (coe 0 1 (i. MarkMore a (is_source (of_l i) (is_marked (before i))) b) m)
    (coe 0 1 (i. MarkMore b (is_source (of_r i) (is_marked (after i))) d) k)
  where
    before : v ≡ take (width left) wanted
    before = front ∙ ap (λ q. take (width q) wanted) of_p

    after : w ≡ drop (width left) wanted
    after = back ∙ ap (λ q. drop (width q) wanted) of_p

pub map_marked : (a b : List (Vec Bool Global)) (outputs os : List Expression) (input p q : PlanTree) (wanted items v : List Bool) → os ≡ outputs → p ≡ input → q ≡ input → v ≡ items → ((c : ℕ) → c < width p → is_marked items c ≡ is_in_wanted (map used os) (is_marked wanted) c) → MarkMore a (is_source q (is_marked v)) b → MarkMore a (is_source (Over (Map outputs) input) (is_marked wanted)) b
map_marked a b outputs os input p q wanted items v of_os of_p of_q of_v each m =
    sources_map a b outputs input wanted items
    (coe 0 1 (i. (c : ℕ) → c < width (of_p i) → is_marked items c ≡ is_in_wanted (map used (of_os i)) (is_marked wanted) c) each)
    (coe 0 1 (i. MarkMore a (is_source (of_q i) (is_marked (of_v i))) b) m)

pub group_marked : (a b : List (Vec Bool Global)) (g : GroupRule) (input p q : PlanTree) (wanted items v : List Bool) → p ≡ input → q ≡ input → v ≡ items → ((c : ℕ) → c < width p → is_marked items c ≡ is_in_wanted (group_columns g) (is_marked wanted) c) → MarkMore a (is_source q (is_marked v)) b → MarkMore a (is_source (Over (Group g) input) (is_marked wanted)) b
group_marked a b g input p q wanted items v of_p of_q of_v each m =
    sources_group a b g input wanted items
    (coe 0 1 (i. (c : ℕ) → c < width (of_p i) → is_marked items c ≡ is_in_wanted (group_columns g) (is_marked wanted) c) each)
    (coe 0 1 (i. MarkMore a (is_source (of_q i) (is_marked (of_v i))) b) m)

pub window_marked : (a b : List (Vec Bool Global)) (w : WindowRule) (input p q : PlanTree) (wanted items v : List Bool) → p ≡ input → q ≡ input → v ≡ items → ((c : ℕ) → c < width p → is_marked items c ≡ (is_marked wanted c || is_in_wanted (map (call_columns w) w.calls) (λ call. is_marked wanted (width p + call)) c)) → MarkMore a (is_source q (is_marked v)) b → MarkMore a (is_source (Over (Window w) input) (is_marked wanted)) b
window_marked a b w input p q wanted items v of_p of_q of_v each m =
    sources_window a b w input wanted items
    (coe 0 1 (i. (c : ℕ) → c < width (of_p i) → is_marked items c ≡ (is_marked wanted c || is_in_wanted (map (call_columns w) w.calls) (λ call. is_marked wanted (width (of_p i) + call)) c)) each)
    (coe 0 1 (i. MarkMore a (is_source (of_q i) (is_marked (of_v i))) b) m)

-- ---- what one of them is computed from

pub output_at : (outputs : List Expr) (i : ℕ) (x : Expr) → i < length outputs → x ≡ get_or outputs i x → used (expression_of x) ≡ get_or (map used (map expression_of outputs)) i []
output_at outputs i x h is =
    let inside : i < length (map expression_of outputs) = subst (λ n. i < n) (sym (length-map outputs expression_of)) h in
    ap (λ e. used (expression_of e)) is ∙ ap used (sym (get_or-map expression_of outputs i x (expression_of x) h)) ∙ sym (get_or-map used (map expression_of outputs) i (expression_of x) [] inside)

-- a grouping column
pub group_column_at : (g : GroupRule) (n : ℕ) → n < g.columns → n ∷ [] ≡ get_or (group_columns g) n []
group_column_at g n h =
    let long = length-map-range_with_len (λ (c : ℕ). c ∷ []) 0 g.columns in
    sym (get_or_append_left (map (λ (c : ℕ). c ∷ []) (positions g.columns)) (map group_call_columns g.calls) [] n (omega (arith, long)) ∙ get_or-map-range_with_len (λ (c : ℕ). c ∷ []) 0 g.columns n n [] h (omega arith))

-- and a call after them
pub group_call_at : (columns : ℕ) (sets : List (List ℕ)) (calls : List CodeGroupCall) (n : ℕ) (x : CodeGroupCall) → columns ≤ n → n - columns < length calls → x ≡ get_or calls (n - columns) x
    → group_call_columns (group_call_of x) ≡ get_or (group_columns (record { columns = columns; sets = sets; calls = map group_call_of calls })) n []
group_call_at columns sets calls n x past h is =
    let inside : n - columns < length (map group_call_of calls) = subst (λ m. n - columns < m) (sym (length-map calls group_call_of)) h in
    ap (λ y. group_call_columns (group_call_of y)) is
    ∙ ap group_call_columns (sym (get_or-map group_call_of calls (n - columns) x (group_call_of x) h))
    ∙ sym (get_or-map group_call_columns (map group_call_of calls) (n - columns) (group_call_of x) [] inside)
    ∙ sym (get_or-append_right (map (λ (c : ℕ). c ∷ []) (positions columns)) (map group_call_columns (map group_call_of calls)) columns n [] (length-map-range_with_len (λ (c : ℕ). c ∷ []) 0 columns) past)

pub call_at : (w : WindowRule) (calls : List Call) (i : ℕ) (x : Call) → i < length calls → x ≡ get_or calls i x → call_columns w x ≡ get_or (map (call_columns w) calls) i []
call_at w calls i x h is = ap (call_columns w) is ∙ sym (get_or-map (call_columns w) calls i x [] h)

-- the columns that a Window's input is asked for
pub passed_on : (marks wanted : List Bool) (k : ℕ) (lists : List (List ℕ)) (c : ℕ) → MarksMore (take k wanted) (is_in_wanted lists (is_marked (drop k wanted))) marks → k ≤ length wanted → c < k → is_marked marks c ≡ (is_marked wanted c || is_in_wanted lists (λ call. is_marked wanted (k + call)) c)
passed_on marks wanted k lists c m few h =
    let calls = wanted_same lists (is_marked (drop k wanted)) (λ call. is_marked wanted (k + call)) c (λ n l. marked_after wanted k n) in
    m.each c (subst (λ n. c < n) (sym (length-take-le k wanted few)) h) ∙ (λ j. marked_before wanted k c h j || calls j)

-- what is tied, where the wanted columns are those of a class or of sort keys
pub tied_of : (tables : List TableRule) (plan : PlanTree) (columns : List ℕ) (wanted : List Bool) (t : TiedColumns) → ((c : ℕ) → c < width plan → is_marked wanted c ≡ has columns c) → ((table c : ℕ) → c < length (table_rule tables table).columns → tied_in t table c ≡ is_source plan (is_marked wanted) table c) → AreTied tables (record { node = plan; columns = columns }) t
tied_of tables plan columns wanted t of_columns each = record { is = λ table c h k. each table c k ∙ source_same plan (is_marked wanted) (λ n. has columns n) of_columns table c }
