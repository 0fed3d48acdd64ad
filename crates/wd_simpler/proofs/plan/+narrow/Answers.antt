use Rattle.std.proofs.Common.{◌≡◌, ℕ, ◌+◌, ◌<◌, ◌||◌, map, flat_map, option_map, ap, sym, subst, ◌∙◌, arith}
use Rattle.std.proofs.lemmas.Bool.{and_parts}
use Rattle.wd_plan.proofs.Ranges.{narrow}
use Rattle.wd_plan.specs.Expressions.{expression_of}
use Rattle.wd_plan.specs.Fits.{fits, width}
use Rattle.wd_plan.specs.Plans.{Group, GroupRule, Join, Over, LimitRule, Map, PlanTree, WindowRule, grouping_of, has, limit_of, plan_of, window_of}
use Rattle.wd_schema.specs.Schemas.{schema_of}
use Rattle.wd_simpler.proofs.Same.{filter_made, limit_made, narrow_alike, narrow_same, window_made}
use Rattle.wd_simpler.specs.Keyed.{keyed_limit, keyed_window}
use Rattle.wd_simpler.specs.Sets.{read_of}
use Rattle.wd_simpler.specs.Simpler.{after, and_also, condition_reads, group_reads, is_empty, is_unmet, narrowed}
use Rattle.wd_step_facts.specs.Steps.{used}
use Rattle.wd_value.specs.Keys.{key_columns}
use Rattle.wd_simpler.proofs.plan.+narrow.Goals as goal
use Rattle.wd_simpler.specs.Numbers.{numbers_of}

pub narrow_filter-returns : goal.narrow_filter-returns
narrow_filter-returns t c =
    let tables = schema_of c.args.schema.now in
    let input : PlanTree = plan_of c.args.input.value in
    let condition = expression_of c.args.condition in
    let unmet : c.is_unmet-unmet.result ≡ is_unmet (numbers_of tables input) condition = c.is_unmet-unmet.ensures ∙ ap (λ p. is_unmet (numbers_of tables (plan_of p)) condition) c.deref.ensures in
    filter_made tables input (plan_of c.in_ok-input.input.value) condition (expression_of c.read_condition-condition.result) c.is_unmet-unmet.result (read_of c.args.read) (read_of c.in_ok-more.more) unmet c.read_condition-condition.ensures
    (λ d. c.in_ok-more.ensures d ∙ ap (λ b. b || has (used (expression_of c.read_condition-condition.result)) d) (c.kept_reads.ensures d)) c.in_ok-input.ensures

pub narrow_limit-returns : goal.narrow_limit-returns
narrow_limit-returns t c =
    let tables = schema_of c.args.schema.now in
    let input : PlanTree = plan_of c.args.input.value in
    let limit : LimitRule = limit_of c.args.limit in
    let keyed : LimitRule = limit_of c.in_ok-limit.limit in
    let none : c.is_empty-none.result ≡ is_empty tables input = c.is_empty-none.ensures ∙ ap (λ p. is_empty tables (plan_of p)) c.deref.ensures in
    let made : keyed ≡ keyed_limit input limit = c.in_ok-limit.ensures ∙ ap (λ p. keyed_limit (plan_of p) limit) c.deref-2.ensures in
    limit_made tables input (plan_of c.in_ok-input.input.value) limit keyed (limit_of c.read_limit.result) c.is_empty-none.result c.takes_none.result (read_of c.args.read) (read_of c.in_ok-more.more) none made c.takes_none.ensures c.read_limit.ensures
    (λ d. c.in_ok-more.ensures d ∙ ap (λ b. b || has (key_columns keyed.keys) d) (c.kept_reads.ensures d)) c.in_ok-input.ensures

pub narrow_map-returns : goal.narrow_map-returns
narrow_map-returns t c =
    let tables = schema_of c.args.schema.now in
    let input : PlanTree = plan_of c.args.input.value in
    let own = map expression_of c.in_ok-outputs.outputs.items in
    let shown = subst (λ l. (d : ℕ) → read_of c.in_ok-below.below d ≡ has (flat_map used (map expression_of l)) d) c.deref.ensures.value c.in_ok-below.ensures in
    let below : plan_of c.in_ok-input.input.value ≡ narrowed tables input (has (flat_map used own)) = c.in_ok-input.ensures ∙ narrow_alike tables input (read_of c.in_ok-below.below) (has (flat_map used own)) shown in
    ap (Over (Map own)) below ∙ ap (λ es. Over (Map es) (narrowed tables input (has (flat_map used es)))) c.in_ok-outputs.ensures

pub narrow_group-returns : goal.narrow_group-returns
narrow_group-returns t c =
    let tables = schema_of c.args.schema.now in
    let input : PlanTree = plan_of c.args.input.value in
    let own : GroupRule = grouping_of c.in_ok-group.group in
    let below : plan_of c.in_ok-input.input.value ≡ narrowed tables input (has (group_reads own)) = c.in_ok-input.ensures ∙ narrow_alike tables input (read_of c.in_ok-below.below) (has (group_reads own)) c.in_ok-below.ensures in
    ap (Over (Group own)) below ∙ ap (λ g. Over (Group g) (narrowed tables input (has (group_reads g)))) c.in_ok-group.ensures

pub narrow_window-returns : goal.narrow_window-returns
narrow_window-returns t c =
    let tables = schema_of c.args.schema.now in
    let input : PlanTree = plan_of c.args.input.value in
    let window : WindowRule = window_of c.args.window in
    let keyed : WindowRule = window_of c.in_ok-window.window in
    let own : WindowRule = window_of c.in_ok-window-2.window in
    let small = narrow tables input (and_parts _ _ c.requires).0 in
    let there : width (plan_of c.deref-3.result.now) ≡ width input = ap (λ p. width (plan_of p)) c.deref-3.ensures in
    let columns : c.width.result ≡ width input = omega (arith, c.width.ensures, there, small) in
    let none : c.is_empty-none.result ≡ is_empty tables input = c.is_empty-none.ensures ∙ ap (λ p. is_empty tables (plan_of p)) c.deref.ensures in
    let made : keyed ≡ keyed_window input window = c.in_ok-window.ensures.keyed ∙ ap (λ p. keyed_window (plan_of p) window) c.deref-2.ensures in
    window_made tables input (plan_of c.in_ok-input.input.value) window keyed own c.is_empty-none.result c.width.result (read_of c.args.read) (read_of c.in_ok-more.more) none made columns c.in_ok-window-2.ensures c.in_ok-more.ensures c.in_ok-input.ensures

pub narrow_join-returns : goal.narrow_join-returns
narrow_join-returns t c =
    let tables = schema_of c.args.schema.now in
    let left : PlanTree = plan_of c.args.left.value in
    let right : PlanTree = plan_of c.args.right.value in
    let condition = option_map expression_of c.args.condition in
    let read = and_also (read_of c.args.read) (condition_reads condition) in
    let sides = and_parts (fits tables left) (fits tables right) (and_parts _ _ c.requires).0 in
    let small_left = narrow tables left sides.0 in
    let small_right = narrow tables right sides.1 in
    let there_left : width (plan_of c.deref.result.now) ≡ width left = ap (λ p. width (plan_of p)) c.deref.ensures in
    let there_right : width (plan_of c.deref-2.result.now) ≡ width right = ap (λ p. width (plan_of p)) c.deref-2.ensures in
    let first : c.width.result ≡ width left = omega (arith, c.width.ensures, there_left, small_left) in
    let count : c.width-2.result ≡ width right = omega (arith, c.width-2.ensures, there_right, small_right) in
    let e = narrow_alike tables left (read_of c.in_ok-more.more) read c.in_ok-more.ensures in
    let f = narrow_same tables right (read_of c.in_ok-beside.beside) (after (width left) read)
    (λ d k. c.in_ok-beside.ensures d (subst (λ n. d < n) (sym count) k) ∙ c.in_ok-more.ensures (c.width.result + d) ∙ ap (λ n. read (n + d)) first) in
    let l : plan_of c.in_ok-left.left.value ≡ narrowed tables left read = c.in_ok-left.ensures ∙ e in
    let r : plan_of c.in_ok-right.right.value ≡ narrowed tables right (after (width left) read) = c.in_ok-right.ensures ∙ f in
    λ i. Join condition (l i) (r i)
