use Rattle.std.proofs.Common.{ap, map, option_map, subst, sym}
use Rattle.wd_plan.specs.Expressions.{expression_of}
use Rattle.wd_plan.specs.Plans.{grouping_of, plan_of, window_of}
use Rattle.wd_candidates.specs.Marks.{MarkMore, is_marked}
use Rattle.wd_candidates.specs.Origins.{is_source}
use Rattle.wd_candidates.proofs.Sources.{group_marked, join_marked, map_marked, window_marked}
use Rattle.wd_candidates.proofs.tied.+mark_sources.Goals as goal

pub returns-in_ok-mark_sources-in-Join-2 : goal.returns-in_ok-mark_sources-in-Join-2
returns-in_ok-mark_sources-in-Join-2 t c =
    let wanted = c.args.wanted.now in
    let left = plan_of c.in-Join.left.value in
    let right = plan_of c.in-Join.right.value in
    subst (λ p. MarkMore c.args.tables.now (is_source p (is_marked wanted)) c.mark_sources-in-Join.new.tables) (sym (ap plan_of c.in-Join.is))
    (join_marked c.args.tables.now c.mark_sources.new.tables c.mark_sources-in-Join.new.tables (option_map expression_of c.in-Join.condition) left right (plan_of c.deref.result.now) (plan_of c.deref-in-Join.result.now) (plan_of c.deref-in-Join-2.result.now) wanted c.split_wanted.result.0.now c.split_wanted.result.1.now
    (ap plan_of c.deref.ensures) (ap plan_of c.deref-in-Join.ensures) (ap plan_of c.deref-in-Join-2.ensures) c.split_wanted.ensures.front c.split_wanted.ensures.back
    c.in_ok-mark_sources-in-Join.ensures c.in_ok-mark_sources-in-Join-2.ensures)

pub returns-in_ok-mark_sources-in-Map : goal.returns-in_ok-mark_sources-in-Map
returns-in_ok-mark_sources-in-Map t c =
    let wanted = c.args.wanted.now in
    let outputs = map expression_of c.in-Map.outputs.items in
    subst (λ p. MarkMore c.args.tables.now (is_source p (is_marked wanted)) c.mark_sources-in-Map.new.tables) (sym (ap plan_of c.in-Map.is))
    (map_marked c.args.tables.now c.mark_sources-in-Map.new.tables outputs (map expression_of c.deref-in-Map-2.result.now) (plan_of c.in-Map.input.value) (plan_of c.deref-in-Map.result.now) (plan_of c.deref-in-Map-3.result.now) wanted c.in_ok-used-in-Map.used.items c.deref-in-Map-4.result.now
    (ap (map expression_of) c.deref-in-Map-2.ensures.value) (ap plan_of c.deref-in-Map.ensures) (ap plan_of c.deref-in-Map-3.ensures) c.deref-in-Map-4.ensures.value
    c.in_ok-used-in-Map.ensures.used c.in_ok-mark_sources-in-Map.ensures)

pub returns-in_ok-mark_sources-in-Group : goal.returns-in_ok-mark_sources-in-Group
returns-in_ok-mark_sources-in-Group t c =
    let wanted = c.args.wanted.now in
    subst (λ p. MarkMore c.args.tables.now (is_source p (is_marked wanted)) c.mark_sources-in-Group.new.tables) (sym (ap plan_of c.in-Group.is))
    (group_marked c.args.tables.now c.mark_sources-in-Group.new.tables (grouping_of c.in-Group.group) (plan_of c.in-Group.input.value) (plan_of c.deref-in-Group.result.now) (plan_of c.deref-in-Group-2.result.now) wanted c.in_ok-used-in-Group.used.items c.deref-in-Group-3.result.now
    (ap plan_of c.deref-in-Group.ensures) (ap plan_of c.deref-in-Group-2.ensures) c.deref-in-Group-3.ensures.value
    c.in_ok-used-in-Group.ensures.used c.in_ok-mark_sources-in-Group.ensures)

pub returns-in_ok-mark_sources-in-Window : goal.returns-in_ok-mark_sources-in-Window
returns-in_ok-mark_sources-in-Window t c =
    let wanted = c.args.wanted.now in
    subst (λ p. MarkMore c.args.tables.now (is_source p (is_marked wanted)) c.mark_sources-in-Window.new.tables) (sym (ap plan_of c.in-Window.is))
    (window_marked c.args.tables.now c.mark_sources-in-Window.new.tables (window_of c.in-Window.window) (plan_of c.in-Window.input.value) (plan_of c.deref-in-Window.result.now) (plan_of c.deref-in-Window-2.result.now) wanted c.in_ok-used-in-Window.used.items c.deref-in-Window-3.result.now
    (ap plan_of c.deref-in-Window.ensures) (ap plan_of c.deref-in-Window-2.ensures) c.deref-in-Window-3.ensures.value
    c.in_ok-used-in-Window.ensures.used c.in_ok-mark_sources-in-Window.ensures)
