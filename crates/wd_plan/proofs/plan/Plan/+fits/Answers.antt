use Rattle.std.proofs.Common.{◌≡◌, ◌∙◌, sym, ap, map, option_map, true}
use Rattle.wd_schema.specs.Schemas.{schema_of}
use Rattle.wd_plan.specs.Expressions.{expression_of}
use Rattle.wd_plan.specs.Fits.{fits}
use Rattle.wd_plan.specs.Plans.{Filter, Group, Map, Window, grouping_of, plan_of, window_of}
use Rattle.wd_plan.proofs.FitsNodes.{fits-join, fits-over}
use Rattle.std.proofs.lemmas.Bool.{false≢true}
use Rattle.wd_plan.proofs.plan.Plan.+fits.Goals as goal
use Rattle.wd_plan.proofs.plan.Plan.+fits.Goals.{then-fits, else-fits}

pub returns-then-fits-2 : goal.returns-then-fits-2
returns-then-fits-2 t c =
    let tables = schema_of c.args.schema.now in
    let left = plan_of c.in-Join.left.value in
    let right = plan_of c.in-Join.right.value in
    elim c.if-fits.branch [
      | then-fits w ↦
          let at_left : fits tables left ≡ true = sym (ap (λ p. fits tables (plan_of p)) c.deref.ensures) ∙ sym c.fits.ensures ∙ w.if-fits.true in
          let at_right : fits tables right ≡ true = sym (ap (λ p. fits tables (plan_of p)) w.deref-then-fits.ensures) ∙ sym w.fits-then-fits.ensures ∙ sym w.value-is ∙ c.if-fits-2.true in
          fits-join tables (plan_of c.args.self.now) left right (option_map expression_of c.in-Join.condition) c.is_join.result (ap plan_of c.in-Join.is) at_left at_right c.is_join.ensures
      | else-fits w ↦ absurd (false≢true (sym w.if-fits.false ∙ sym w.value-is ∙ c.if-fits-2.true))
    ]

pub returns-then-fits-3 : goal.returns-then-fits-3
returns-then-fits-3 t c =
    let below : fits (schema_of c.args.schema.now) (plan_of c.in-Filter.input.value) ≡ true = cc (c.deref-in-Filter.ensures, c.fits-in-Filter.ensures, c.if-fits-3.true) in
    fits-over (schema_of c.args.schema.now) (plan_of c.args.self.now) (plan_of c.in-Filter.input.value) (Filter (expression_of c.in-Filter.condition)) c.is_condition.result (ap plan_of c.in-Filter.is) below (cc (c.deref-then-fits-3.ensures, c.is_condition.ensures))

pub returns-then-fits-4 : goal.returns-then-fits-4
returns-then-fits-4 t c =
    let below : fits (schema_of c.args.schema.now) (plan_of c.in-Map.input.value) ≡ true = cc (c.deref-in-Map.ensures, c.fits-in-Map.ensures, c.if-fits-4.true) in
    fits-over (schema_of c.args.schema.now) (plan_of c.args.self.now) (plan_of c.in-Map.input.value) (Map (map expression_of c.in-Map.outputs.items)) c.are_outputs.result (ap plan_of c.in-Map.is) below (cc (c.deref-then-fits-4.ensures.value, c.deref-then-fits-4-2.ensures, c.are_outputs.ensures))

pub returns-then-fits-5 : goal.returns-then-fits-5
returns-then-fits-5 t c =
    let below : fits (schema_of c.args.schema.now) (plan_of c.in-Group.input.value) ≡ true = sym (ap (λ p. fits (schema_of c.args.schema.now) (plan_of p)) c.deref-in-Group.ensures) ∙ sym c.fits-in-Group.ensures ∙ c.if-fits-5.true in
    fits-over (schema_of c.args.schema.now) (plan_of c.args.self.now) (plan_of c.in-Group.input.value) (Group (grouping_of c.in-Group.group)) c.is_group.result (ap plan_of c.in-Group.is) below (cc (c.deref-then-fits-5.ensures, c.is_group.ensures))

pub returns-then-fits-6 : goal.returns-then-fits-6
returns-then-fits-6 t c =
    let below : fits (schema_of c.args.schema.now) (plan_of c.in-Window.input.value) ≡ true = sym (ap (λ p. fits (schema_of c.args.schema.now) (plan_of p)) c.deref-in-Window.ensures) ∙ sym c.fits-in-Window.ensures ∙ c.if-fits-6.true in
    fits-over (schema_of c.args.schema.now) (plan_of c.args.self.now) (plan_of c.in-Window.input.value) (Window (window_of c.in-Window.window)) c.is_window.result (ap plan_of c.in-Window.is) below (cc (c.deref-then-fits-6.ensures, c.is_window.ensures))
