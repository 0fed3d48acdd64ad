use Rattle.std.proofs.Common.{◌-◌, ◌∙◌, sym, ap, map, None, Some, option_and_then, slice_get}
use Rattle.wd_schema.specs.Schemas.{schema_of}
use Rattle.wd_plan.specs.Expressions.{expression_of}
use Rattle.wd_plan.specs.Fits.{Kinds, kind_of, kind_of_group_call, kinds_of}
use Rattle.wd_plan.specs.Plans.{group_call_of, grouping_of, plan_of}
use Rattle.wd_plan.specs.Sources.{kind_from}
use Rattle.wd_plan.proofs.FitsNodes.{kinds-group, kinds-map}
use Rattle.wd_plan.proofs.plan.Plan.+kind.Goals as goal

pub returns-in_err-c-in-Map : goal.returns-in_err-c-in-Map
returns-in_err-c-in-Map t c =
    let gives = λ (kinds : Kinds). c.in_err-c-in-Map.ensures kinds ∙ ap (λ outputs. option_and_then (kind_of kinds) (slice_get (map expression_of outputs) c.args.column)) c.deref-in-Map.ensures.value in
    let h = kinds-map (schema_of c.args.schema.now) (plan_of c.args.self.now) (plan_of c.in-Map.input.value) (map expression_of c.in-Map.outputs.items) c.args.column (None) (ap plan_of c.in-Map.is) gives in
    c.from_residual.ensures ∙ h

pub returns-in-OfColumn : goal.returns-in-OfColumn
returns-in-OfColumn t c =
    let gives = λ (kinds : Kinds). c.in_ok-c-in-Map.ensures kinds ∙ ap (λ outputs. option_and_then (kind_of kinds) (slice_get (map expression_of outputs) c.args.column)) c.deref-in-Map.ensures.value in
    let h = kinds-map (schema_of c.args.schema.now) (plan_of c.args.self.now) (plan_of c.in-Map.input.value) (map expression_of c.in-Map.outputs.items) c.args.column (Some c.in_ok-c-in-Map.field-0) (ap plan_of c.in-Map.is) gives in
    c.kind-in-OfColumn.ensures ∙ ap (λ plan. kinds_of (schema_of c.args.schema.now) (plan_of plan) c.in-OfColumn.c) c.deref-in-OfColumn.ensures ∙ sym (ap (kind_from (kinds_of (schema_of c.args.schema.now) (plan_of c.in-Map.input.value))) c.in-OfColumn.is) ∙ h

pub returns-in-Always : goal.returns-in-Always
returns-in-Always t c =
    let gives = λ (kinds : Kinds). c.in_ok-c-in-Map.ensures kinds ∙ ap (λ outputs. option_and_then (kind_of kinds) (slice_get (map expression_of outputs) c.args.column)) c.deref-in-Map.ensures.value in
    let h = kinds-map (schema_of c.args.schema.now) (plan_of c.args.self.now) (plan_of c.in-Map.input.value) (map expression_of c.in-Map.outputs.items) c.args.column (Some c.in_ok-c-in-Map.field-0) (ap plan_of c.in-Map.is) gives in
    sym (ap (kind_from (kinds_of (schema_of c.args.schema.now) (plan_of c.in-Map.input.value))) c.in-Always.is) ∙ h

pub returns-in_err-c-in-Group : goal.returns-in_err-c-in-Group
returns-in_err-c-in-Group t c =
    let gives = λ (kinds : Kinds). c.in_err-c-in-Group.ensures kinds ∙ ap (λ calls. option_and_then (kind_of_group_call kinds) (slice_get (map group_call_of calls) (c.args.column - c.in-Group.group.columns))) c.deref-in-Group.ensures.value in
    let h = kinds-group (schema_of c.args.schema.now) (plan_of c.args.self.now) (plan_of c.in-Group.input.value) (grouping_of c.in-Group.group) c.args.column (None) (ap plan_of c.in-Group.is) c.if-column-group.false gives in
    c.from_residual-in_err-c-in-Group.ensures ∙ h

pub returns-in-OfColumn-2 : goal.returns-in-OfColumn-2
returns-in-OfColumn-2 t c =
    let gives = λ (kinds : Kinds). c.in_ok-c-in-Group.ensures kinds ∙ ap (λ calls. option_and_then (kind_of_group_call kinds) (slice_get (map group_call_of calls) (c.args.column - c.in-Group.group.columns))) c.deref-in-Group.ensures.value in
    let h = kinds-group (schema_of c.args.schema.now) (plan_of c.args.self.now) (plan_of c.in-Group.input.value) (grouping_of c.in-Group.group) c.args.column (Some c.in_ok-c-in-Group.field-0) (ap plan_of c.in-Group.is) c.if-column-group.false gives in
    c.kind-in-OfColumn-2.ensures ∙ ap (λ plan. kinds_of (schema_of c.args.schema.now) (plan_of plan) c.in-OfColumn-2.c) c.deref-in-OfColumn-2.ensures ∙ sym (ap (kind_from (kinds_of (schema_of c.args.schema.now) (plan_of c.in-Group.input.value))) c.in-OfColumn-2.is) ∙ h

pub returns-in-Always-2 : goal.returns-in-Always-2
returns-in-Always-2 t c =
    let gives = λ (kinds : Kinds). c.in_ok-c-in-Group.ensures kinds ∙ ap (λ calls. option_and_then (kind_of_group_call kinds) (slice_get (map group_call_of calls) (c.args.column - c.in-Group.group.columns))) c.deref-in-Group.ensures.value in
    let h = kinds-group (schema_of c.args.schema.now) (plan_of c.args.self.now) (plan_of c.in-Group.input.value) (grouping_of c.in-Group.group) c.args.column (Some c.in_ok-c-in-Group.field-0) (ap plan_of c.in-Group.is) c.if-column-group.false gives in
    sym (ap (kind_from (kinds_of (schema_of c.args.schema.now) (plan_of c.in-Group.input.value))) c.in-Always-2.is) ∙ h
