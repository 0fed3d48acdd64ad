use Rattle.std.proofs.Common.{◌≡◌, ◌∙◌, [], ◌<◌, true, sym, ap, refl, length, Some, slice_get, arith, below_more}
use Rattle.std.proofs.lemmas.Bool.{false≢true}
use Rattle.std.proofs.lemmas.List.{get_or-map}
use Rattle.wd_value.specs.Rows.{instance_of, rows_of, table_at}
use Rattle.wd_schema.specs.Meets.{is_met}
use Rattle.wd_schema.specs.Schemas.{schema_of}
use Rattle.wd_schema.specs.Tables.{TableRule}
use Rattle.wd_schema.proofs.MeetsFacts.{met_from_test, test_from_met, some_within, table_get}
use Rattle.wd_schema.proofs.instances.each_meets.Goals as goal

pub returns-then-not-meets_at : goal.returns-then-not-meets_at
returns-then-not-meets_at c =
    let i = c.loop-t.t in
    let instance = c.args.instance.now in
    let found = table_get c.args.schema.now i (omega (arith, c.requires)) in
    let within : i < length instance = omega arith in
    let rows : rows_of c.deref.result.now ≡ table_at (instance_of instance) i = ap rows_of c.deref.ensures.value ∙ sym (rw (← c.index-instance-t.is) at (get_or-map (λ t. rows_of t.items) instance i c.index-instance-t.result [] within)) in (
      λ h. absurd (false≢true h),
      λ h. absurd (false≢true (sym c.if-not-meets_at.true ∙ c.meets_at.ensures found.0 found.1 ∙ ap (is_met found.0) rows ∙ test_from_met found.0 (table_at (instance_of instance) i) (h i found.0 found.1))),
    )

pub loop-t-preserved : goal.loop-t-preserved
loop-t-preserved c =
    let i = c.loop-t.t in
    let instance = c.args.instance.now in
    let within : i < length instance = omega arith in
    let rows : rows_of c.deref.result.now ≡ table_at (instance_of instance) i = ap rows_of c.deref.ensures.value ∙ sym (rw (← c.index-instance-t.is) at (get_or-map (λ t. rows_of t.items) instance i c.index-instance-t.result [] within)) in
    below_more (λ k. (table : TableRule) → slice_get (schema_of c.args.schema.now) k ≡ Some table → is_met table (table_at (instance_of instance) k) ≡ true) i c.loop-t.invariant
    (λ table e. ap (is_met table) (sym rows) ∙ sym (c.meets_at.ensures table e) ∙ c.if-not-meets_at.false)

pub returns : goal.returns
returns c = (
  λ _ k table e. met_from_test table (table_at (instance_of c.args.instance.now) k) (c.loop-t.invariant k (omega (arith, c.requires, some_within c.args.schema.now k table e)) table e),
  λ _. refl,
)
