use Rattle.std.proofs.Common.{rules, arith, ◌-◌, ◌≤◌}
use Rattle.wd_plan.specs.Fits.{width}
use Rattle.wd_plan.specs.Plans.{plan_of}
use Rattle.wd_schema.specs.Schemas.{schema_of}
use Rattle.wd_facts.specs.Given.{nullable_keys}
use Rattle.wd_facts.proofs.KeyRanges.{keys_within, nullable_keys_below}
use Rattle.wd_facts.proofs.node.add_keys_of_sides.Goals as goal

pub width-requires : goal.width-requires
width-requires c = let narrow = c.requires.narrow in omega arith

pub moved_keys-requires : goal.moved_keys-requires
moved_keys-requires c =
    let tables = schema_of c.args.schema.now in
    let right = plan_of c.args.right.now in
    let narrow = c.requires.narrow in
    let few : width right ≤ 65536 - width (plan_of c.args.left.now) = omega arith in
    rw (c.width.ensures, c.deref-2.ensures.value, c.in_ok-keys-2.ensures) (keys_within (width right) (65536 - width (plan_of c.args.left.now)) few (nullable_keys tables right) (nullable_keys_below tables right c.requires.right))

pub returns : goal.returns
returns c = rw (c.in_ok-add_full_keys-2.ensures, c.deref-3.ensures.value, c.in_ok-moved.ensures, c.width.ensures, c.deref-2.ensures.value, c.in_ok-keys-2.ensures, c.in_ok-add_full_keys.ensures, c.deref.ensures.value, c.in_ok-keys.ensures) (search rules)
