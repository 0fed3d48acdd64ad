-- The columns of an ordering, as the code holds them.
use Rattle.std.specs.Prelude.{◌++◌}
use Rattle.wd_value.specs.Keys.{key_columns}
use Rattle.wd_plan.specs.Plans.{plan_of}
use Rattle.wd_candidates.specs.Tied.{NodeColumns}
use Rattle.wd_ties.specs.declared.orderings.Ordered.{Ordered}

-- the columns of the partition, followed by those of the sort keys
abbrev pub node_columns : Ordered → NodeColumns
node_columns o = record { node = plan_of o.node.now; columns = o.partition.now ++ key_columns o.keys.now }
