use Rattle.wd_verify.proofs.Columns.{class_set as set_of}
use Rattle.wd_sets.specs.Sets.{has}
use Rattle.wd_value.specs.Keys.{key_columns}
use Rattle.wd_verify.proofs.rules.class_set.Goals as goal

pub returns : goal.returns
returns c = set_of (has c.new-set.result) (has c.insert_columns.new.set) (has c.insert_keys.new.set) c.args.partition.now (key_columns c.args.keys.now) c.new-set.ensures c.in_ok-insert_columns.ensures c.in_ok-insert_keys.ensures
