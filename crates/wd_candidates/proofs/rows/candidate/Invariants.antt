use Rattle.std.proofs.Common.{◌≡◌, map}
use Rattle.std.specs.List.{range_with_len}
use Rattle.wd_schema.specs.Schemas.{schema_of}
use Rattle.wd_value.specs.Rows.{instance_of}
use Rattle.wd_facts.specs.Given.{table_rule}
use Rattle.wd_candidates.specs.Candidates.{candidate_rows}
use Rattle.wd_candidates.specs.Outlines.{fixed_in, scanned_in, tied_in}
use Rattle.wd_candidates.proofs.rows.candidate.Given as goal

abbrev pub invariant-loop-number : goal.invariant-loop-number
invariant-loop-number l = instance_of l.instance.items ≡ map (λ t. candidate_rows (scanned_in l.outline t) (table_rule (schema_of l.schema) t) (fixed_in l.outline t) (tied_in l.tied t) l.shape) (range_with_len 0 l.number)
