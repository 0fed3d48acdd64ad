use Rattle.std.proofs.Common.{◌≡◌, ◌++◌, string_bytes}
use Rattle.std.specs.List.{sum_by}
use Rattle.wd_plan.specs.Expressions.{expression_of}
use Rattle.wd_spelling.specs.Spelling.{fitting, item_weight, waiting_words}
use Rattle.wd_spelling.specs.Spelling as spec
use Rattle.wd_spelling.proofs.spell.spell_expression.Given as goal

-- what is written, and what fits of what waits, is what fits of the whole
abbrev pub invariant-loop-item : goal.invariant-loop-item
invariant-loop-item l = fitting 200 (spec.spelled l.names (expression_of l.expression)) ≡ string_bytes l.text ++ fitting l.room (waiting_words l.names l.waiting.items)

abbrev pub decreases-loop-item : goal.decreases-loop-item
decreases-loop-item l = sum_by item_weight l.waiting.items
