use Rattle.std.proofs.Common.{List, ℕ}
use Rattle.wd_plan.specs.Outcomes.{ordering_at}
use Rattle.wd_plan.specs.Plans.{window_of}
use Rattle.wd_eval.specs.ClassIndexes.{IsClassIndexIn}
use Rattle.wd_eval.specs.Turning.{AreSameButFor}
use Rattle.wd_eval.proofs.ClassTurn.{HasCalls, ShowsCalls}
use Rattle.wd_eval.proofs.class_turn.turn_class.Given as goal

abbrev pub invariant-loop-number : goal.invariant-loop-number
invariant-loop-number l =
    let w = window_of l.window in
    (own others : List (List ℕ)) → AreSameButFor l.class own others → IsClassIndexIn w l.class l.input (ordering_at others l.class) l.class_index → ShowsCalls w l.input own l.given
    → HasCalls w l.input l.given others l.number l.rows l.is_other
