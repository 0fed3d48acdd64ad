-- What is said of calls, one after another, and where nothing lacks.
use Rattle.std.proofs.Common.{◌≡◌, ℕ, ◌+◌, true, List, [], ◌∷◌, ◌++◌, refl, append_assoc}
use Rattle.wd_analyse.specs.Decisions.{all_by}
use Rattle.wd_analyse.specs.Findings.{mark_of, marks_of, reason_of, reasons_of}
use Rattle.wd_analyse.specs.declared.analysis.Mark.{Mark}
use Rattle.wd_analyse.specs.declared.analysis.Reason.{Reason}
use Rattle.wd_analyse.specs.declared.decided.Decided.{Decided}
use Rattle.wd_analyse.specs.declared.decided.Decided.TheVariants.{By, Open}

pub reasons_next : (front : List Reason) (node call : ℕ) (d : Decided) (ds : List Decided) → (front ++ reason_of node call d) ++ reasons_of node (call + 1) ds ≡ front ++ reasons_of node call (d ∷ ds)
reasons_next front node call d ds = append_assoc front (reason_of node call d) (reasons_of node (call + 1) ds)

pub marks_next : (front : List Mark) (node call : ℕ) (d : Decided) (ds : List Decided) → (front ++ mark_of node call d) ++ marks_of node (call + 1) ds ≡ front ++ marks_of node call (d ∷ ds)
marks_next front node call d ds = append_assoc front (mark_of node call d) (marks_of node (call + 1) ds)

pub none_before : {X : Type 0} (xs ys : List X) → xs ++ ys ≡ [] → xs ≡ []
none_before [] ys e = refl
none_before (x ∷ xs) ys e = cc

pub none_after : {X : Type 0} (xs ys : List X) → xs ++ ys ≡ [] → ys ≡ []
none_after [] ys e = e
none_after (x ∷ xs) ys e = cc

pub none_lacks : (node call : ℕ) (ds : List Decided) → reasons_of node call ds ≡ [] → all_by ds ≡ true
none_lacks node call [] e = refl
none_lacks node call (By r ∷ ds) e = none_lacks node (call + 1) ds e
none_lacks node call (Open lacking ∷ ds) e = cc
