use Rattle.std.proofs.Common.{ℕ, ◌∷◌, [], filter, map, subst, sym, arith}
use Rattle.std.proofs.lemmas.List.Elements.{All-append, All-cons, All-nil}
use Rattle.wd_candidates.specs.Candidates.{candidate, shapes}
use Rattle.wd_partition.specs.declared.turn.Turn.TheVariants.{Reversed}
use Rattle.wd_seek.specs.Evaluations.{ShowNothing}
use Rattle.wd_seek.specs.Passed.{ArePassed, HavePassed}
use Rattle.wd_seek.specs.Sought.{is_meeting}
use Rattle.wd_seek.specs.declared.passed.Passed.{Passed}
use Rattle.wd_seek.proofs.Kept.{all_shown}
use Rattle.wd_seek.proofs.passed.keep.Goals as goal

pub returns : goal.returns
returns c = λ tables plan before h.
    let P = λ (p : Passed). HavePassed tables plan p.tied p.evaluations in
    let entry : Passed = record { tied = c.args.tied; evaluations = c.saturating_sub-evaluations.result } in
    let shown : P entry = λ o tied.
    let instances = filter (is_meeting tables) (map (candidate tables plan o) shapes) in
    subst (λ (n : ℕ). ShowNothing Reversed plan instances n) (sym c.saturating_sub-evaluations.ensures)
    (all_shown Reversed plan instances c.args.spent c.args.made (omega (arith, c.if-made-ge-MOST_EVALUATIONS.false)) (h o tied)) in
    subst (ArePassed tables plan) (sym c.in_ok-push.ensures.items) (All-append P c.args.passed.now.items (entry ∷ []) before (All-cons P entry [] shown (All-nil P)))
