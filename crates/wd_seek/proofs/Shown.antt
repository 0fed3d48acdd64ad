-- What a search that has ended shows.
use Rattle.std.proofs.Common.{◌≡◌, ℕ, List, Option, Some, None, IfNone, IfSome, false, refl, sym, subst}
use Rattle.wd_value.specs.Rows.{Instance}
use Rattle.wd_schema.specs.Tables.{TableRule}
use Rattle.wd_plan.specs.Plans.{PlanTree}
use Rattle.wd_partition.specs.declared.turn.Turn.{Turn}
use Rattle.wd_eval.specs.Steps.{has_large_step}
use Rattle.wd_rules.specs.Laws.{IsTrueWitness}
use Rattle.wd_refute.specs.Laws.{IsShown}
use Rattle.wd_witness_text.specs.Witnesses.{WitnessRecord, witness_of}
use Rattle.wd_witness_text.specs.declared.witness.Witness.{Witness}
use Rattle.wd_candidates.specs.Outlines.{AreTied, AreTiedBy}
use Rattle.wd_candidates.specs.Tied.{NodeColumns}
use Rattle.wd_candidates.specs.declared.tied.TiedColumns.{TiedColumns}
use Rattle.wd_seek.specs.Search.{FirstShowNothing}
use Rattle.wd_seek.proofs.Searching.{first_show_nothing}
use Rattle.wd_seek.specs.Sought.{IsFound, IsSought}

-- ---- the columns of a call or a limit

pub none_ordered : (tables : List TableRule) (o : Option NodeColumns) (found : Option TiedColumns) → found ≡ None → AreTiedBy tables o found → o ≡ None
none_ordered tables None found e h = refl
none_ordered tables (Some o) None e h = absurd h
none_ordered tables (Some o) (Some t) e h = absurd cc

pub some_ordered : (tables : List TableRule) (o : Option NodeColumns) (found : Option TiedColumns) (t : TiedColumns) → found ≡ Some t → AreTiedBy tables o found → (n : NodeColumns) × (o ≡ Some n) × AreTied tables n t
some_ordered tables None None t e h = absurd cc
some_ordered tables None (Some u) t e h = absurd h
some_ordered tables (Some o) None t e h = absurd h
some_ordered tables (Some o) (Some u) t e h = let same : u ≡ t = cc in (o, refl, subst (AreTied tables o) same h)

-- ---- the end

-- what is found is a witness that is true, and no step is too large under its choices
pub found_is_shown : (turn : Turn) (tables : List TableRule) (plan : PlanTree) (instances : List Instance) (start end : ℕ) (w : WitnessRecord) → IsFound turn tables plan instances start end w → IsShown tables plan w
found_is_shown turn tables plan instances start end w h =
    let two = h.two.two in
    let is = sym h.over.is in
    record {
      of_tables = h.over.of_tables;
      fits = h.fits;
      is_true = subst (λ i. IsTrueWitness tables plan i w.first w.second) is (record { meets = h.meets; first = two.first_valid.valid; second = two.second_valid.valid; differ = two.differ });
      first_small = subst (λ i. has_large_step plan i w.first ≡ false) is two.first_valid.small;
      second_small = subst (λ i. has_large_step plan i w.second ≡ false) is two.second_valid.small;
    }

pub shown : (turn : Turn) (tables : List TableRule) (plan : PlanTree) (instances : List Instance) (found : Option Witness) (end : ℕ) → IsSought turn tables plan instances 0 found end → IfSome found (λ w. IsShown tables plan (witness_of w))
shown turn tables plan instances None end h = tt
shown turn tables plan instances (Some w) end h = found_is_shown turn tables plan instances 0 end (witness_of w) h

pub exhausted : (turn : Turn) (tables : List TableRule) (plan : PlanTree) (instances : List Instance) (found : Option Witness) (end : ℕ) → IsSought turn tables plan instances 0 found end → IfNone found (FirstShowNothing turn plan instances)
exhausted turn tables plan instances None end h = first_show_nothing turn plan instances end h
exhausted turn tables plan instances (Some w) end h = tt
