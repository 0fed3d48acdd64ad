-- Agreeing is an equivalence of outcomes.
use Rattle.std.proofs.Common.{refl, sym, ◌∙◌, Ok, Err}
use Rattle.wd_laws.specs.Laws.{AgreeingIsAnEquivalence}
use Rattle.wd_plan.specs.Outcomes.{RowsOrFault, Agree}

itself : (a : RowsOrFault) → Agree a a
itself (Ok rows) = λ row. refl
itself (Err fault) = refl

back : (a b : RowsOrFault) → Agree a b → Agree b a
back (Ok rows) (Ok others) h = λ row. sym (h row)
back (Ok rows) (Err g) h = h
back (Err f) (Ok others) h = h
back (Err f) (Err g) h = sym h

on : (a b c : RowsOrFault) → Agree a b → Agree b c → Agree a c
on (Ok rows) (Ok others) (Ok more) h k = λ row. h row ∙ k row
on (Ok rows) (Ok others) (Err g) h k = k
on (Ok rows) (Err g) c h k = absurd h
on (Err f) (Ok others) c h k = absurd h
on (Err f) (Err g) (Ok more) h k = k
on (Err f) (Err g) (Err e) h k = h ∙ k

pub agreeing : AgreeingIsAnEquivalence
agreeing = record { itself = itself; back = back; on = on }
