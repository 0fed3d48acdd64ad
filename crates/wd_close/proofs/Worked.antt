-- Closures worked out by hand.
use Rattle.std.proofs.Common.{◌≡◌, ℕ, zero, suc, true, List, [], ◌∷◌, refl, arith, nat_lt}
use Rattle.std.specs.List.{AllByRecursion, list_all}
use Rattle.std.proofs.lemmas.Bool.{false≢true, ltb-true}
use Rattle.wd_step_facts.specs.declared.facts.Member.{Member}
use Rattle.wd_step_facts.specs.declared.facts.Member.TheVariants.{Column, Left, Right, Row}
use Rattle.wd_step_facts.specs.Facts.{FactList, columns_named}
use Rattle.wd_sets.specs.Sets.{stands_in}
use Rattle.wd_close.specs.Closure.{Follows, IsClosure, are_named, is_named, is_split_within, side_facts}
use Rattle.wd_close.specs.Examples.{ClosuresComeOut, joined, three_facts}
use Rattle.wd_close.proofs.Lists.{every_at}
use Rattle.wd_close.proofs.Model.{IsClosed, closed_has}
use Rattle.wd_close.proofs.Names.{all_named, columns_in, has_split, sides_named}

-- members that the columns give, to which no fact adds one
record IsWorked (facts : FactList) (columns : List ℕ) (members : List Member) : Type 0 where
  split : is_split_within facts.split facts.columns ≡ true
  named : are_named facts ≡ true
  within : list_all (λ c. nat_lt c facts.columns) columns ≡ true
  given : AllByRecursion (λ m. (is_named facts m ≡ true) × Follows facts columns m) members
  start : list_all (stands_in members) (columns_named columns) ≡ true
  sides : AllByRecursion (IsClosed (stands_in members)) (side_facts facts.split facts.columns)
  closed : AllByRecursion (IsClosed (stands_in members)) facts.list
  row : stands_in members Row ≡ true → (m : Member) → is_named facts m ≡ true → stands_in members m ≡ true

worked : (facts : FactList) (columns : List ℕ) (members : List Member) → IsWorked facts columns members → IsClosure facts columns (stands_in members)
worked facts columns members w m = (
  (λ e. every_at (λ m. (is_named facts m ≡ true) × Follows facts columns m) members w.given m e),
  (λ e. closed_has facts (stands_in members) (columns_named columns) m (λ f. w.row f m e.0) (sides_named facts (has_split facts w.split)) (all_named facts w.named) w.sides w.closed (columns_in facts columns w.within) w.start e.0 e.1),
)

no_row : IsWorked three_facts (0 ∷ []) (Column 0 ∷ Column 1 ∷ Column 2 ∷ [])
no_row = record {
  split = refl;
  named = refl;
  within = refl;
  given = ((refl, λ n s h p q k l a. a), ((refl, λ n s h. h.0), ((refl, λ n s h p q k l a. h.1.0 p q k l (h.0 p q k l a)), tt)));
  start = refl;
  sides = tt;
  closed = ((λ e. refl), ((λ e. refl), ((λ e. absurd (false≢true e)), tt)));
  row = λ e. absurd (false≢true e);
}

in_four : (m : Member) → is_named three_facts m ≡ true → stands_in (Row ∷ Column 0 ∷ Column 1 ∷ Column 2 ∷ Column 3 ∷ []) m ≡ true
in_four (Column zero) e = refl
in_four (Column (suc zero)) e = refl
in_four (Column (suc (suc zero))) e = refl
in_four (Column (suc (suc (suc zero)))) e = refl
in_four (Column (suc (suc (suc (suc c))))) e = absurd (omega (arith, ltb-true (suc (suc (suc (suc c)))) 4 e))
in_four Left e = absurd (false≢true e)
in_four Right e = absurd (false≢true e)
in_four Row e = refl

row : IsWorked three_facts (0 ∷ 3 ∷ []) (Row ∷ Column 0 ∷ Column 1 ∷ Column 2 ∷ Column 3 ∷ [])
row = record {
  split = refl;
  named = refl;
  within = refl;
  given = ((refl, λ n s h p q k l a. h.1.1.0 p q k l ((h.1.0 p q k l (h.0 p q k l (a.0, tt))).0, (a.1.0, tt))), ((refl, λ n s h p q k l a. (a.0, tt)), ((refl, λ n s h p q k l a. h.0 p q k l (a.0, tt)), ((refl, λ n s h p q k l a. h.1.0 p q k l (h.0 p q k l (a.0, tt))), ((refl, λ n s h p q k l a. (a.1.0, tt)), tt)))));
  start = refl;
  sides = tt;
  closed = ((λ e. refl), ((λ e. refl), ((λ e. refl), tt)));
  row = λ e. in_four;
}

one_side : IsWorked joined (0 ∷ []) (Left ∷ Column 0 ∷ Column 1 ∷ [])
one_side = record {
  split = refl;
  named = refl;
  within = refl;
  given = ((refl, λ n s h. h.0), ((refl, λ n s h p q k l a. a), ((refl, λ n s h p q k l a. ((s.0 p q k l (h.0 p q k l a)).1.0, tt)), tt)));
  start = refl;
  sides = ((λ e. refl), ((λ e. absurd (false≢true e)), ((λ e. absurd (false≢true e)), tt)));
  closed = ((λ e. refl), ((λ e. absurd (false≢true e)), tt));
  row = λ e. absurd (false≢true e);
}

in_three : (m : Member) → is_named joined m ≡ true → stands_in (Row ∷ Left ∷ Right ∷ Column 0 ∷ Column 1 ∷ Column 2 ∷ []) m ≡ true
in_three (Column zero) e = refl
in_three (Column (suc zero)) e = refl
in_three (Column (suc (suc zero))) e = refl
in_three (Column (suc (suc (suc c)))) e = absurd (omega (arith, ltb-true (suc (suc (suc c))) 3 e))
in_three Left e = refl
in_three Right e = refl
in_three Row e = refl

both_sides : IsWorked joined (0 ∷ 2 ∷ []) (Row ∷ Left ∷ Right ∷ Column 0 ∷ Column 1 ∷ Column 2 ∷ [])
both_sides = record {
  split = refl;
  named = refl;
  within = refl;
  given = ((refl, λ n s h p q k l a. s.1.1.0 p q k l ((h.0 p q k l (a.0, tt)).0, ((h.1.0 p q k l (a.1.0, tt)).0, tt))), ((refl, λ n s h p q k l a. h.0 p q k l (a.0, tt)), ((refl, λ n s h p q k l a. h.1.0 p q k l (a.1.0, tt)), ((refl, λ n s h p q k l a. (a.0, tt)), ((refl, λ n s h p q k l a. ((s.0 p q k l (h.0 p q k l (a.0, tt))).1.0, tt)), ((refl, λ n s h p q k l a. (a.1.0, tt)), tt))))));
  start = refl;
  sides = ((λ e. refl), ((λ e. refl), ((λ e. refl), tt)));
  closed = ((λ e. refl), ((λ e. refl), tt));
  row = λ e. in_three;
}

pub closures_come_out : ClosuresComeOut
closures_come_out = record {
  no_row = (worked three_facts (0 ∷ []) (Column 0 ∷ Column 1 ∷ Column 2 ∷ []) no_row, refl);
  row = (worked three_facts (0 ∷ 3 ∷ []) (Row ∷ Column 0 ∷ Column 1 ∷ Column 2 ∷ Column 3 ∷ []) row, refl);
  one_side = (worked joined (0 ∷ []) (Left ∷ Column 0 ∷ Column 1 ∷ []) one_side, refl);
  both_sides = (worked joined (0 ∷ 2 ∷ []) (Row ∷ Left ∷ Right ∷ Column 0 ∷ Column 1 ∷ Column 2 ∷ []) both_sides, refl);
}
