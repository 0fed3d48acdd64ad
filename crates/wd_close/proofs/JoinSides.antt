-- The facts of the sides hold exactly where the positions on each side give its columns, and both give the row.
use Rattle.std.proofs.Common.{ℕ, Option, Some, None, sym, arith, subst}
use Rattle.std.specs.List.{AllByRecursion}
use Rattle.wd_step_facts.specs.declared.facts.Member.TheVariants.{Column}
use Rattle.wd_step_facts.specs.Facts.{Paired, Same, Holds}
use Rattle.wd_facts.proofs.Sides.{HasSides}
use Rattle.wd_close.specs.Closure.{columns_between, side_facts}
use Rattle.wd_close.proofs.Lists.{between_from, between_has, every_at, every_from}

pub side_facts_hold : (n : Paired) (o : Option ℕ) (columns : ℕ) → HasSides n o columns → AllByRecursion (Holds n) (side_facts o columns)
side_facts_hold n None columns sides = tt
side_facts_hold n (Some s) columns sides = (
  (λ p q k l a. every_from (Same n p q) (columns_between 0 s) (λ x e. let r = between_from 0 s x e in subst (Same n p q) (sym r.is) (sides.left p q r.number k l a.0 r.high))),
  (
    (λ p q k l a. every_from (Same n p q) (columns_between s columns) (λ x e. let r = between_from s columns x e in subst (Same n p q) (sym r.is) (sides.right p q r.number k l a.0 r.low r.high))),
    ((λ p q k l a. (sides.both p q k l a.0 a.1.0, tt)), tt),
  ),
)

pub are_sides : (n : Paired) (o : Option ℕ) (columns : ℕ) → AllByRecursion (Holds n) (side_facts o columns) → HasSides n o columns
are_sides n None columns hold = tt
are_sides n (Some s) columns hold = record {
  left = λ p q c k l e h. every_at (Same n p q) (columns_between 0 s) (hold.0 p q k l (e, tt)) (Column c) (between_has 0 s c (omega arith) h);
  right = λ p q c k l e h m. every_at (Same n p q) (columns_between s columns) (hold.1.0 p q k l (e, tt)) (Column c) (between_has s columns c h m);
  both = λ p q k l e f. (hold.1.1.0 p q k l (e, (f, tt))).0;
}
