use Rattle.std.proofs.Common.{◌≡◌, ◌++◌, ◌<◌, ◌+◌, ℕ, List, [], ◌∷◌, All, ap, get_or, length, length-append, refl, subst, sym, take, arith}
use Rattle.std.proofs.lemmas.List.{take_all, take_more}
use Rattle.std.proofs.lemmas.List.Elements.{All-push}
use Rattle.wd_fix.proofs.Choosing.{choose, next_of, next_within, pass}
use Rattle.wd_schema.specs.Schemas.{schema_of}
use Rattle.wd_query_front.specs.Fronts.{IsLeft, IsRespelledAt, statement_of}
use Rattle.wd_query_front.proofs.front.respelled_statements.Goals as goal
use Rattle.wd_query_front.proofs.front.respelled_statements.Goals.{in-Some+in_ok-push, in_default}

-- a list with an element at its end
some_there : {X : Type 0} (xs : List X) (x : X) → xs ++ x ∷ [] ≡ [] → ⊥
some_there xs x e = let more = length-append xs (x ∷ []) in let none = ap length e in omega (arith, more, none)

-- one element more
one_more : {X : Type 0} (P : X → Type 0) (xs : List X) (i : ℕ) (d : X) → i < length xs → All P (take i xs) → P (get_or xs i d) → All P (take (i + 1) xs)
one_more P xs i d within all here = subst (All P) (sym (take_more xs i d within)) (All-push P (take i xs) (get_or xs i d) all here)

pub respelled_statement-requires-clause-ordered : goal.respelled_statement-requires-clause-ordered
respelled_statement-requires-clause-ordered c =
    let l = c.loop-span in
    let next = next_of l.fixes.items c.args.spans.now l.span-index (record { start = 0; end = 0 }) (length c.args.text.now) c.loop-span-test.true l.invariant.ordered in
    (next_within l.fixes.items _ _ (length c.args.text.now) next).0

pub respelled_statement-requires-clause-within : goal.respelled_statement-requires-clause-within
respelled_statement-requires-clause-within c =
    let l = c.loop-span in
    let next = next_of l.fixes.items c.args.spans.now l.span-index (record { start = 0; end = 0 }) (length c.args.text.now) c.loop-span-test.true l.invariant.ordered in
    (next_within l.fixes.items _ _ (length c.args.text.now) next).1

pub loop-span-preserved : goal.loop-span-preserved
loop-span-preserved c =
    let l = c.loop-span in
    let next = next_of l.fixes.items c.args.spans.now l.span-index (record { start = 0; end = 0 }) (length c.args.text.now) c.loop-span-test.true l.invariant.ordered in
    elim c.match-branch-2.branch [
      | in-Some+in_ok-push w ↦
          let stands = rw w.in-Some.is at c.in_ok-fix.ensures.stands in
          let respelled = rw w.in-Some.is at c.in_ok-fix.ensures.respelled in
          rw (w.fixes-is, w.in_ok-push.ensures.items) (record {
            ordered = choose l.fixes.items w.in-Some.fix _ _ (length c.args.text.now) stands next;
            each = All-push (IsRespelledAt c.args.declared.now c.args.schema.now c.args.text.now) l.fixes.items w.in-Some.fix l.invariant.each respelled;
            left = λ none. absurd (some_there l.fixes.items w.in-Some.fix none);
          })
      | in_default w ↦
          let here = rw w.in_default.is at c.in_ok-fix.ensures.left in
          rw w.fixes-is (record {
            ordered = pass l.fixes.items _ _ (length c.args.text.now) next;
            each = l.invariant.each;
            left = λ none. one_more (λ span. IsLeft (schema_of c.args.tables.now) c.args.declared.now c.args.schema.now (statement_of c.args.text.now span)) c.args.spans.now l.span-index (record { start = 0; end = 0 }) c.loop-span-test.true (l.invariant.left none) (here refl);
          })
    ]

pub returns-clause-left : goal.returns-clause-left
returns-clause-left c = λ none. subst (All (λ span. IsLeft (schema_of c.args.tables.now) c.args.declared.now c.args.schema.now (statement_of c.args.text.now span))) (take_all c.loop-span.span-index c.args.spans.now c.loop-span-test.false) (c.loop-span.invariant.left none)
