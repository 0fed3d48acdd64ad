use Rattle.std.proofs.Common.{arith, ◌≡◌, ◌++◌, ◌+◌, ◌<◌, ◌≤◌, ◌/◌, ◌%◌, ◌^◌, ℕ, List, [], ◌∷◌, Option, sym, subst}
use Rattle.std.specs.Fmt.{decimal}
use Rattle.std.specs.Io.KnownBytes.{Appends}
use Rattle.std.proofs.KnownBytes.{Appends-nil, Appends-trans}
use Rattle.std.proofs.lemmas.Fmt.{decimal_digit, decimal_step}
use Rattle.std.proofs.lemmas.Result.{on_ok_weaker}
use Rattle.wd_command.specs.Streams.{AppendsPart}
use Rattle.wd_command.proofs.StreamLemmas.{AppendsPart-first, AppendsPart-after}
use Rattle.wd_command.proofs.streams.+write_number.Goals as goal
use Rattle.wd_command.proofs.streams.+write_number.Goals.{then-number-ge10+in_ok-write_number, else-number-ge10}

-- the digits in front of the last one were written
record WritesFront (number : ℕ) (before after : Option (List ℕ)) : Type 0 where
  front : List ℕ
  written : Appends before after front
  digits : decimal number ≡ front ++ (48 + number % 10) ∷ []

-- a beginning of the front is one of the number
front_part : (number : ℕ) (before after : Option (List ℕ)) → 10 ≤ number → number < 2 ^ 64 → AppendsPart before after (decimal (number / 10)) → AppendsPart before after (decimal number)
front_part number before after wide fits part =
    subst (AppendsPart before after) (sym (decimal_step number wide fits)) (AppendsPart-first before after (decimal (number / 10)) ((48 + number % 10) ∷ []) part)

pub returns-in_err-write_number-clause-part : goal.returns-in_err-write_number-clause-part
returns-in_err-write_number-clause-part g t c = front_part c.args.number _ _ c.if-number-ge10.true c.ranges.number.fits c.write_number.ensures.part

one_digit : (number : ℕ) → number < 10 → decimal number ≡ (48 + number % 10) ∷ []
one_digit number small =
    let same : number % 10 ≡ number = omega (arith, small) in
    rw same (decimal_digit number small)

pub returns-clause-whole : goal.returns-clause-whole
returns-clause-whole g t c =
    let f : WritesFront c.args.number (g.O.Write.contents c.args.out.now) (g.O.Write.contents c.if-number-ge10.out) = elim c.if-number-ge10.branch [
      | then-number-ge10+in_ok-write_number w ↦ rw w.out-is (record {
        front = decimal (c.args.number / 10);
        written = w.in_ok-write_number.ensures.whole;
        digits = decimal_step c.args.number w.if-number-ge10.true c.ranges.number.fits;
      })
      | else-number-ge10 w ↦ rw w.out-is (record {
        front = [];
        written = Appends-nil _;
        digits = one_digit c.args.number w.if-number-ge10.false;
      })
    ] in
    on_ok_weaker c.write_text.result (λ last. subst (Appends _ _) (sym f.digits) (Appends-trans _ _ _ _ _ f.written last)) c.write_text.ensures.whole

pub returns-clause-part : goal.returns-clause-part
returns-clause-part g t c =
    let f : WritesFront c.args.number (g.O.Write.contents c.args.out.now) (g.O.Write.contents c.if-number-ge10.out) = elim c.if-number-ge10.branch [
      | then-number-ge10+in_ok-write_number w ↦ rw w.out-is (record {
        front = decimal (c.args.number / 10);
        written = w.in_ok-write_number.ensures.whole;
        digits = decimal_step c.args.number w.if-number-ge10.true c.ranges.number.fits;
      })
      | else-number-ge10 w ↦ rw w.out-is (record {
        front = [];
        written = Appends-nil _;
        digits = one_digit c.args.number w.if-number-ge10.false;
      })
    ] in
    subst (AppendsPart _ _) (sym f.digits) (AppendsPart-after _ _ _ f.front _ [] f.written c.write_text.ensures.part)
