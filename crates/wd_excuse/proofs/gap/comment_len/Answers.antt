use Rattle.std.proofs.Common.{◌≡◌, ◌≤◌, ◌+◌, ℕ, List, Bool, length, drop, take, ◌-◌, codes, nat_eq, ◌∙◌, sym, ap, refl, arith, length-drop}
use Rattle.std.specs.List.{starts_with}
use Rattle.std.proofs.lemmas.List.{take_rest}
use Rattle.wd_lex.proofs.CommentFacts.{close_step, close_last, open_step, other_step}
use Rattle.wd_excuse.proofs.gap.comment_len.Goals as goal

-- what the rest begins with
begins : (bytes : List ℕ) (at : ℕ) (pair : List ℕ) (t : Bool) → t ≡ starts_with nat_eq (take (length bytes - at) (drop at bytes)) pair → starts_with nat_eq (drop at bytes) pair ≡ t
begins bytes at pair t e = ap (λ l. starts_with nat_eq l pair) (sym (take_rest bytes at)) ∙ sym e

-- a pair of bytes that stands there is within
within_pair : (bytes : List ℕ) (at : ℕ) → 2 ≤ length (take (length bytes - at) (drop at bytes)) → at + 2 ≤ length bytes
within_pair bytes at two = omega (arith, ap length (take_rest bytes at), length-drop at bytes)

pub returns-then-depth-eq0-clause-value : goal.returns-then-depth-eq0-clause-value
returns-then-depth-eq0-clause-value c =
    close_last c.loop-at.depth c.loop-at.at c.args.bytes.now (begins c.args.bytes.now c.loop-at.at (codes "*/") _ c.if-starts_with.ensures.value) c.if-depth-eq0.true ∙ c.loop-at.invariant.same

pub loop-at-preserved-then-starts_with : goal.loop-at-preserved-then-starts_with
loop-at-preserved-then-starts_with c = record {
  same = close_step c.loop-at.depth c.loop-at.at c.args.bytes.now (begins c.args.bytes.now c.loop-at.at (codes "*/") _ c.if-starts_with.ensures.value) c.if-depth-eq0.false ∙ c.loop-at.invariant.same;
  within = within_pair c.args.bytes.now c.loop-at.at (c.if-starts_with.ensures.bound refl);
  deep = omega (arith, c.loop-at.invariant.deep);
}

pub loop-at-preserved-then-starts_with-2 : goal.loop-at-preserved-then-starts_with-2
loop-at-preserved-then-starts_with-2 c = record {
  same = open_step c.loop-at.depth c.loop-at.at c.args.bytes.now (begins c.args.bytes.now c.loop-at.at (codes "*/") _ c.if-starts_with.ensures.value) (begins c.args.bytes.now c.loop-at.at (codes "/*") _ c.if-starts_with-2.ensures.value)
      ∙ c.loop-at.invariant.same;
  within = within_pair c.args.bytes.now c.loop-at.at (c.if-starts_with-2.ensures.bound refl);
  deep = omega (arith, c.loop-at.invariant.deep);
}

pub loop-at-preserved : goal.loop-at-preserved
loop-at-preserved c = record {
  same = other_step c.loop-at.depth c.loop-at.at c.args.bytes.now (begins c.args.bytes.now c.loop-at.at (codes "*/") _ c.if-starts_with.ensures.value) (begins c.args.bytes.now c.loop-at.at (codes "/*") _ c.if-starts_with-2.ensures.value)
      ∙ c.loop-at.invariant.same;
  within = omega arith;
  deep = omega (arith, c.loop-at.invariant.deep);
}

pub returns-then-depth-eq0-clause-within : goal.returns-then-depth-eq0-clause-within
returns-then-depth-eq0-clause-within c = within_pair c.args.bytes.now c.loop-at.at (c.if-starts_with.ensures.bound refl)
