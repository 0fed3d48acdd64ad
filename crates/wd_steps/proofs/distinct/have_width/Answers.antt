use Rattle.std.proofs.Common.{◌≡◌, ℕ, ◌∙◌, [], ap, length, sym, arith, below_more}
use Rattle.std.proofs.lemmas.List.{get_or_default}
use Rattle.wd_value.specs.Rows.{row_at}
use Rattle.wd_steps.proofs.distinct.have_width.Goals as goal

pub loop-position-preserved : goal.loop-position-preserved
loop-position-preserved c p low =
    let rows = c.args.rows.now in
    let has = λ (q : ℕ). length (row_at rows q) ≡ c.args.width in
    let here : has c.loop-position.position = sym c.width.ensures ∙ c.if-width.false in
    below_more has c.loop-position.position c.loop-position.invariant here p low

pub returns : goal.returns
returns c =
    let rows = c.args.rows.now in
    λ yes k d low. ap length (get_or_default rows k d [] low) ∙ c.loop-position.invariant k (omega arith)
