use Rattle.std.proofs.Common.{◌∙◌, ◌||◌, sym}
use Rattle.wd_sets.specs.Sets.{has_bit}
use Rattle.wd_sets.proofs.Bits.{member_at}
use Rattle.wd_sets.proofs.set.Set.is_within.Goals as goal

pub returns-clause-outside : goal.returns-clause-outside
returns-clause-outside c =
    λ e.
    let found = c.are_within.ensures.outside e in
    let member = member_at found.0 in (
      member.0,
      (λ i. has_bit (sym c.deref.ensures.value i) (member.1 i)) ∙ found.1,
      (λ i. has_bit (sym c.deref-2.ensures.value i) (member.1 i) || has_bit (sym c.deref-3.ensures.value i) (member.1 i)) ∙ found.2,
    )
