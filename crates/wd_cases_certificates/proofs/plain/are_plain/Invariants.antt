use Rattle.std.proofs.Common.{◌≡◌, drop}
use Rattle.std.specs.List.{list_all}
use Rattle.wd_step_facts.specs.Facts.{is_plain}
use Rattle.wd_cases_certificates.proofs.plain.are_plain.Given as goal

abbrev pub invariant-loop-member : goal.invariant-loop-member
invariant-loop-member l = list_all (is_plain l.width) (drop l.member-index l.members) ≡ list_all (is_plain l.width) l.members
