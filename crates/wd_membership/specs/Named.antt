-- Parts of a query as they are read, as pure data.
use Rattle.std.specs.Prelude.{map, option_map}
use Rattle.wd_membership.specs.declared.conjunct.Conjunct.{Conjunct}
use Rattle.wd_membership.specs.declared.membership.Member.{Member}
use Rattle.wd_membership.specs.declared.membership.Membership.{Membership}
use Rattle.wd_membership.specs.declared.membership.Pair.{Pair}
use Rattle.wd_membership.specs.Conjuncts as conjuncts
use Rattle.wd_membership.specs.Memberships as spec

abbrev pub conjunct : Conjunct → conjuncts.Conjunct
conjunct found = record { word = found.word.now; test = found.test.now }

abbrev pub pair : Pair → spec.Pair
pair found = record { outer = found.outer.now; inner = found.inner.now }

abbrev pub membership : Membership → spec.Membership
membership found = record {
  test = found.test;
  word = found.word.now;
  pairs = map pair found.pairs.items;
  select = found.select.now;
  tables = found.tables.now;
  conjuncts = map conjunct found.conjuncts.items;
  clauses = found.clauses.now;
}

abbrev pub member : Member → spec.Member
member found = record { conjunct = conjunct found.conjunct; membership = option_map membership found.membership }
