-- Members as they are read, as pure data.
use Rattle.wd_with.specs.declared.member.Member.{Member}
use Rattle.wd_with.specs.Members.{NamedQuery}

abbrev pub named_query : Member → NamedQuery
named_query member = record { name = member.name.now; query = member.query.now }
