-- Findings, and the JSON of one.
use Rattle.std.specs.Prelude.{ℕ, List, codes}
use Rattle.serde_json.specs.Data.{Data, string, object, member, no_members}
use Rattle.serde_json.specs.Written.{compact_text}
use Rattle.wd_json.specs.Json.{number_json}
use Rattle.wd_baseline.specs.declared.known.Finding.{Finding}
use Rattle.wd_baseline.specs.declared.known.Finding.TheVariants.{Depends, MayTie, NotRead}
use Rattle.wd_baseline.specs.declared.known.Known.{Known}

-- what is found, the path of the query, and the words of the place
pub record FindingRecord : Type 0 where
  pub finding : Finding
  pub path : List ℕ
  pub place : List ℕ

-- what a finding of the code says
abbrev pub said : Known → FindingRecord
said k = record { finding = k.finding; path = k.path.now; place = k.place.now }

abbrev pub word : Finding → List ℕ
word Depends = codes "depends"
word MayTie = codes "may tie"
word NotRead = codes "not read"

abbrev pub word_json : Finding → Data
word_json finding = string (word finding)

-- an object of exactly a finding's three members
abbrev pub members_json : Data → Data → Data → Data
members_json finding path place = object (member (codes "finding") finding (member (codes "path") path (member (codes "place") place no_members)))

abbrev pub finding_json : FindingRecord → Data
finding_json f = members_json (word_json f.finding) (string f.path) (string f.place)

-- the text of a finding: JSON without white space, members in alphabetical order of their names
abbrev pub finding_text : FindingRecord → List ℕ
finding_text f = compact_text (finding_json f)

-- the version that is read
abbrev pub version_json : Data
version_json = object (member (codes "version") (number_json 1) no_members)
