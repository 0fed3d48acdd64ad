-- The printed words of verdicts, rules, functions and reasons.
use Rattle.std.specs.Prelude.{ℕ, List, ◌∷◌, [], ◌++◌, codes, Option, Some, None}
use Rattle.std.specs.Fmt.{decimal}
use Rattle.wd_analyse.specs.declared.analysis.RuleName.{RuleName}
use Rattle.wd_analyse.specs.declared.analysis.RuleName.TheVariants.{Peers, Unique, Values, Exchange, Whole, Ties, Keys}
use Rattle.wd_analyse.specs.declared.decided.Lack.{Lack}
use Rattle.wd_analyse.specs.declared.decided.Lack.TheVariants as lack
use Rattle.wd_decide.specs.declared.list.ListReason.{ListReason}
use Rattle.wd_decide.specs.declared.list.ListReason.TheVariants as reason
use Rattle.wd_decide.specs.declared.list.ListVerdict.{ListVerdict}
use Rattle.wd_decide.specs.declared.list.ListVerdict.TheVariants as list
use Rattle.wd_decide.specs.declared.verdict.Verdict.{Verdict}
use Rattle.wd_decide.specs.declared.verdict.Verdict.TheVariants.{Deterministic, Depends, Unknown}

-- a line of text: its characters and a line feed
abbrev pub line : List ℕ → List ℕ
line text = text ++ 10 ∷ []

abbrev pub verdict_word : Verdict → List ℕ
verdict_word (Deterministic certificate) = codes "DETERMINISTIC"
verdict_word (Depends witness) = codes "DEPENDS"
verdict_word (Unknown reasons) = codes "UNKNOWN"

abbrev pub list_word : ListVerdict → List ℕ
list_word (list.Listed certificate) = codes "LISTED"
list_word (list.Unlisted reason) = codes "LIST OPEN"
list_word (list.Depends witness) = codes "DEPENDS"
list_word (list.Unknown reasons) = codes "UNKNOWN"

-- why the order of an answer's rows is open
abbrev pub order_words : ListReason → List ℕ
order_words reason.NoOrder = codes "list: no final order"
order_words (reason.Column node column) = codes "node " ++ decimal node ++ codes " list: keys do not give column " ++ decimal column

-- a rule's name; `open` for no rule
abbrev pub rule_word : Option RuleName → List ℕ
rule_word None = codes "open"
rule_word (Some Peers) = codes "peers"
rule_word (Some Unique) = codes "unique"
rule_word (Some Values) = codes "values"
rule_word (Some Exchange) = codes "exchange"
rule_word (Some Whole) = codes "whole"
rule_word (Some Ties) = codes "ties"
rule_word (Some Keys) = codes "keys"

-- what a call or a limit lacks
abbrev pub lack_words : Lack → List ℕ
lack_words lack.SecondClass = codes "second exchange class"
lack_words (lack.Column column) = codes "keys do not give column " ++ decimal column
lack_words lack.Row = codes "keys do not give the row"

-- a call of a node, or its limit
abbrev pub place_words : ℕ → Option ℕ → List ℕ
place_words node (Some call) = codes "node " ++ decimal node ++ codes " call " ++ decimal call
place_words node None = codes "node " ++ decimal node ++ codes " limit"
