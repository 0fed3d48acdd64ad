-- A schema's text and a query's text have at most one plan.
use Rattle.std.proofs.Common.{◌≡◌, ◌∙◌, sym, ap, ℕ, List, Ok}
use Rattle.wd_lex.specs.declared.token.Token.{Token}
use Rattle.wd_lex.specs.Lexed.{kinds_of}
use Rattle.wd_lex.proofs.TextLaws.{one_list_of_tokens}
use Rattle.wd_syntax.specs.Spelling.{spell}
use Rattle.wd_syntax.specs.Tree.{QueryTree}
use Rattle.wd_parse.proofs.Unique.{one_tree}
use Rattle.wd_schema.specs.Tables.{TableRule}
use Rattle.wd_schema.proofs.TextFacts.{one_meaning}
use Rattle.wd_resolve.specs.Answers.{Answer, answer}
use Rattle.wd_resolve.specs.Laws.{Reads}
use Rattle.wd_query.specs.Laws.{HasOnePlan}

same_answer : (s t : List TableRule) (q r : QueryTree) (a b : Answer) → s ≡ t → q ≡ r → answer s q ≡ Ok a → answer t r ≡ Ok b → a ≡ b
same_answer s t q r a b schemas trees first second =
    let whole : answer s q ≡ answer t r = ap (λ x. answer x q) schemas ∙ ap (answer t) trees in
    let both : Ok a ≡ Ok b = sym first ∙ whole ∙ second in
    cc both

pub one_plan : HasOnePlan
one_plan schema query a b first second =
    let tokens : first.tokens ≡ second.tokens = one_list_of_tokens query first.tokens second.tokens first.lexed second.lexed in
    let spelled : spell first.tree ≡ kinds_of second.tokens = first.spelled ∙ ap kinds_of tokens in
    let trees : first.tree ≡ second.tree = one_tree (kinds_of second.tokens) first.tree second.tree first.levelled second.levelled spelled second.spelled in
    same_answer first.tables second.tables first.tree second.tree a b (one_meaning schema first.tables second.tables first.declares second.declares) trees first.means second.means
