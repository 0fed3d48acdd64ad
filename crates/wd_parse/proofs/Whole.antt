-- What a whole reading says of the trees that the tokens spell.
use Rattle.std.proofs.Common.{◌≡◌, ℕ, suc, ◌+◌, ◌-◌, length, length-append, ◌∷◌, Result, Ok, Err, ap, subst, ◌∙◌, arith}
use Rattle.std.specs.Prelude.{IfOk, IfErr}
use Rattle.wd_syntax.specs.declared.query.Query.{Query}
use Rattle.wd_read_cursor.specs.Tokens.{Kinds}
use Rattle.wd_syntax.specs.Tree.{QueryTree}
use Rattle.wd_syntax.specs.View.{view_query}
use Rattle.wd_syntax.specs.Limits.{KeepsLimits, PassesLimitAt}
use Rattle.wd_syntax.specs.Laws.{IsTreeOf}
use Rattle.wd_read_expression.proofs.CutPieces.{CutBy}
use Rattle.wd_parse.proofs.CutQuery.{Passed, whole_cuts}
use Rattle.wd_read_cursor.specs.Cursor.{Fault, Limit as PastLimits, Unexpected as NoTree}
use Rattle.wd_parse.specs.Reading.{whole}
use Rattle.wd_read_expression.proofs.SoundPieces.{Holds}
use Rattle.wd_parse.proofs.SoundQuery.{IsQuery, whole_holds}
use Rattle.wd_parse.proofs.CompleteQuery.{Answers as Reads, whole_answers}
use Rattle.wd_parse.specs.declared.error.ParseError.{ParseError}
use Rattle.wd_parse.specs.declared.error.ParseError.TheVariants.{Unexpected, PastLimit, OutOfMemory}
use Rattle.wd_parse.specs.Causes.{HasCause, GivesTree, IsPastLimit}
use Rattle.wd_parse.specs.Given.{Answers}
use Rattle.wd_parse.proofs.Marked.{query_good, query_past}

-- what is read is a query of the tokens
read_is : (ts : Kinds) (q : QueryTree) → whole 200 32 ts ≡ Ok q → IsQuery 200 32 ts q
read_is ts q e = subst (Holds (IsQuery 200 32 ts)) e (whole_holds 200 32 ts (omega arith))

-- the tree of the tokens is read, or passes a limit
tree_reads : (ts : Kinds) (tree : QueryTree) → IsTreeOf ts tree → (r : Result QueryTree Fault) → whole 200 32 ts ≡ r → Reads 200 32 tree r
tree_reads ts tree t r e = subst (Reads 200 32 tree) (ap (whole 200 32) t.1 ∙ e) (whole_answers 200 32 tree t.0)

pub tree_is : (ts : Kinds) (r : Result Query ParseError) → Answers r ts → IfOk r (λ query. IsTreeOf ts (view_query query))
tree_is ts (Ok query) a = let h = read_is ts (view_query query) a in (h.0, h.1)
tree_is ts (Err e) a = tt

pub limits_kept : (ts : Kinds) (r : Result Query ParseError) → Answers r ts → IfOk r (λ query. KeepsLimits (view_query query))
limits_kept ts (Ok query) a = (query_good (view_query query)).1 (read_is ts (view_query query) a).2
limits_kept ts (Err e) a = tt

-- the place is before what is left
passed_at : (ts : Kinds) (place left : ℕ) → place ≡ length ts - left → Passed 200 32 ts left → PassesLimitAt ts place
passed_at ts place left e p =
    let total : length ts ≡ length p.0 + suc (length p.2) = ap length p.6 ∙ length-append p.0 (p.1 ∷ p.2) in
    record { before = p.0; token = p.1; after = p.2; query = p.3; after_in_query = p.4; at_place = omega (arith, total, p.5); stands = p.6; begins_alike = p.7; well_levelled = p.8; is_past = query_past p.3 (p.1 ∷ p.4) p.9 }

pub cause_is : (ts : Kinds) (r : Result Query ParseError) → Answers r ts → IfErr r (λ refusal. HasCause refusal ts)
cause_is ts (Ok query) a = tt
cause_is ts (Err (Unexpected place)) a = λ tree t. tree_reads ts tree t (Err (NoTree a.0)) a.1
cause_is ts (Err (PastLimit place)) a = (passed_at ts place a.0 a.2 (subst (CutBy (Passed 200 32 ts)) a.1 (whole_cuts 200 32 ts (omega arith))), λ tree t k. tree_reads ts tree t (Err (PastLimits a.0)) a.1 ((query_good tree).0 k))
cause_is ts (Err OutOfMemory) a = tt

pub tree_given : (ts : Kinds) (r : Result Query ParseError) → Answers r ts → (tree : QueryTree) → IsTreeOf ts tree → KeepsLimits tree → GivesTree tree r
tree_given ts (Ok query) a tree t k = tree_reads ts tree t (Ok (view_query query)) a
tree_given ts (Err (Unexpected place)) a tree t k = tree_reads ts tree t (Err (NoTree a.0)) a.1
tree_given ts (Err (PastLimit place)) a tree t k = tree_reads ts tree t (Err (PastLimits a.0)) a.1 ((query_good tree).0 k)
tree_given ts (Err OutOfMemory) a tree t k = tt

pub past_limit : (ts : Kinds) (r : Result Query ParseError) → Answers r ts → (tree : QueryTree) → IsTreeOf ts tree → (KeepsLimits tree → ⊥) → IsPastLimit r
past_limit ts (Ok query) a tree t k =
    let same : view_query query ≡ tree = tree_reads ts tree t (Ok (view_query query)) a in
    k (subst KeepsLimits same ((query_good (view_query query)).1 (read_is ts (view_query query) a).2))
past_limit ts (Err (Unexpected place)) a tree t k = tree_reads ts tree t (Err (NoTree a.0)) a.1
past_limit ts (Err (PastLimit place)) a tree t k = tt
past_limit ts (Err OutOfMemory) a tree t k = tt
