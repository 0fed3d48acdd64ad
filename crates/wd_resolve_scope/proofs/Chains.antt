-- Chains of operators and of tests, read from the left, mean what their trees mean.
use Rattle.std.proofs.Common.{◌≡◌, ◌∙◌, ap, refl, List, [], ◌∷◌, Bool, Ok, Err}
use Rattle.wd_syntax.specs.declared.expression.Operator.{Operator}
use Rattle.wd_syntax.specs.Tree.{Tree, Binary, IsNull}
use Rattle.wd_syntax.specs.View.{chained, tested}
use Rattle.wd_resolve_operand.specs.Causes.{Meant, ◌>>=◌}
use Rattle.wd_resolve_operand.specs.Operands.{Operand, combined}
use Rattle.wd_resolve_operand.specs.Operands as operands
use Rattle.wd_resolve_call.specs.References.{SelectReference}
use Rattle.wd_resolve_scope.specs.Parts.{chain_meant, link_meant}
use Rattle.wd_resolve_scope.specs.Resolving.{ContextRule, resolved}

-- tests for NULL, one after another
abbrev pub tests_meant : List Bool → Operand SelectReference → Operand SelectReference
tests_meant [] x = x
tests_meant (not ∷ nots) x = tests_meant nots (operands.tested not x)

-- a meaning goes on as itself
bind_whole : {A : Type 0} (m : Meant A) → m ≡ (m >>= λ x. Ok x)
bind_whole (Ok x) = refl
bind_whole (Err cause) = refl

bind_assoc : {A B C : Type 0} (m : Meant A) (f : A → Meant B) (g : B → Meant C) → ((m >>= f) >>= g) ≡ (m >>= λ x. f x >>= g)
bind_assoc (Ok x) f g = refl
bind_assoc (Err cause) f g = refl

pub tests_mean : (c : ContextRule) (a : Tree) (nots : List Bool) → resolved c (tested a nots) ≡ (resolved c a >>= λ x. Ok (tests_meant nots x))
tests_mean c a [] = bind_whole (resolved c a)
tests_mean c a (not ∷ nots) = tests_mean c (IsNull a not) nots ∙ bind_assoc (resolved c a) (λ x. Ok (operands.tested not x)) (λ x. Ok (tests_meant nots x))

chain_means : (c : ContextRule) (a : Tree) (links : List (Operator × Tree)) → resolved c (chained a links) ≡ (resolved c a >>= λ x. chain_meant c links x)
chain_means c a [] = bind_whole (resolved c a)
chain_means c a (link ∷ links) = chain_means c (Binary link.0 a link.1) links ∙ bind_assoc (resolved c a) (link_meant c link) (λ (z : Operand SelectReference). chain_meant c links z)

-- a chain by its first operand, the operators before the last, and the last
pub chain_ends : (c : ContextRule) (a : Tree) (before : List (Operator × Tree)) (last : Operator × Tree) → resolved c (Binary last.0 (chained a before) last.1) ≡ (resolved c a >>= λ x. chain_meant c before x >>= λ y. link_meant c last y)
chain_ends c a before last = ap (λ (m : Meant (Operand SelectReference)). m >>= λ y. link_meant c last y) (chain_means c a before) ∙ bind_assoc (resolved c a) (λ x. chain_meant c before x) (λ y. link_meant c last y)
