use Rattle.std.proofs.Common.{◌∙◌, ℕ, List, sym, subst}
use Rattle.wd_spelling.specs.Spelling.{IsWordOf, waiting_words}
use Rattle.wd_spelling.proofs.Writing.{single_word, word_between, word_first, word_last}
use Rattle.wd_spelling.proofs.spell.spell_expression.Goals as goal

pub returns-then-not-branch : goal.returns-then-not-branch
returns-then-not-branch c =
    let names = c.args.names.now in
    let word = subst (λ (w : List ℕ). IsWordOf names c.in-Some.item w) (sym c.as_str.ensures.value) c.in_ok-word.ensures in
    let single = single_word names c.in-Some.item c.as_str.result.now word c.in_default-item.not-Operand in
    let first = word_first names _ _ _ _ c.pop.new.self.items c.in-Some.item _ c.loop-item.invariant c.in-Some.ensures.items single in
    word_last c.in_ok-add_word.field-0 _ _ _ c.if-not-branch.true (first ∙ c.in_ok-add_word.ensures (waiting_words names c.pop.new.self.items))

pub loop-item-preserved : goal.loop-item-preserved
loop-item-preserved c =
    let names = c.args.names.now in
    let word = subst (λ (w : List ℕ). IsWordOf names c.in-Some.item w) (sym c.as_str.ensures.value) c.in_ok-word.ensures in
    let single = single_word names c.in-Some.item c.as_str.result.now word c.in_default-item.not-Operand in
    let first = word_first names _ _ _ _ c.pop.new.self.items c.in-Some.item _ c.loop-item.invariant c.in-Some.ensures.items single in
    word_between c.in_ok-add_word.field-0 _ _ _ c.if-not-branch.false (first ∙ c.in_ok-add_word.ensures (waiting_words names c.pop.new.self.items))
