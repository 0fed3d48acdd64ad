use Rattle.wd_token_text.proofs.SpellableFacts.{lexed_are_spellable}
use Rattle.wd_token_text.proofs.laws.lexed_are_spellable.Goals as goal

pub returns : goal.returns
returns c = lexed_are_spellable
