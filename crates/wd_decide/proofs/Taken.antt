-- A reported witness is taken.
use Rattle.wd_query.specs.Causes.{text_number}
use Rattle.wd_query.specs.Laws.{HasMeaningOrCause}
use Rattle.wd_accept.proofs.Verdicts.{no_number}
use Rattle.wd_refute.specs.Refutation.{refusal_number}
use Rattle.wd_refute.specs.declared.error.WitnessError.TheVariants as refute
use Rattle.wd_decide.specs.Laws.{ReportedAreTrue, WitnessesAreTaken}

pub witnesses_taken : HasMeaningOrCause → ReportedAreTrue → WitnessesAreTaken
witnesses_taken meaning_or_cause true_of schema query text witness (refute.Texts refusal) meaning verdict spells cause =
    no_number (text_number refusal) (λ some. meaning_or_cause schema query refusal meaning some cause)
witnesses_taken meaning_or_cause true_of schema query text witness (refute.Witness refusal) meaning verdict spells cause =
    no_number (refusal_number refusal) (λ some. (true_of schema query witness verdict).unrefused text spells refusal some cause)
