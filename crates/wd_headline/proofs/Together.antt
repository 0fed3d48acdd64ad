-- What the contracts of `verify`, `run` and `refute` imply together.
use Rattle.std.proofs.Common.{subst, sym}
use Rattle.wd_plan.specs.Outcomes.{Agree, outcome}
use Rattle.wd_rules.specs.Lists.{AgreeAsLists}
use Rattle.wd_accept.specs.Laws.{AcceptedHasOne}
use Rattle.wd_accept.specs.Lists.{ListedHasOneList}
use Rattle.wd_refute.specs.Laws.{RefutedHasNoCertificate}
use Rattle.wd_run.specs.Laws.{DataMeets}
use Rattle.wd_headline.specs.Headline.{AcceptedIsNotRefuted, Headline, ListHeadline, RunsGiveIt, RunsGiveTheList}

pub headline : AcceptedHasOne → Headline
headline one schema query certificate accepted read reads = one schema query certificate accepted read reads

pub runs_give_it : AcceptedHasOne → DataMeets → RunsGiveIt
runs_give_it one data_meets schema query certificate given names answer accepted run other choice same valid =
    subst (λ a. Agree a (outcome run.read.plan other choice)) (sym run.answers.is)
    (one schema query certificate accepted run.read run.reads run.instance other run.answers.choice choice (data_meets run.reads.tables given run.instance run.data_holds) same run.answers.valid valid)

pub accepted_is_not_refuted : RefutedHasNoCertificate → AcceptedIsNotRefuted
accepted_is_not_refuted none schema query certificate witness accepted refuted = none schema query witness refuted certificate accepted

pub list_headline : ListedHasOneList → ListHeadline
list_headline one schema query certificate accepted read reads = (one schema query certificate accepted).1 read reads

pub runs_give_the_list : ListedHasOneList → DataMeets → RunsGiveTheList
runs_give_the_list one data_meets schema query certificate given names answer accepted run other choice same valid =
    subst (λ a. AgreeAsLists a (outcome run.read.plan other choice)) (sym run.answers.is)
    ((one schema query certificate accepted).1 run.read run.reads run.instance other run.answers.choice choice (data_meets run.reads.tables given run.instance run.data_holds) same run.answers.valid valid)
