use Rattle.std.proofs.Common.{◌≡◌, ◌∙◌, ◌<◌, length, sym, subst}
use Rattle.std.specs.Prelude.{All}
use Rattle.wd_sort.specs.Numbers.{AreNumbersBy}
use Rattle.wd_group.specs.Sets.{set_columns}
use Rattle.wd_group.proofs.Listing.{AreGroups-lists, set_columns_within}
use Rattle.wd_group.proofs.step.set_groups.Goals as goal

pub row_numbers-requires-clause-within : goal.row_numbers-requires-clause-within
row_numbers-requires-clause-within c =
    let own : c.deref.result.now ≡ set_columns c.args.columns c.args.set.now = c.deref.ensures.value ∙ c.in_ok-own.ensures in
    subst (λ cs. All (λ k. k < length c.args.numbers.now) cs) (sym own)
    (subst (λ n. All (λ k. k < n) (set_columns c.args.columns c.args.set.now)) (sym c.requires.numbers.long) (set_columns_within c.args.columns c.args.set.now))

pub returns : goal.returns
returns c =
    let rows = c.args.rows.now in
    let joined = c.in_ok-joined.joined in
    let own : c.deref.result.now ≡ set_columns c.args.columns c.args.set.now = c.deref.ensures.value ∙ c.in_ok-own.ensures in
    let by : AreNumbersBy (set_columns c.args.columns c.args.set.now) rows joined.bound joined.codes.items = subst (λ cs. AreNumbersBy cs rows joined.bound joined.codes.items) own c.in_ok-joined.ensures in
    AreGroups-lists c.args.columns c.args.set.now rows joined.bound joined.codes.items c.in_ok-groups.groups by c.in_ok-groups.ensures.numbers c.in_ok-groups.ensures.lists
