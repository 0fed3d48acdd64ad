use Rattle.std.proofs.Common.{◌≡◌, ◌∙◌, ap, subst, sym}
use Rattle.std.proofs.lemmas.Result.{IfOk-weaker}
use Rattle.wd_joined.specs.Alike.{AreAlikeIn}
use Rattle.wd_joined.specs.Joined.{AreOfTables, rows_joined}
use Rattle.wd_joined.specs.Needed.{origins_marked}
use Rattle.wd_joined.proofs.Needing.{marked_within, rows_marked}
use Rattle.wd_joined.proofs.joined.JoinedRows.keep.Goals as goal

pub of_needed-requires : goal.of_needed-requires
of_needed-requires c =
    let j = c.self.inside in
    let marks = c.args.marks.now in
    let kept = c.deref-4.ensures.value ∙ c.in_ok-kept.ensures ∙ ap (origins_marked marks) c.deref.ensures.value in
    subst (λ there. there) (λ i. AreOfTables (sym c.deref-2.ensures.value i) (sym c.deref-3.ensures.value i) (sym kept i))
    (marked_within j.tables.items j.positions.items marks j.origins.items c.self.invariant)

pub returns : goal.returns
returns c =
    let j = c.self.inside in
    let marks = c.args.marks.now in
    let kept = c.deref-4.ensures.value ∙ c.in_ok-kept.ensures ∙ ap (origins_marked marks) c.deref.ensures.value in
    let is : rows_joined c.deref-2.result.now c.deref-3.result.now c.deref-4.result.now j.count ≡ rows_joined j.tables.items j.positions.items (origins_marked marks j.origins.items) j.count = λ i. rows_joined (c.deref-2.ensures.value i) (c.deref-3.ensures.value i) (kept i) j.count in
    let alike = subst (AreAlikeIn marks (rows_joined j.tables.items j.positions.items (origins_marked marks j.origins.items) j.count)) c.self.view_is (rows_marked j.tables.items j.positions.items marks j.origins.items j.count) in
    IfOk-weaker c.of_needed.result _ (λ rows. AreAlikeIn marks rows c.args.self) (λ rows found. subst (λ found_rows. AreAlikeIn marks found_rows c.args.self) (sym (found ∙ is)) alike) c.of_needed.ensures
