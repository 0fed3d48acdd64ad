use Rattle.std.proofs.Common.{◌≡◌, ◌∙◌, ◌++◌, ◌+◌, ◌<◌, ◌^◌, [], length, get_or, take, refl, ap, subst, sym, arith, rules}
use Rattle.std.proofs.lemmas.List.{length-map}
use Rattle.std.specs.declared.alloc.Global.{Global}
use Rattle.std.specs.declared.vec.Vec.{Vec}
use Rattle.wd_frame.specs.declared.extent.IndexRange.{IndexRange}
use Rattle.wd_frame.specs.Slides.{seen}
use Rattle.wd_frame.specs.IndexRanges.{AreAnswers, AreRising, lists_of, picked, places_along, places_in, range_at}
use Rattle.wd_frame.proofs.Joined.{all_new, along_at, answers_over, few_values, list_at, picked-more}
use Rattle.wd_frame.proofs.over.over_lists.Goals as goal

pub slid-requires-in-loop-number : goal.slid-requires-in-loop-number
slid-requires-in-loop-number g c =
    let lists = c.args.lists.now in
    let k = c.loop-number.number in
    let n = length c.args.values.now in
    let within : k < length lists = c.loop-number-test.true in
    let long = length-map lists (λ (v : Vec IndexRange Global). v.items) in
    let empty = c.loop-number.invariant.empty in
    let rising : AreRising n c.deref-in-loop-number.result.now =
    subst (AreRising n) (list_at lists k c.index-lists-number.result within c.index-lists-number.is ∙ sym c.deref-in-loop-number.ensures.value)
    (along_at n (lists_of lists) k c.requires.lists.along (omega arith)).rising in
    search rules

pub loop-number-preserved : goal.loop-number-preserved
loop-number-preserved g c =
    let plain = g.S.Slide.plain in
    let values = seen c.args.values.now in
    let n = length c.args.values.now in
    let lists = c.args.lists.now in
    let all = lists_of lists in
    let k = c.loop-number.number in
    let at = list_at lists k c.index-lists-number.result c.loop-number-test.true c.index-lists-number.is in
    let many = length-map lists (λ (v : Vec IndexRange Global). v.items) in
    let test = c.loop-number-test.true in
    let within : k < length all = omega arith in
    let so_far = c.loop-number.invariant.answers in
    let long : length (get_or all k []) ≡ n = (along_at n all k c.requires.lists.along within).long in
    let many_more = so_far.long in
    let read = c.deref_mut.ensures.len in
    let room = c.deref-in-loop-number-2.type_inv in
    let same = c.join_all.ensures.long in
    let first : AreAnswers plain (λ p. picked values (places_along (take k all) p)) n c.deref_mut.result.now = subst (AreAnswers plain (λ p. picked values (places_along (take k all) p)) n) (sym c.deref_mut.ensures.value) so_far in
    let second : AreAnswers plain (λ p. picked values (places_in (range_at (get_or all k []) p))) n c.deref-in-loop-number-2.result.now =
    subst (AreAnswers plain (λ p. picked values (places_in (range_at (get_or all k []) p))) n) (sym c.deref-in-loop-number-2.ensures.value)
    (subst (λ m. AreAnswers plain (λ p. picked values (places_in (range_at (get_or all k []) p))) m c.in_ok-more.more.items) long
    (subst (λ list. AreAnswers plain (λ p. picked values (places_in (range_at list p))) (length list) c.in_ok-more.more.items) (c.deref-in-loop-number.ensures.value ∙ sym at) c.in_ok-more.ensures.answers)) in
    let much = second.long in
    let small : n < 2 ^ 62 = omega arith in
    record {
      answers =
          subst (AreAnswers plain (λ p. picked values (places_along (take (k + 1) all) p)) n)
          (sym (all_new c.loop-number.answers.len c.join_all.new.answers c.loop-number.answers.items (same ∙ ap length c.deref_mut.ensures.value) c.loop-number.answers.ok.0))
          (answers_over plain (λ p. picked values (places_along (take k all) p) ++ picked values (places_in (range_at (get_or all k []) p))) (λ p. picked values (places_along (take (k + 1) all) p)) n n c.join_all.new.answers
          (λ p. picked-more values all k p within) refl
          (c.join_all.ensures.joined n (λ p. picked values (places_along (take k all) p)) (λ p. picked values (places_in (range_at (get_or all k []) p))) first second
          (few_values n values all k c.requires.lists within small)));
      empty = c.in_ok-more.ensures.empty;
    }
