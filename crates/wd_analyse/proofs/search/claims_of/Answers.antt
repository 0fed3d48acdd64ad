use Rattle.std.proofs.Common.{◌≡◌, ◌+◌, suc, arith, get_or, drop-cons, ◌++◌, [], ◌∷◌, drop, map, take, vec_items, sym, ap, ◌∙◌, subst}
use Rattle.std.proofs.lemmas.List.{map-append, take_all, take_more}
use Rattle.std.specs.List.{AllByRecursion}
use Rattle.wd_plan.specs.Fits.{AreBelow}
use Rattle.wd_analyse.specs.Evidence.{closing_of}
use Rattle.wd_analyse.specs.Sources.{Keeps}
use Rattle.wd_analyse.specs.Steps.{IsSearch}
use Rattle.wd_analyse.proofs.Searches.{at_first}
use Rattle.wd_analyse.proofs.search.claims_of.Goals as goal

pub loop-source-init : goal.loop-source-init
loop-source-init c = record {
  search = rw c.new-2.ensures.items (at_first c.args.facts.now c.args.width c.new.result c.new.ensures);
  low = c.requires.low;
}

pub loop-source-preserved : goal.loop-source-preserved
loop-source-preserved c =
    let sources = c.args.sources.now in
    let at = c.loop-source.source-index in
    let item = c.source-item.result in
    let here : get_or sources at item ≡ item = sym c.source-item.is in
    let next : at + 1 ≡ suc at = omega arith in
    let grown : map vec_items (take (at + 1) sources) ≡ map vec_items (take at sources) ++ c.deref.result.now ∷ [] =
    ap (map vec_items) (take_more sources at item c.loop-source-test.true) ∙ map-append vec_items (take at sources) (get_or sources at item ∷ [])
    ∙ ap (λ X. map vec_items (take at sources) ++ X ∷ []) (ap vec_items here ∙ sym c.deref.ensures.value) in
    let split : drop at sources ≡ get_or sources at item ∷ drop (at + 1) sources = drop-cons sources at item c.loop-source-test.true ∙ ap (λ n. get_or sources at item ∷ drop n sources) (sym next) in
    let low : AllByRecursion (AreBelow c.args.width) (map vec_items (get_or sources at item ∷ drop (at + 1) sources)) = subst (λ l. AllByRecursion (AreBelow c.args.width) (map vec_items l)) split c.loop-source.invariant.low in
    record {
      search = subst (λ l. IsSearch c.args.facts.now c.args.width l c.try_columns.new.search.tried (map closing_of c.try_columns.new.search.claims.items)) (sym grown)
          (c.in_ok-try_columns.ensures (map vec_items (take at sources)) c.loop-source.invariant.search);
      low = low.1;
    }

pub returns : goal.returns
returns c =
    subst (λ s. Keeps c.args.facts.now c.args.width s (map closing_of c.loop-source.search.claims.items))
    (ap (map vec_items) (take_all c.loop-source.source-index c.args.sources.now c.loop-source-test.false)) c.loop-source.invariant.search.keeps
