use Rattle.std.proofs.lemmas.Grind.{common_steps}
use Rattle.std.proofs.Common.{◌≡◌, ◌∙◌, sym, ap, subst, ℕ, suc, ◌+◌, ◌<◌, List, [], ◌∷◌, drop, drop-cons, add-one, filter, get_or, length, map, option_map, zip, arith}
use Rattle.std.specs.List.{cons_option, range_with_len}
use Rattle.wd_resolve_scope.specs.declared.scope.ScopeColumn.{ScopeColumn}
use Rattle.wd_resolve_scope.specs.Resolving.{context_of}
use Rattle.wd_resolve_list.specs.Outputs.{columns_shown, is_of, output_of}
use Rattle.wd_resolve_list.proofs.ShownColumns.{after, column_first}
use Rattle.wd_resolve_list.proofs.outputs.columns_of.Goals as goal

pub loop-number-preserved : goal.loop-number-preserved
loop-number-preserved c =
    let context = context_of c.args.context.now in
    let columns = context.scope.columns in
    let n = c.loop-number.number in
    let column = c.column-item.result in
    let same : c.deref-column-items.result.now ≡ columns = c.deref-column-items.ensures.value in
    let at : column ≡ get_or columns n column = c.column-item.is ∙ ap (λ (xs : List ScopeColumn). get_or xs n column) same in
    let within : n < length columns = subst (λ (xs : List ScopeColumn). n < length xs) same c.loop-number-test.true in
    let cut : drop n columns ≡ column ∷ drop (suc n) columns = drop-cons columns n column within ∙ ap (λ x. x ∷ drop (suc n) columns) (sym at) in
    let next : drop n columns ≡ column ∷ drop (n + 1) columns = cut ∙ ap (λ m. column ∷ drop m columns) (sym (add-one n)) in
    let test = λ (x : ℕ × ScopeColumn). is_of (option_map (λ t. t.now) c.args.table) x.1 in
    let rest = zip (range_with_len (n + 1) (length (drop (n + 1) columns))) (drop (n + 1) columns) in
    let before = map output_of c.loop-number.outputs.items in
    let shown = cons_option (option_map output_of c.in_ok-shown.shown) [] in
    ap (λ os. after os (columns_shown context.groups (filter test rest))) c.in_ok-add_shown.ensures
    ∙ sym (column_first context.groups test (n, column) rest before shown c.in_ok-shown.ensures)
    ∙ ap (λ (xs : List ScopeColumn). after before (columns_shown context.groups (filter test (zip (range_with_len n (length xs)) xs)))) (sym next)
    ∙ c.loop-number.invariant

pub returns : goal.returns
returns c = grind (arith, common_steps)
