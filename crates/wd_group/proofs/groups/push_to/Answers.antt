use Rattle.std.proofs.Common.{◌≡◌, ◌∙◌, ℕ, ◌<◌, List, [], ◌∷◌, ◌++◌, length, set, sym, ap, subst}
use Rattle.std.specs.declared.alloc.Global.{Global}
use Rattle.std.specs.declared.vec.Vec.{Vec}
use Rattle.std.proofs.lemmas.List.{get_or-map, length-map, map-set}
use Rattle.wd_group.specs.Groups.{list_at, lists_of}
use Rattle.wd_group.proofs.groups.push_to.Goals as goal

-- a list of the code
abbrev items : Vec ℕ Global → List ℕ
items list = list.items

pub returns : goal.returns
returns c =
    let lists = c.args.lists.now.items in
    let number = c.args.number in
    let old = c.index_mut.result.now in
    let within : number < length lists = subst (λ n. number < n) (length-map lists items) c.requires in
    let before : list_at (lists_of lists) number ≡ old.items = get_or-map items lists number old [] within ∙ ap items (sym c.index_mut.ensures.value) in
    map-set items lists number c.push_position.new.list ∙ ap (set (lists_of lists) number) (c.in_ok-push_position.ensures ∙ ap (λ list. list ++ c.args.position ∷ []) (sym before))
